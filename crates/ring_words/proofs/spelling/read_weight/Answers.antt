use Rattle.std.proofs.Common.{◌≡◌, ℕ, Option, Some, None, Result, IsErrOf}
use Rattle.std.specs.Option.{ok_or}
use Rattle.ring_words.specs.declared.spelling.SpellingFault.{SpellingFault}
use Rattle.ring_words.specs.declared.spelling.SpellingFault.TheVariants.{Bad, NoMemory}
use Rattle.ring_words.proofs.spelling.read_weight.Goals as goal

no_memory : (weight : Option ℕ) (r : Result ℕ SpellingFault) → r ≡ ok_or weight Bad →
    IsErrOf r NoMemory → ⊥
no_memory (Some w) r is e = cc
no_memory None r is e = cc

pub returns-clause-memory : goal.returns-clause-memory
returns-clause-memory c = no_memory c.parse.result c.ok_or.result c.ok_or.ensures.value
