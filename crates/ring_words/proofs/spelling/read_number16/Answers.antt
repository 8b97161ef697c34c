use Rattle.std.proofs.Common.{◌≡◌, ℕ, List, Result, Ok, Err, IsErr, IsErrAnd, sym, subst}
use Rattle.ring_words.specs.Limits.{greatest_short}
use Rattle.ring_words.specs.Spelling.{Reads, SpellsNumber}
use Rattle.ring_words.specs.declared.spelling.SpellingFault.{SpellingFault}
use Rattle.ring_words.proofs.spelling.read_number16.Goals as goal

-- A fault that is handed on says what it said.
handed_on : (word : List ℕ) (m n : ℕ) (f : SpellingFault) (r : Result ℕ SpellingFault) → m ≡ n →
    IsErr r → IsErrAnd r (λ g. g ≡ f) → Reads {X = ℕ} (SpellsNumber word 0 m) (Err f) →
    Reads (SpellsNumber word 0 n) r
handed_on word m n f (Ok x) same is_err gives told = cc
handed_on word m n f (Err g) same is_err gives told =
    subst (λ (x : SpellingFault). Reads {X = ℕ} (SpellsNumber word 0 n) (Err x)) (sym gives)
    (subst (λ (k : ℕ). Reads {X = ℕ} (SpellsNumber word 0 k) (Err f)) same told)

pub returns-in_err-number-clause-read : goal.returns-in_err-number-clause-read
returns-in_err-number-clause-read c = handed_on c.args.word.now c.from.result greatest_short
    c.in_err-number.field-0.0 c.from_residual.result c.from.ensures c.from_residual.ensures.0
    c.from_residual.ensures.1 c.in_err-number.ensures.read
