use Rattle.std.proofs.Common.{refl}
use Rattle.ring_words.proofs.spelling.SpellingFaultFromAllocError.from.Goals as goal

pub returns : goal.returns
returns c = refl
