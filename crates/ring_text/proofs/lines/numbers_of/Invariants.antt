use Rattle.std.proofs.Common.{map, take}
use Rattle.ring_text.specs.Inner.Reading.{AreNumbers}
use Rattle.ring_text.proofs.lines.numbers_of.Given as goal

abbrev pub invariant-loop-word : goal.invariant-loop-word
invariant-loop-word l = AreNumbers (map (λ word. word.now) (take l.word-index l.words))
    l.numbers.items
