use Rattle.ring_text.specs.Inner.Reading.{AreDigitsAt}
use Rattle.ring_text.proofs.partition.digits_at.Given as goal

abbrev pub invariant-loop-place : goal.invariant-loop-place
invariant-loop-place l = AreDigitsAt l.text l.from l.place l.number
