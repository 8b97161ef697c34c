use Rattle.std.proofs.Common.{All, subst, None}
use Rattle.std.proofs.lemmas.List.{take_all}
use Rattle.std.proofs.lemmas.List.Elements.{All-more}
use Rattle.ring_model.specs.Valid.{IsHour}
use Rattle.ring_model.proofs.proper.moves_are_proper.Goals as goal

pub loop-hour-preserved : goal.loop-hour-preserved
loop-hour-preserved c = All-more IsHour c.args.moves.now c.loop-hour.hour-index None
    c.loop-hour-test.true c.loop-hour.invariant c.hour_is_proper.ensures

pub returns : goal.returns
returns c = subst (All IsHour) (take_all c.loop-hour.hour-index c.args.moves.now
    c.loop-hour-test.false) c.loop-hour.invariant
