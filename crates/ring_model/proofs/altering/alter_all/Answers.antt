use Rattle.std.proofs.Common.{arith}
use Rattle.std.proofs.lemmas.List.Edits.{map_over_more}
use Rattle.ring_model.proofs.altering.alter_all.Goals as goal

pub loop-device-preserved : goal.loop-device-preserved
loop-device-preserved g c =
    rw (c.alter.ensures, ← c.device-item.is)
    (map_over_more (g.A.Alteration.altered c.args.alteration.now) c.args.devices.now
    c.loop-device.devices c.loop-device.device-index c.device-item.result (omega arith)
    c.loop-device.invariant c.device-item.is)
