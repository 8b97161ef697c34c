use Rattle.std.proofs.Common.{All, subst}
use Rattle.std.proofs.lemmas.List.{take_all}
use Rattle.std.proofs.lemmas.List.Elements.{All-more}
use Rattle.ring_words.specs.Rows.{IsProperRow}
use Rattle.ring_words.specs.declared.device.Device.{Device}
use Rattle.ring_model.proofs.proper.devices_are_proper.Goals as goal

pub loop-device-preserved : goal.loop-device-preserved
loop-device-preserved c =
    All-more (λ (d : Device). IsProperRow d.row) c.args.devices.now c.loop-device.device-index
    c.device-item.result c.loop-device-test.true c.loop-device.invariant
    (subst (λ (d : Device). IsProperRow d.row) c.device-item.is c.row_is_proper.ensures)

pub returns : goal.returns
returns c = subst (λ ds. All (λ (d : Device). IsProperRow d.row) ds)
    (take_all c.loop-device.device-index c.args.devices.now c.loop-device-test.false)
    c.loop-device.invariant
