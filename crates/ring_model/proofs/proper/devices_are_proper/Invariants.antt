use Rattle.std.proofs.Common.{All, take}
use Rattle.ring_words.specs.Rows.{IsProperRow}
use Rattle.ring_words.specs.declared.device.Device.{Device}
use Rattle.ring_model.proofs.proper.devices_are_proper.Given as goal

abbrev pub invariant-loop-device : goal.invariant-loop-device
invariant-loop-device l = All (λ (d : Device). IsProperRow d.row) (take l.device-index l.devices)
