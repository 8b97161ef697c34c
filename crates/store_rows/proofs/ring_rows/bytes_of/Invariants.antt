use Rattle.std.proofs.Common.{◌≡◌, take}
use Rattle.std.specs.List.{flat_map}
use Rattle.store_rows.specs.RingRows.{two_bytes}
use Rattle.store_rows.proofs.ring_rows.bytes_of.Given as goal

abbrev pub invariant-loop-device : goal.invariant-loop-device
invariant-loop-device l = l.bytes.items ≡ flat_map two_bytes (take l.device-index l.devices)
