use Rattle.std.proofs.Common.{◌≡◌, map, take}
use Rattle.store_model.specs.Contents.{device_key, device_of}
use Rattle.store_model.specs.declared.rows.DeviceRow.{DeviceRow}
use Rattle.store_rows.proofs.change.keys_of.Given as goal

abbrev pub invariant-loop-row : goal.invariant-loop-row
invariant-loop-row l = map device_key l.keys.items ≡ map (λ (row : DeviceRow). (device_of row).0)
    (take l.row-index l.rows)
