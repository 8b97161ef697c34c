use Rattle.std.proofs.Common.{◌≡◌, ◌++◌, map, take}
use Rattle.store_model.specs.Entries.{name_number_cmp}
use Rattle.store_model.specs.Contents.{device_of}
use Rattle.store_rows.specs.Differences.{is_same_device}
use Rattle.store_rows.specs.RingRows.{device_entry}
use Rattle.store_rows.specs.Inner.Lacking.{lacking}
use Rattle.store_rows.proofs.differences.push_devices.Given as goal

abbrev pub invariant-loop-device : goal.invariant-loop-device
invariant-loop-device l = map device_of l.into.items ≡ map device_of l.fn.into.items ++
    lacking name_number_cmp is_same_device (map (device_entry l.name) l.others)
    (map (device_entry l.name) (take l.device-index l.devices))
