use Rattle.std.proofs.Common.{arith}
use Rattle.std.proofs.lemmas.Grind.{common_steps}
use Rattle.std.proofs.Common.{map, ◌∷◌, []}
use Rattle.store_model.specs.Contents.{device_of}
use Rattle.store_model.specs.Entries.{name_number_cmp}
use Rattle.store_rows.specs.Differences.{is_same_device}
use Rattle.store_rows.specs.RingRows.{device_entry}
use Rattle.store_rows.specs.Inner.Lacking.{lacking}
use Rattle.ring_words.specs.declared.device.Device.{Device}
use Rattle.store_rows.proofs.Steps.{step_more, entries_more}
use Rattle.store_rows.proofs.differences.push_devices.Goals as goal

pub loop-device-preserved : goal.loop-device-preserved
loop-device-preserved c =
    step_more {X = Device} (λ ds. lacking name_number_cmp is_same_device
    (map (device_entry c.args.name.now) c.args.others.now) (map (device_entry c.args.name.now)
    ds)) (λ d. lacking name_number_cmp is_same_device (map (device_entry c.args.name.now)
    c.args.others.now) (device_entry c.args.name.now d ∷ []))
    (entries_more name_number_cmp is_same_device (map (device_entry c.args.name.now)
    c.args.others.now) (device_entry c.args.name.now))
    c.args.devices.now c.loop-device.device-index c.device-item.result c.loop-device-test.true
    c.device-item.is
    (map device_of c.args.into.now.items) (map device_of c.loop-device.into.items)
    (map device_of c.push_new_device.new.into.items) c.loop-device.invariant
    c.in_ok-push_new_device.ensures

pub returns : goal.returns
returns c = grind (arith, common_steps)
