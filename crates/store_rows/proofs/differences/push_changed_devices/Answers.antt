use Rattle.std.proofs.Common.{map, ◌∙◌}
use Rattle.store_model.specs.Contents.{device_of}
use Rattle.store_rows.proofs.Unchanged.{adds_no_device, same_devices}
use Rattle.store_rows.proofs.differences.push_changed_devices.Goals as goal

pub returns-then-eq : goal.returns-then-eq
returns-then-eq c =
    let valid = c.devices-devices.ensures.valid in
    adds_no_device (map device_of c.args.into.now.items) c.args.name.now c.args.others.now
    c.args.ring.now.devices valid.devices.rise (same_devices c.args.others.now
    c.devices-devices.result.now c.eq.result c.eq.ensures c.if-eq.true
    ∙ c.devices-devices.ensures.value)
