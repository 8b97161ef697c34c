use Rattle.std.proofs.Common.{map, sym, ◌∙◌}
use Rattle.store_model.specs.Contents.{device_of}
use Rattle.store_model.specs.Entries.{name_number_cmp}
use Rattle.store_rows.specs.Differences.{is_same_device}
use Rattle.store_rows.specs.RingRows.{device_entry}
use Rattle.store_rows.specs.Inner.Lacking.{device_in}
use Rattle.store_rows.proofs.Steps.{lacking_none, pushed_one, find_device}
use Rattle.store_rows.proofs.differences.push_new_device.Goals as goal

pub returns-then-has_device : goal.returns-then-has_device
returns-then-has_device c =
    lacking_none name_number_cmp is_same_device (map (device_entry c.args.name.now)
    c.args.others.now) (device_entry c.args.name.now c.args.device.now)
    (map device_of c.args.into.now.items) (device_in c.args.device.now.id c.args.others.now)
    (find_device c.args.name.now c.args.device.now.id c.args.others.now) (sym c.if-has_device.true ∙
    c.has_device.ensures)

pub returns : goal.returns
returns c =
    pushed_one name_number_cmp is_same_device (map (device_entry c.args.name.now) c.args.others.now)
    device_of c.args.into.now.items c.push.new.self.items c.in_ok-device_row.field-0
    (device_entry c.args.name.now c.args.device.now) (device_in c.args.device.now.id
    c.args.others.now)
    c.in_ok-push.ensures.items c.in_ok-device_row.ensures (find_device c.args.name.now
    c.args.device.now.id c.args.others.now) (sym c.if-has_device.false ∙ c.has_device.ensures)
