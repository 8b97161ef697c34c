use Rattle.std.proofs.Common.{map, ap, ◌∙◌, ◌++◌, List}
use Rattle.ring_model.specs.Ring.{RingRecord}
use Rattle.store_model.specs.Contents.{device_of}
use Rattle.store_model.specs.Entries as rows
use Rattle.store_model.specs.Entries.{NameNumber, name_number_cmp}
use Rattle.store_rows.specs.Differences.{is_same_device}
use Rattle.store_rows.specs.Inner.Lacking.{device_entries_of}
use Rattle.store_rows.specs.RingRows.{device_entry}
use Rattle.store_rows.proofs.Steps.{lacking_nothing, seen_step}
use Rattle.store_rows.proofs.all_rows.device_rows.Goals as goal

pub loop-entry-preserved : goal.loop-entry-preserved
loop-entry-preserved c =
    let name = c.entry-item.result.0 in
    let all = λ (es : List (NameNumber × rows.Device)). map device_of c.loop-entry.rows.items ++ es in
    seen_step device_entries_of c.list-entry-items.result.now c.loop-entry.entry-index
    c.entry-item.result c.loop-entry-test.true c.entry-item.is
    (map device_of c.loop-entry.rows.items) (map device_of c.push_devices.new.into.items)
    c.loop-entry.invariant
    (c.in_ok-push_devices.ensures
    ∙ ap all (lacking_nothing name_number_cmp is_same_device (map (device_entry name)
    c.devices.result.now))
    ∙ ap (λ ds. all (map (device_entry name) ds)) c.devices.ensures.value
    ∙ ap (λ (r : RingRecord). all (device_entries_of (name, r))) c.deref.ensures)
