use Rattle.std.proofs.lemmas.Grind.{common_steps}
use Rattle.std.proofs.Common.{rules, ◌≡◌, ◌++◌, refl, string_bytes, arith}
use Rattle.ring_tables.specs.Layout.{row}
use Rattle.ring_tables.specs.Tables.{device_columns, device_titles, device_texts}
use Rattle.ring_tables.proofs.RowByRow.{next_row}
use Rattle.ring_tables.proofs.devices.device_table.Goals as goal

pub loop-device-preserved : goal.loop-device-preserved
loop-device-preserved c =
    let text = row device_columns (device_texts c.device-item.result) in
    let grown : string_bytes c.push_device.new.into ≡ string_bytes c.loop-device.table ++ text =
    search rules in
    next_row device_columns device_titles device_texts c.devices-devices.result.now
    c.loop-device.device-index c.device-item.result _ _ text
    (omega arith) c.device-item.is c.loop-device.invariant refl grown

pub returns : goal.returns
returns c = grind (arith, common_steps)
