use Rattle.std.proofs.Common.{◌≡◌, string_bytes, take, map}
use Rattle.ring_tables.specs.Layout.{table}
use Rattle.ring_tables.specs.Tables.{device_columns, device_titles, device_texts}
use Rattle.ring_tables.proofs.devices.device_table.Given as goal

-- the rows of the devices so far
abbrev pub invariant-loop-device : goal.invariant-loop-device
invariant-loop-device l = string_bytes l.table ≡ table device_columns device_titles
    (map device_texts (take l.device-index l.devices))
