use Rattle.std.proofs.Common.{arith}
use Rattle.std.specs.FinMap.{entries}
use Rattle.store_tables.specs.Contents.{contents_of}
use Rattle.store_tables.specs.Entries.{device_rows}
use Rattle.store_tables.specs.Inner.Texts.{list_device}
use Rattle.store_tables.proofs.Reading.{is_listed, lists_past, lists_so, more_is}
use Rattle.store_tables.proofs.Tables.Facts.{device_at, more}
use Rattle.store_tables.proofs.Tables.Lists.{device_lists}
use Rattle.store_tables.proofs.reads.DeviceRowListed.query.Goals as goal

pub returns : goal.returns
returns c = λ made after. lists_past 3 list_device device_rows (λ c. entries c.devices)
    (λ n. lists_so (more 3 n) device_rows (device_at n) list_device (device_lists n)
    (λ c. entries c.devices) (λ trees. is_listed 2 (more 3 n) (contents_of trees).devices
    (omega (arith, more_is 3 n)))) made (omega (arith, after))
