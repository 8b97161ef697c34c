use Rattle.std.proofs.Common.{arith}
use Rattle.std.specs.FinMap.{entries}
use Rattle.store_tables.specs.Contents.{contents_of}
use Rattle.store_tables.specs.Entries.{part_rows}
use Rattle.store_tables.specs.Inner.Texts.{list_part}
use Rattle.store_tables.proofs.Reading.{is_listed, lists_past, lists_so, more_is}
use Rattle.store_tables.proofs.Tables.Facts.{part_at, more}
use Rattle.store_tables.proofs.Tables.Lists.{part_lists}
use Rattle.store_tables.proofs.reads.PartRowListed.query.Goals as goal

pub returns : goal.returns
returns c = λ made after. lists_past 8 list_part part_rows (λ c. entries c.parts)
    (λ n. lists_so (more 8 n) part_rows (part_at n) list_part (part_lists n)
    (λ c. entries c.parts) (λ trees. is_listed 7 (more 8 n) (contents_of trees).parts
    (omega (arith, more_is 8 n)))) made (omega (arith, after))
