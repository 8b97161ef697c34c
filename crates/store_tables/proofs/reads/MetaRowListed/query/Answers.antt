use Rattle.std.proofs.Common.{arith}
use Rattle.std.specs.FinMap.{entries}
use Rattle.store_tables.specs.Contents.{contents_of}
use Rattle.store_tables.specs.Entries.{meta_rows}
use Rattle.store_tables.specs.Inner.Texts.{list_meta}
use Rattle.store_tables.proofs.Reading.{is_listed, lists_past, lists_so, more_is}
use Rattle.store_tables.proofs.Tables.Facts.{meta_at, more}
use Rattle.store_tables.proofs.Tables.Lists.{meta_lists}
use Rattle.store_tables.proofs.reads.MetaRowListed.query.Goals as goal

pub returns : goal.returns
returns c = λ made after. lists_past 1 list_meta meta_rows (λ c. entries c.meta)
    (λ n. lists_so (more 1 n) meta_rows (meta_at n) list_meta (meta_lists n)
    (λ c. entries c.meta) (λ trees. is_listed 0 (more 1 n) (contents_of trees).meta
    (omega (arith, more_is 1 n)))) made (omega (arith, after))
