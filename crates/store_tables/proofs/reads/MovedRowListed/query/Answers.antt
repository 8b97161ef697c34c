use Rattle.std.proofs.Common.{arith}
use Rattle.std.specs.FinMap.{entries}
use Rattle.store_tables.specs.Contents.{contents_of}
use Rattle.store_tables.specs.Entries.{moved_rows}
use Rattle.store_tables.specs.Inner.Texts.{list_moved}
use Rattle.store_tables.proofs.Reading.{is_listed, lists_past, lists_so, more_is}
use Rattle.store_tables.proofs.Tables.Facts.{moved_at, more}
use Rattle.store_tables.proofs.Tables.Lists.{moved_lists}
use Rattle.store_tables.proofs.reads.MovedRowListed.query.Goals as goal

pub returns : goal.returns
returns c = λ made after. lists_past 5 list_moved moved_rows (λ c. entries c.moved)
    (λ n. lists_so (more 5 n) moved_rows (moved_at n) list_moved (moved_lists n)
    (λ c. entries c.moved) (λ trees. is_listed 4 (more 5 n) (contents_of trees).moved
    (omega (arith, more_is 5 n)))) made (omega (arith, after))
