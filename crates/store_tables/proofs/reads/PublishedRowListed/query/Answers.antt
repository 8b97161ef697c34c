use Rattle.std.proofs.Common.{arith}
use Rattle.std.specs.FinMap.{entries}
use Rattle.store_tables.specs.Contents.{contents_of}
use Rattle.store_tables.specs.Entries.{published_rows}
use Rattle.store_tables.specs.Inner.Texts.{list_published}
use Rattle.store_tables.proofs.Reading.{is_listed, lists_past, lists_so, more_is}
use Rattle.store_tables.proofs.Tables.Facts.{published_at, more}
use Rattle.store_tables.proofs.Tables.Lists.{published_lists}
use Rattle.store_tables.proofs.reads.PublishedRowListed.query.Goals as goal

pub returns : goal.returns
returns c = λ made after. lists_past 6 list_published published_rows (λ c. entries c.published)
    (λ n. lists_so (more 6 n) published_rows (published_at n) list_published (published_lists n)
    (λ c. entries c.published) (λ trees. is_listed 5 (more 6 n) (contents_of trees).published
    (omega (arith, more_is 6 n)))) made (omega (arith, after))
