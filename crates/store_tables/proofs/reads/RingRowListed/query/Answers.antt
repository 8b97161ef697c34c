use Rattle.std.proofs.Common.{arith}
use Rattle.std.specs.FinMap.{entries}
use Rattle.store_tables.specs.Contents.{contents_of}
use Rattle.store_tables.specs.Entries.{ring_rows}
use Rattle.store_tables.specs.Inner.Texts.{list_ring}
use Rattle.store_tables.proofs.Reading.{is_listed, lists_past, lists_so, more_is}
use Rattle.store_tables.proofs.Tables.Facts.{ring_at, more}
use Rattle.store_tables.proofs.Tables.Lists.{ring_lists}
use Rattle.store_tables.proofs.reads.RingRowListed.query.Goals as goal

pub returns : goal.returns
returns c = λ made after. lists_past 2 list_ring ring_rows (λ c. entries c.rings)
    (λ n. lists_so (more 2 n) ring_rows (ring_at n) list_ring (ring_lists n)
    (λ c. entries c.rings) (λ trees. is_listed 1 (more 2 n) (contents_of trees).rings
    (omega (arith, more_is 2 n)))) made (omega (arith, after))
