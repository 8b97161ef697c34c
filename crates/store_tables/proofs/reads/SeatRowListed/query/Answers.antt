use Rattle.std.proofs.Common.{arith}
use Rattle.std.specs.FinMap.{entries}
use Rattle.store_tables.specs.Contents.{contents_of}
use Rattle.store_tables.specs.Entries.{seat_rows}
use Rattle.store_tables.specs.Inner.Texts.{list_seat}
use Rattle.store_tables.proofs.Reading.{is_listed, lists_past, lists_so, more_is}
use Rattle.store_tables.proofs.Tables.Facts.{seat_at, more}
use Rattle.store_tables.proofs.Tables.Lists.{seat_lists}
use Rattle.store_tables.proofs.reads.SeatRowListed.query.Goals as goal

pub returns : goal.returns
returns c = λ made after. lists_past 4 list_seat seat_rows (λ c. entries c.seats)
    (λ n. lists_so (more 4 n) seat_rows (seat_at n) list_seat (seat_lists n)
    (λ c. entries c.seats) (λ trees. is_listed 3 (more 4 n) (contents_of trees).seats
    (omega (arith, more_is 4 n)))) made (omega (arith, after))
