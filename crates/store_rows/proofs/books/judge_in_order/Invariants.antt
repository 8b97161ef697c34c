use Rattle.std.proofs.Common.{◌≡◌, List, take}
use Rattle.request_book.specs.Run.{last_hour}
use Rattle.store_rows.specs.Callers.{Bounds}
use Rattle.store_rows.specs.Stands.{DecidedRequest}
use Rattle.store_rows.specs.Inner.Books.{IsSaid}
use Rattle.store_rows.proofs.books.judge_in_order.Given as goal

abbrev pub invariant-loop-place : goal.invariant-loop-place
invariant-loop-place l = (book : List DecidedRequest) × IsSaid (take l.place l.rows) book ×
    (last_hour 0 book ≡ l.hour) × Bounds l.callers book
