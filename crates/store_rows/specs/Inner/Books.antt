-- What the rows of a book say.
use Rattle.std.specs.Prelude.{◌≡◌, ◌≤◌, ℕ, List, map, All, AllPairs}
use Rattle.store_model.specs.Contents.{request_of}
use Rattle.store_model.specs.declared.rows.RequestRow.{RequestRow}
use Rattle.store_rows.specs.Stands.{DecidedRequest, IsDecision, request_entry, request_entries}

-- The row is that of the request at this place.
abbrev pub SaysRequest : ℕ → RequestRow → DecidedRequest → Type 0
SaysRequest place row e = (request_of row ≡ request_entry (place, e)) × IsDecision e

-- The rows are those of the requests of a book, in their order, at hours that do not fall.
pub record IsSaid (rows : List RequestRow) (book : List DecidedRequest) : Type 0 where
  pub rows_are : map request_of rows ≡ request_entries book
  pub each : All IsDecision book
  pub rise : AllPairs (λ a b. a.hour ≤ b.hour) book
