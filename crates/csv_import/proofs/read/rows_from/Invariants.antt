use Rattle.std.proofs.Common.{◌≡◌, ◌+◌, ℕ, List, Some, length}
use Rattle.csv_import.specs.Inner.Midway.{HasGivenRows, IsOpen}
use Rattle.csv_import.proofs.read.rows_from.Given as goal

abbrev pub invariant-loop-number : goal.invariant-loop-number
invariant-loop-number g l = record {
  open_still : IsOpen l.records;
  given : (text : List ℕ) → g.R.Read.remaining l.fn.reader ≡ Some text →
      HasGivenRows g.R.Read.remaining text l.rows.items l.records;
  count : length l.rows.items + 1 ≡ l.number;
}
