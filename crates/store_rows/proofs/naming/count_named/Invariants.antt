use Rattle.std.proofs.Common.{◌≡◌, take}
use Rattle.std.specs.List.{AllByRecursion}
use Rattle.store_rows.proofs.naming.count_named.Given as goal

abbrev pub invariant-loop-place : goal.invariant-loop-place
invariant-loop-place g l =
    AllByRecursion (λ row. g.T.RowOfRing.ring_name row ≡ l.name) (take l.place l.rows)
