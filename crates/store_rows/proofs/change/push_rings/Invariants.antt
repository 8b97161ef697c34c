use Rattle.std.proofs.Common.{◌≡◌, ◌++◌, map}
use Rattle.store_model.specs.declared.change.RowChange.TheVariants.{PutRing}
use Rattle.store_rows.proofs.change.push_rings.Given as goal

abbrev pub invariant-loop-row : goal.invariant-loop-row
invariant-loop-row l = l.into.items ≡ l.fn.into.items ++ map PutRing l.yielded
