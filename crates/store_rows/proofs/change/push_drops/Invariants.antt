use Rattle.std.proofs.Common.{◌≡◌, ◌++◌, map}
use Rattle.store_model.specs.declared.change.RowChange.TheVariants.{DropDevice}
use Rattle.store_rows.proofs.change.push_drops.Given as goal

abbrev pub invariant-loop-key : goal.invariant-loop-key
invariant-loop-key l = l.into.items ≡ l.fn.into.items ++ map DropDevice l.yielded
