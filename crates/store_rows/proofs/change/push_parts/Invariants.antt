use Rattle.std.proofs.Common.{◌≡◌, ◌++◌, map}
use Rattle.store_rows.specs.Inner.Written.{part_change}
use Rattle.store_rows.proofs.change.push_parts.Given as goal

abbrev pub invariant-loop-row : goal.invariant-loop-row
invariant-loop-row l = l.into.items ≡ l.fn.into.items ++ map (part_change l.known) l.yielded
