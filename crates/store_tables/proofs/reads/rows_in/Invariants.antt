use Rattle.std.proofs.Common.{◌≡◌, ◌++◌, map}
use Rattle.std.specs.Vec.Iter.{into_iter_items}
use Rattle.store_tables.specs.Inner.Shown.{shown_as}
use Rattle.store_tables.proofs.reads.rows_in.Given as goal

-- the rows so far are those that were shown so far
abbrev pub invariant-rows : goal.invariant-rows
invariant-rows g l = record {
  read : map g.T.Listed.entry l.rows.items ≡ map (shown_as g.T.Listed.layout) l.yielded;
  all : l.fn.shown.items ≡ l.yielded ++ into_iter_items l.row-iterator;
}
