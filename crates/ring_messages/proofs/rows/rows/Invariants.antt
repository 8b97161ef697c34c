use Rattle.std.proofs.Common.{map, take}
use Rattle.std.specs.List.{AllZip}
use Rattle.serde_json.specs.View.{view}
use Rattle.ring_messages.specs.Inner.Says.{ListsRow}
use Rattle.ring_messages.proofs.rows.rows.Given as goal

abbrev pub invariant-loop-list : goal.invariant-loop-list
invariant-loop-list l = AllZip ListsRow (map view (take l.list-index l.lists)) l.rows.items
