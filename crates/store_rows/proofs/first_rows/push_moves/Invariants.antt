use Rattle.std.proofs.Common.{◌≡◌, ◌++◌, map, take}
use Rattle.std.specs.List.{enumerate_from, flat_map}
use Rattle.store_model.specs.Contents.{moved_of}
use Rattle.store_rows.specs.FirstRows.{moved_entry}
use Rattle.store_rows.proofs.first_rows.push_moves.Given as goal

abbrev pub invariant-loop-part : goal.invariant-loop-part
invariant-loop-part l = map moved_of l.into.items ≡ map moved_of l.fn.into.items ++
    flat_map (moved_entry l.name) (take l.part (enumerate_from 0 l.moves))
