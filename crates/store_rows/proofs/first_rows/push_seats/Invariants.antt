use Rattle.std.proofs.Common.{◌≡◌, ◌++◌, map, take}
use Rattle.std.specs.List.{enumerate_from}
use Rattle.store_model.specs.Contents.{seat_of}
use Rattle.store_rows.specs.FirstRows.{seat_entry}
use Rattle.store_rows.proofs.first_rows.push_seats.Given as goal

abbrev pub invariant-loop-place : goal.invariant-loop-place
invariant-loop-place l = map seat_of l.into.items ≡ map seat_of l.fn.into.items ++
    map (seat_entry l.name l.replicas) (take l.place (enumerate_from 0 l.seats))
