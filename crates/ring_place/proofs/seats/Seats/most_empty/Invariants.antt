use Rattle.std.proofs.Common.{◌≡◌, ℕ, ◌<◌, ◌≤◌, count_by}
use Rattle.ring_room.specs.Rows.{is_empty}
use Rattle.ring_room.specs.Steps.{after_steps}
use Rattle.ring_place.specs.Made.{more_empty}
use Rattle.ring_place.specs.Made.{row_at}
use Rattle.ring_place.proofs.seats.Seats.most_empty.Given as goal

-- no partition so far has more
abbrev pub invariant-loop-partition : goal.invariant-loop-partition
invariant-loop-partition l = record {
  most : (p : ℕ) → p < l.partition → count_by is_empty (row_at l.self p) ≤ l.most;
  by_name : l.most ≡ after_steps (more_empty l.self) l.partition 0;
}
