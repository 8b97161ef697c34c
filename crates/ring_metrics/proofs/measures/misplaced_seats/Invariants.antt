use Rattle.std.proofs.Common.{◌≡◌, ◌≤◌, ◌*◌, ◌^◌, sum_by, take}
use Rattle.std.specs.List.{zip}
use Rattle.ring_metrics.specs.Measures.{seats_above}
use Rattle.ring_metrics.proofs.measures.misplaced_seats.Given as goal

-- the seats of the devices so far
abbrev pub invariant-loop-place : goal.invariant-loop-place
invariant-loop-place l = record {
  sum : l.misplaced ≡ sum_by (seats_above l.ring) (take l.place (zip l.ring.devices l.wants));
  small : l.misplaced ≤ l.place * 2 ^ 32;
}
