use Rattle.std.proofs.Common.{◌≡◌, false, length, replicate}
use Rattle.ring_place.specs.Made.{Homes, keep_at}
use Rattle.ring_room.specs.Steps.{after_steps}
use Rattle.ring_place.proofs.homes.homes_of.Given as goal

-- the homes of the partitions so far are kept
abbrev pub invariant-loop-partition : goal.invariant-loop-partition
invariant-loop-partition l =
    let now : Homes = record { load = l.kept; kept = l.homes.items } in
    let first : Homes = record { load = l.room; kept = replicate (length l.seats) false } in
    record {
      devices : l.kept.devices ≡ l.room.devices;
      long : length l.homes.items ≡ length l.seats;
      by_name : now ≡ after_steps (keep_at l.waiting l.old l.seats) l.partition-index first;
    }
