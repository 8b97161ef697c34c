use Rattle.std.proofs.Common.{◌≡◌, ◌≢◌}
use Rattle.ring_place.specs.declared.gather.Pass.TheVariants.{First}
use Rattle.ring_place.specs.Made.{Gathering, gather_at}
use Rattle.ring_room.specs.Steps.{after_steps}
use Rattle.std.proofs.Common.{take}
use Rattle.ring_place.specs.Inner.Gathering.{Falls, IsPass}
use Rattle.ring_place.proofs.gather.gather.Given as goal

-- the partitions so far
abbrev pub invariant-loop-partition : goal.invariant-loop-partition
invariant-loop-partition l =
    let now : Gathering = record { load = l.kept; rows = l.seats } in
    let first : Gathering = record { load = l.fn.kept; rows = l.fn.seats } in
    record {
      pass : IsPass l.pass (take l.partition-index l.order) l.was l.kept l.locked l.fn.seats l.seats;
      falls : l.pass ≢ First → Falls l.fn.kept l.kept;
      by_name : now ≡ after_steps (gather_at l.pass l.was l.locked l.order) l.partition-index first;
    }
