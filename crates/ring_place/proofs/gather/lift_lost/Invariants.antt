use Rattle.std.proofs.Common.{◌≡◌, ℕ, ◌≤◌, true}
use Rattle.ring_model.specs.Ring.{has_device}
use Rattle.ring_share.specs.Crowd.{seats_on}
use Rattle.ring_room.specs.Load.{have_in}
use Rattle.ring_place.specs.Inner.Gathering.{present_only, Takes}
use Rattle.ring_place.specs.Made.{Lifting, lose_seat}
use Rattle.ring_room.specs.Steps.{after_steps}
use Rattle.ring_place.proofs.Rows.RowFronts.{front}
use Rattle.ring_place.proofs.gather.lift_lost.Given as goal

-- the lost seats so far are lifted
abbrev pub invariant-loop-replica : goal.invariant-loop-replica
invariant-loop-replica l =
    let now : Lifting = record { load = l.kept; row = l.row } in
    let first : Lifting = record { load = l.fn.kept; row = l.fn.row } in record {
      by_name : now ≡ after_steps lose_seat l.replica first;
      row : l.row ≡ front l.replica (present_only l.fn.kept.devices) l.fn.row;
      takes : Takes l.fn.kept l.kept l.fn.row l.row;
      has : (id : ℕ) → has_device id l.fn.kept.devices ≡ true → seats_on id l.row ≤ have_in l.kept id;
    }
