use Rattle.std.proofs.Common.{◌≡◌, ◌∙◌, sym, ap, subst, refl, ◌<◌, ◌≤◌, arith, Some, None, false}
use Rattle.std.proofs.Common.{true}
use Rattle.ring_model.specs.Ring.{has_device, has_present}
use Rattle.ring_share.specs.Crowd.{seats_on}
use Rattle.ring_room.specs.Load.{have_in, load_take}
use Rattle.ring_place.specs.Inner.Gathering.{Takes, present_only}
use Rattle.ring_place.proofs.Rows.LiftedSeats.{kept_present, lost_absent, seat_at}
use Rattle.ring_room.proofs.Searching.LessCrowded.{one_here}
use Rattle.ring_place.proofs.Rows.RowFronts.{front_all, front_lift, front_old, front_skip}
use Rattle.ring_place.proofs.Gathering.TakenSeats.{has_taken, takes_seat}
use Rattle.std.proofs.Common.{length}
use Rattle.ring_place.specs.Made.{lose_seat}
use Rattle.ring_place.proofs.Gathering.ByName.{lose_gone, lose_none, lose_stays}
use Rattle.ring_room.proofs.Steps.{steps_end, steps_more}
use Rattle.ring_place.proofs.gather.lift_lost.Goals as goal
use Rattle.ring_place.proofs.gather.lift_lost.Goals.{in-Some+then-not-is_present}
use Rattle.ring_place.proofs.gather.lift_lost.Goals.{in-Some+else-not-is_present, in_default}

pub is_present-requires : goal.is_present-requires
is_present-requires c =
    let at = seat_at c.loop-replica.row c.loop-replica.replica (Some c.in-Some.device) (omega arith)
    c.in-Some.is in
    ap (has_device c.in-Some.device) c.loop-replica.invariant.takes.devices
    ∙ c.requires.row c.loop-replica.replica c.in-Some.device (front_old c.loop-replica.row
    c.args.row.now c.loop-replica.replica (present_only c.args.kept.now.devices)
    (Some c.in-Some.device) c.loop-replica.invariant.row at)

pub take-requires : goal.take-requires
take-requires c =
    let at = seat_at c.loop-replica.row c.loop-replica.replica (Some c.in-Some.device) (omega arith)
    c.in-Some.is in
    ap (has_device c.in-Some.device) c.loop-replica.invariant.takes.devices
    ∙ c.requires.row c.loop-replica.replica c.in-Some.device (front_old c.loop-replica.row
    c.args.row.now c.loop-replica.replica (present_only c.args.kept.now.devices)
    (Some c.in-Some.device) c.loop-replica.invariant.row at)

pub loop-replica-preserved : goal.loop-replica-preserved
loop-replica-preserved c = elim c.match-row-replica.branch [
  | in-Some+then-not-is_present w ↦
      let before = c.args.kept.now in
      let left = c.loop-replica.kept in
      let row = c.loop-replica.row in
      let replica = c.loop-replica.replica in
      let inv = c.loop-replica.invariant in
      let at = seat_at row replica (Some w.in-Some.device) (omega arith) w.in-Some.is in
      let known : has_device w.in-Some.device before.devices ≡ true =
      c.requires.row replica w.in-Some.device (front_old row c.args.row.now replica
      (present_only before.devices) (Some w.in-Some.device) inv.row at) in
      let some : 0 < have_in left w.in-Some.device =
      omega (arith, one_here row replica w.in-Some.device at, inv.has w.in-Some.device known) in
      let absent : has_present w.in-Some.device before.devices ≡ false =
      ap (has_present w.in-Some.device) (sym inv.takes.devices) ∙ sym w.is_present.ensures ∙
      w.if-not-is_present.true in
      let kept_is : c.match-row-replica.kept ≡ load_take left w.in-Some.device =
      w.kept-is ∙ w.take.ensures in
      record {
        by_name = steps_more lose_seat c.loop-replica.replica (record { load = c.args.kept.now; row = c.args.row.now })
            (record { load = c.loop-replica.kept; row = c.loop-replica.row }) _ inv.by_name
            (ap (λ k. record { load = k; row = c.match-row-replica.row }) kept_is
            ∙ ap (λ r. record { load = load_take left w.in-Some.device; row = r }) w.row-is
            ∙ lose_gone replica w.in-Some.device (record { load = c.loop-replica.kept; row = c.loop-replica.row }) w.in-Some.is (sym w.is_present.ensures ∙ w.if-not-is_present.true));
        row = w.row-is ∙ front_lift row c.args.row.now replica (present_only before.devices)
            (Some w.in-Some.device) None inv.row at (lost_absent before.devices w.in-Some.device
            absent);
        takes = subst (λ k. Takes before k c.args.row.now c.match-row-replica.row) (sym kept_is)
            (subst (λ r. Takes before (load_take left w.in-Some.device) c.args.row.now r)
            (sym w.row-is)
            (takes_seat before left c.args.row.now row replica w.in-Some.device inv.takes known some
            at));
        has = λ id also. subst (λ k. seats_on id c.match-row-replica.row ≤ have_in k id)
            (sym kept_is)
            (subst (λ r. seats_on id r ≤ have_in (load_take left w.in-Some.device) id)
            (sym w.row-is)
            (has_taken left row replica w.in-Some.device id inv.takes.load
            (ap (has_device w.in-Some.device) inv.takes.devices ∙ known)
            (ap (has_device id) inv.takes.devices ∙ also) at some (inv.has id also)));
      }
  | in-Some+else-not-is_present w ↦
      let before = c.args.kept.now in
      let row = c.loop-replica.row in
      let replica = c.loop-replica.replica in
      let inv = c.loop-replica.invariant in
      let at = seat_at row replica (Some w.in-Some.device) (omega arith) w.in-Some.is in
      let present : has_present w.in-Some.device before.devices ≡ true =
      ap (has_present w.in-Some.device) (sym inv.takes.devices) ∙ sym w.is_present.ensures ∙
      w.if-not-is_present.false in
      record {
        by_name = steps_more lose_seat c.loop-replica.replica (record { load = c.args.kept.now; row = c.args.row.now })
            (record { load = c.loop-replica.kept; row = c.loop-replica.row }) _ inv.by_name
            (ap (λ k. record { load = k; row = c.match-row-replica.row }) w.kept-is
            ∙ ap (λ r. record { load = c.loop-replica.kept; row = r }) w.row-is
            ∙ lose_stays replica w.in-Some.device (record { load = c.loop-replica.kept; row = c.loop-replica.row }) w.in-Some.is (sym w.is_present.ensures ∙ w.if-not-is_present.false));
        row = w.row-is ∙ front_skip row c.args.row.now replica (present_only before.devices)
            (Some w.in-Some.device) inv.row at (kept_present before.devices w.in-Some.device
            present);
        takes = subst (λ k. Takes before k c.args.row.now c.match-row-replica.row) (sym w.kept-is)
            (subst (λ r. Takes before c.loop-replica.kept c.args.row.now r) (sym w.row-is)
            inv.takes);
        has = λ id also. subst (λ k. seats_on id c.match-row-replica.row ≤ have_in k id)
            (sym w.kept-is) (subst (λ r. seats_on id r ≤ have_in c.loop-replica.kept id)
            (sym w.row-is) (inv.has id also));
      }
  | in_default w ↦
      let before = c.args.kept.now in
      let row = c.loop-replica.row in
      let replica = c.loop-replica.replica in
      let inv = c.loop-replica.invariant in
      let at = seat_at row replica None (omega arith) w.in_default.is in
      record {
        by_name = steps_more lose_seat c.loop-replica.replica (record { load = c.args.kept.now; row = c.args.row.now })
            (record { load = c.loop-replica.kept; row = c.loop-replica.row }) _ inv.by_name
            (ap (λ k. record { load = k; row = c.match-row-replica.row }) w.kept-is
            ∙ ap (λ r. record { load = c.loop-replica.kept; row = r }) w.row-is
            ∙ lose_none replica (record { load = c.loop-replica.kept; row = c.loop-replica.row }) w.in_default.is);
        row = w.row-is ∙ front_skip row c.args.row.now replica (present_only before.devices) None
            inv.row at refl;
        takes = subst (λ k. Takes before k c.args.row.now c.match-row-replica.row) (sym w.kept-is)
            (subst (λ r. Takes before c.loop-replica.kept c.args.row.now r) (sym w.row-is)
            inv.takes);
        has = λ id also. subst (λ k. seats_on id c.match-row-replica.row ≤ have_in k id)
            (sym w.kept-is) (subst (λ r. seats_on id r ≤ have_in c.loop-replica.kept id)
            (sym w.row-is) (inv.has id also));
      }
]

pub returns-clause-row : goal.returns-clause-row
returns-clause-row c = c.loop-replica.invariant.row ∙ front_all c.loop-replica.replica
    (present_only c.args.kept.now.devices) c.args.row.now (omega arith)

pub returns-clause-by_name : goal.returns-clause-by_name
returns-clause-by_name c = steps_end lose_seat c.loop-replica.replica (length c.args.row.now)
    (record { load = c.args.kept.now; row = c.args.row.now })
    (record { load = c.loop-replica.kept; row = c.loop-replica.row }) c.loop-replica.invariant.by_name (omega arith)
