use Rattle.std.proofs.Common.{◌<◌, ◌++◌, ◌∷◌, [], length, sym, ap, ◌∙◌, arith}
use Rattle.std.specs.List.{flat_map}
use Rattle.std.proofs.lemmas.List.{take_all}
use Rattle.ring_room.specs.Rows.{devices_on}
use Rattle.ring_place.proofs.Rows.SeatRows.{all_devices}
use Rattle.ring_room.proofs.Searching.RowDevices.{devices_more_none, devices_more_some}
use Rattle.ring_place.proofs.seats.Seats.devices.Goals as goal
use Rattle.ring_place.proofs.seats.Seats.devices.Goals.{in-Some+in_ok-push, in_default}

pub loop-seat-preserved : goal.loop-seat-preserved
loop-seat-preserved c = elim c.match-seat.branch [
  | in-Some+in_ok-push w ↦
      let lt : c.loop-seat.seat-index < length c.deref-seat-items.result.now = omega arith in
      ap (λ v. v.items) w.devices-is ∙ w.in_ok-push.ensures.items ∙ ap (λ xs. xs ++
      w.in-Some.device ∷ []) c.loop-seat.invariant
      ∙ sym (devices_more_some c.deref-seat-items.result.now c.loop-seat.seat-index w.in-Some.device
      lt w.in-Some.is)
  | in_default w ↦
      let lt : c.loop-seat.seat-index < length c.deref-seat-items.result.now = omega arith in
      ap (λ v. v.items) w.devices-is ∙ c.loop-seat.invariant ∙ sym
      (devices_more_none c.deref-seat-items.result.now c.loop-seat.seat-index lt
      w.in_default.is)
]

pub returns : goal.returns
returns c =
    c.loop-seat.invariant
    ∙ ap devices_on (take_all c.loop-seat.seat-index c.deref-seat-items.result.now (omega arith) ∙
    c.deref-seat-items.ensures.value)
    ∙ all_devices c.self.inside.seats.items c.self.inside.partitions c.self.inside.replicas
    c.self.invariant.count
    ∙ ap (flat_map devices_on) c.self.view_is
