use Rattle.std.proofs.Common.{◌<◌, ◌++◌, ◌∷◌, [], All, Some, ap, arith, length, subst, sym, take, ◌∙◌}
use Rattle.std.proofs.lemmas.List.{length-set, map-append, take_more_set}
use Rattle.std.proofs.lemmas.List.Elements.{All-append, All-cons, All-nil}
use Rattle.ring_room.specs.Load.{seats_of}
use Rattle.ring_room.specs.Places.{id_at, seats_at}
use Rattle.ring_room.specs.Rows.{devices_on}
use Rattle.ring_room.proofs.Searching.RowDevices.{devices_more_none, devices_more_some}
use Rattle.ring_room.proofs.rooms.Room.places_on.Goals as goal
use Rattle.ring_room.proofs.rooms.Room.places_on.Goals.{in-Some, in_default}

pub loop-seat-preserved : goal.loop-seat-preserved
loop-seat-preserved c = elim c.match-seat.branch [
  | in-Some w ↦
      let devices = c.args.self.now.devices in
      let inv = c.loop-seat.invariant in
      let places = c.loop-seat.places in
      let count = c.loop-seat.count in
      let row = c.args.row.now in
      let place = w.place_of.result in
      let id = w.in-Some.id in
      let lt : c.loop-seat.seat-index < length row = omega arith in
      let room : count < length places =
      (let few = inv.few in let long = inv.long in omega (arith, few, long, lt, c.requires.few)) in
      let more = take_more_set places count place room in
      rw (w.places-is, w.count-is) (record {
        taken = ap (seats_at devices) more
            ∙ map-append (λ p. Some (id_at devices p)) (take count places) (place ∷ [])
            ∙ ap (λ xs. xs ++ Some (id_at devices place) ∷ []) inv.taken
            ∙ ap (λ n. seats_of (devices_on (take c.loop-seat.seat-index row)) ++ Some n ∷ [])
            w.place_of.ensures.number
            ∙ sym (map-append (λ n. Some n) (devices_on (take c.loop-seat.seat-index row)) (id ∷ []))
            ∙ ap seats_of (sym (devices_more_some row c.loop-seat.seat-index id lt w.in-Some.is));
        within = subst (All (λ p. p < length devices)) (sym more)
            (All-append (λ p. p < length devices) (take count places) (place ∷ []) inv.within
            (All-cons (λ p. p < length devices) place [] w.place_of.ensures.within
            (All-nil (λ p. p < length devices))));
        few = omega (arith, inv.few);
        long = length-set places count place ∙ inv.long;
      })
  | in_default w ↦
      let inv = c.loop-seat.invariant in
      let row = c.args.row.now in
      let lt : c.loop-seat.seat-index < length row = omega arith in
      rw (w.places-is, w.count-is) (record {
        taken = inv.taken ∙ ap seats_of (sym (devices_more_none row c.loop-seat.seat-index lt
            w.in_default.is));
        within = inv.within;
        few = omega (arith, inv.few);
        long = inv.long;
      })
]
