use Rattle.std.proofs.Common.{◌≡◌, ℕ, false, sym, subst, ◌∙◌, List, Option, Some, None, rules}
use Rattle.std.proofs.lemmas.Option.{same_Some}
use Rattle.ring_model.specs.Ring.{has_present}
use Rattle.ring_words.specs.declared.device.Device.{Device}
use Rattle.ring_room.specs.Places.{id_at, seats_at}
use Rattle.ring_place.specs.Inner.Placing.{IsChosen}
use Rattle.ring_place.proofs.Placing.ChosenDevices.{chosen_least, chosen_open}
use Rattle.ring_place.proofs.place.choose.Goals as goal
use Rattle.ring_place.proofs.place.choose.Goals.{in-Some-own+else-is_present, in_default-own}

pub returns-in-Some-clause-chosen : goal.returns-in-Some-clause-chosen
returns-in-Some-clause-chosen c =
    let now = c.args.room.now in
    let row = seats_at now.devices c.args.others.now in
    subst (λ place. IsChosen now row c.args.own (id_at now.devices place))
    (sym c.with_card.ensures.place)
    (chosen_least now row c.args.own (id_at now.devices c.own_or.result) c.own_or.ensures.least
    c.own_or.ensures.own_wins)

-- the own device, if there is one, is marked to be removed
none_stays : (devices : List Device) (own : Option ℕ) (o id : ℕ) → own ≡ Some o →
    has_present o devices ≡ false → own ≡ Some id → has_present id devices ≡ false
none_stays devices own o id is gone at = subst (λ x. has_present x devices ≡ false)
    (same_Some o id (sym is ∙ at)) gone

none_owns : (devices : List Device) (own : Option ℕ) (id : ℕ) → own ≡ None → own ≡ Some id →
    has_present id devices ≡ false
none_owns devices own id is at = absurd (cc (is, at))

pub returns-clause-chosen : goal.returns-clause-chosen
returns-clause-chosen c =
    let now = c.args.room.now in
    let row = seats_at now.devices c.args.others.now in
    let chosen = chosen_open now row c.args.own (id_at now.devices c.least_open.result)
    c.in_default.ensures.none in
    let opens = c.least_open.ensures.takes_seats in
    let outside = c.least_open.ensures.outside in
    subst (λ place. IsChosen now row c.args.own (id_at now.devices place))
    (sym c.without_card-2.ensures.place) (elim c.match-own.branch [
      | in-Some-own+else-is_present w ↦ chosen (λ o at. none_stays now.devices c.args.own
          w.in-Some-own.own o w.in-Some-own.is (sym w.is_present.ensures ∙ w.if-is_present.false)
          at) opens outside
      | in_default-own w ↦ chosen (λ o at. none_owns now.devices c.args.own o
          w.in_default-own.is at) opens outside
    ])

pub own_or-requires-clause-best : goal.own_or-requires-clause-best
own_or-requires-clause-best c = search rules
