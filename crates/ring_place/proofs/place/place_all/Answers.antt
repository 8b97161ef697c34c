use Rattle.std.proofs.Common.{◌<◌, ◌∙◌, All, length, ap, sym, subst}
use Rattle.ring_place.specs.Inner.Placing.{AreWaiting}
use Rattle.ring_place.specs.Made.{Placing, home_crowd, row_at}
use Rattle.ring_place.proofs.Placing.ByName.{placed_by}
use Rattle.ring_place.proofs.Placing.Homes.{numbers_all}
use Rattle.ring_place.proofs.Placing.Waiting.{are_waiting, waiting_below}
use Rattle.ring_place.proofs.place.place_all.Goals as goal

pub asking-requires-clause-waiting : goal.asking-requires-clause-waiting
asking-requires-clause-waiting c = subst (λ order. All (λ p. p < length c.args.seats.now) order)
    (sym (c.deref.ensures.value ∙ c.in_ok-waiting.ensures))
    (waiting_below c.args.room.now c.args.order.now c.args.seats.now c.requires.order)

pub homes_of-requires-clause-waiting : goal.homes_of-requires-clause-waiting
homes_of-requires-clause-waiting c =
    let order = c.deref.ensures.value ∙ c.in_ok-waiting.ensures in
    subst (λ order. All (λ p. p < length c.args.seats.now) order)
    (sym (c.deref-2.ensures.value ∙ c.in_ok-asking.ensures))
    (numbers_all (λ p. p < length c.args.seats.now) (λ p. home_crowd c.args.room.now
    (row_at c.args.old.now p) (row_at c.args.seats.now p)) c.deref.result.now
    (subst (λ order. All (λ p. p < length c.args.seats.now) order) (sym order)
    (waiting_below c.args.room.now c.args.order.now c.args.seats.now c.requires.order)))

pub place_waiting-requires-clause-waiting : goal.place_waiting-requires-clause-waiting
place_waiting-requires-clause-waiting c = subst (λ order. AreWaiting c.deref-3.result.now order
    c.args.seats.now) (sym (c.deref-4.ensures.value ∙ c.in_ok-waiting.ensures))
    (are_waiting c.deref-3.result.now c.args.room.now c.args.order.now c.args.seats.now
    (ap length c.deref-3.ensures.value ∙ c.in_ok-homes.ensures.long) c.requires.order)

pub returns-clause-by_name : goal.returns-clause-by_name
returns-clause-by_name c = ap (λ (p : Placing). p.rows)
    (placed_by c.args.order.now c.deref.result.now c.deref-4.result.now c.deref-2.result.now
    c.deref-3.result.now c.args.old.now c.args.seats.now c.args.room.now c.in_ok-homes.left
    c.args.draws c.in_ok-deck.deck _ (c.deref.ensures.value ∙ c.in_ok-waiting.ensures)
    (c.deref-4.ensures.value ∙ c.in_ok-waiting.ensures)
    (c.deref-2.ensures.value ∙ c.in_ok-asking.ensures)
    (ap (λ kept. record { load = c.in_ok-homes.left; kept = kept }) c.deref-3.ensures.value
    ∙ c.in_ok-homes.ensures.by_name)
    c.in_ok-deck.ensures c.place_waiting.ensures.by_name)
