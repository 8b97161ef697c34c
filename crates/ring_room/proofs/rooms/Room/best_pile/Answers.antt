use Rattle.std.proofs.Common.{◌≡◌, ◌∙◌, ◌<◌, [], ap, get_or, length, ℕ, subst, sym, ⊎_elim}
use Rattle.ring_room.specs.Cards.{better_pile, lower_of, no_rank, pile_rank}
use Rattle.ring_room.specs.Places.{seats_at}
use Rattle.ring_room.proofs.Steps.{steps_more}
use Rattle.ring_room.proofs.rooms.Room.best_pile.Goals as goal

pub loop-step-preserved : goal.loop-step-preserved
loop-step-preserved c =
    let now = c.args.self.now in
    let row = seats_at now.devices c.args.others.now in
    let piles = c.args.piles.now in
    let best = c.loop-step.best in
    let pile = c.place_after-pile.result in
    let lt = c.place_after-pile.ensures.within in
    let step : c.better_pile-best.result ≡ better_pile now row piles c.args.start c.loop-step.step best =
    c.better_pile-best.ensures.value
    ∙ ap (λ (p : ℕ). lower_of best p (pile_rank now row (get_or piles p [])))
    c.place_after-pile.ensures.value in
    record {
      by_name = steps_more (better_pile now row piles c.args.start) c.loop-step.step
          (c.args.start, no_rank) best c.better_pile-best.result c.loop-step.invariant.by_name step;
      within = ⊎_elim
          (λ same. subst (λ p. p < length piles) (sym same) c.loop-step.invariant.within)
          (λ same. subst (λ p. p < length piles) (sym same) lt)
          c.better_pile-best.ensures.either;
    }
