use Rattle.std.proofs.Common.{◌∙◌, ◌++◌, ◌∷◌, [], ap, cond, sym}
use Rattle.std.proofs.lemmas.List.{append-nil}
use Rattle.ring_place.specs.Made.{is_first}
use Rattle.ring_place.proofs.Dealing.{passing_more}
use Rattle.ring_place.proofs.deck.zone_places.Goals as goal
use Rattle.ring_place.proofs.deck.zone_places.Goals.{then-is_first+in_ok-push, else-is_first}

pub loop-place-preserved : goal.loop-place-preserved
loop-place-preserved c =
    let before = c.loop-place.places.items in
    let place = c.loop-place.place in
    passing_more (is_first c.args.room.now) place before c.if-is_first.places.items
    c.is_first.result c.loop-place.invariant c.is_first.ensures (elim c.if-is_first.branch [
      | then-is_first+in_ok-push w ↦ ap (λ v. v.items) w.places-is ∙ w.in_ok-push.ensures.items
          ∙ ap (λ b. before ++ cond b (place ∷ []) []) (sym w.if-is_first.true)
      | else-is_first w ↦ ap (λ v. v.items) w.places-is ∙ sym (append-nil before)
          ∙ ap (λ b. before ++ cond b (place ∷ []) []) (sym w.if-is_first.false)
    ])
