use Rattle.std.proofs.Common.{◌≡◌, ◌+◌, ◌++◌, ◌∷◌, ◌<◌, ◌∙◌, [], ℕ, List, add-one, ap, arith, get_or, length, refl, subst}
use Rattle.std.specs.Prelude.{slice_index}
use Rattle.std.proofs.lemmas.List.{take_all}
use Rattle.ring_metrics.specs.Inner.Ends.{AreEndsOf}
use Rattle.ring_metrics.proofs.Ending.{ends_told, more_next, more_same}
use Rattle.ring_metrics.proofs.locks.ends_of.Goals.{then-hours-last, else-hours-last+in_ok-push}
use Rattle.ring_metrics.proofs.locks.ends_of.Goals as goal

behind : (first : ℕ) (rest : List ℕ) (place : ℕ) → slice_index (first ∷ rest) (place + 1) ≡ slice_index rest place
behind first rest place = rw (add-one place) refl

pub loop-hours-preserved : goal.loop-hours-preserved
loop-hours-preserved c =
    let numbers = c.args.left.now in
    let place = c.loop-hours.hours-index in
    let x = get_or c.in-Some.rest.now place 0 in
    let split = c.in-Some.ensures.cases in
    let at : slice_index numbers (place + 1) ≡ x = ap (λ (l : List ℕ). slice_index l (place + 1)) split.0
    ∙ behind c.in-Some.first.now c.in-Some.rest.now place in
    let lt : place + 1 < length numbers = omega (arith, split.1) in
    elim c.if-hours-last.branch [
      | then-hours-last w ↦ rw (w.ends-is, w.last-is) (more_same numbers place c.loop-hours.ends.items
          c.loop-hours.last x lt at w.if-hours-last.true c.loop-hours.invariant)
      | else-hours-last+in_ok-push w ↦ rw (w.ends-is, w.last-is, w.in_ok-push.ensures.items)
          (more_next numbers place c.loop-hours.ends.items c.loop-hours.last x lt at
          w.if-hours-last.false c.requires c.loop-hours.invariant)
    ]

pub returns : goal.returns
returns c =
    let numbers = c.args.left.now in
    let split = c.in-Some.ensures.cases in
    let told = c.loop-hours.invariant.told in
    let front = c.loop-hours.ends.items in
    let last = c.loop-hours.last in
    rw c.in_ok-push-2.ensures.items (subst (λ (all : List ℕ). AreEndsOf all (front ++ last ∷ []))
    (take_all (c.loop-hours.hours-index + 1) numbers (omega (arith, split.1)))
    (ends_told _ front last told))
