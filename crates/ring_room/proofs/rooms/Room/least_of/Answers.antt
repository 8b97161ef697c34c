use Rattle.std.proofs.Common.{◌≡◌, ◌+◌, ℕ, Bool, true, false, not, List, length, Option, Some, None, refl}
use Rattle.std.proofs.Common.{sym, subst, ◌∙◌}
use Rattle.ring_share.specs.Crowd.{is_less}
use Rattle.ring_room.specs.Load.{Load, crowd_in}
use Rattle.ring_room.specs.Inner.Lists.{IsFloor}
use Rattle.ring_room.specs.Places.{seats_at}
use Rattle.ring_room.specs.Inner.Places.{IsBestSoFar, id_after, is_within}
use Rattle.ring_room.proofs.Searching.BestSoFar.{not_less_trans}
use Rattle.ring_room.proofs.Searching.LessCrowded.{free_open}
use Rattle.std.proofs.Common.{arith, get_or}
use Rattle.ring_room.specs.Places.{id_at}
use Rattle.ring_room.proofs.Searching.ByName.{best_at_end, more_best, room_opens}
use Rattle.ring_room.proofs.rooms.Room.least_of.Goals as goal

not_true : (b : Bool) → not b ≡ true → b ≡ false
not_true true h = absurd (cc h)
not_true false h = refl

-- a device no more crowded than a floor is best of all
best_within : (places : List ℕ) (start steps : ℕ) (load : Load) (row : List (Option ℕ))
    (best : Option (ℕ × (ℕ × ℕ × ℕ))) (floor : ℕ × ℕ × ℕ) → IsFloor load row floor
    → is_within best floor ≡ true → IsBestSoFar places start steps load row best
    → IsBestSoFar places start (length places) load row best
best_within places start steps load row None floor is within so_far = absurd (cc within)
best_within places start steps load row (Some best) floor is within so_far = (
  record {
    within = so_far.0.within;
    free = so_far.0.free;
    least = λ step lt free.
        let id = id_after load places start step in
        let no_less = is id (free_open load row id free) in
        subst (λ crowd. is_less (crowd_in load row id) crowd ≡ false) so_far.1
        (not_less_trans (crowd_in load row id) floor best.1 no_less
        (not_true (is_less floor best.1) within));
  },
  so_far.1,
)

pub returns-then-is_within-clause-best : goal.returns-then-is_within-clause-best
returns-then-is_within-clause-best c = best_within c.args.places.now c.args.start
    (c.loop-step.step + 1) c.args.self.now
    (seats_at c.args.self.now.devices c.args.others.now) c.better-best.result c.floor_after-known.result
    c.floor_after-known.ensures (sym c.is_within.ensures ∙ c.if-is_within.true) c.better-best.ensures.best

pub returns-then-is_within-clause-value : goal.returns-then-is_within-clause-value
returns-then-is_within-clause-value c =
    let now = c.args.self.now in
    let places = c.args.places.now in
    let row = seats_at now.devices c.args.others.now in
    best_at_end now row places c.args.start c.better-best.result c.floor_after-known.result
    c.floor_after-known.ensures
    (λ k lt. room_opens now (id_at now.devices (get_or places k 0)) (c.requires.room k 0 lt))
    c.requires.start (sym c.is_within.ensures ∙ c.if-is_within.true) (c.loop-step.step + 1) (omega arith)
    (more_best now row places c.args.start c.loop-step.step c.loop-step.best c.better-best.result
    c.loop-step.invariant.value c.better-best.ensures.value)
