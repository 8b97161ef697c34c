-- Seats that can go apart.
use Rattle.std.proofs.Common.{◌≡◌, ◌∙◌, ℕ, Bool, true, false, cond, List, Option, Some, None, ap, sym}
use Rattle.std.proofs.Common.{⊎_elim, subst}
use Rattle.std.proofs.lemmas.Bool.{cases_Bool}
use Rattle.ring_share.specs.Crowd.{is_less}
use Rattle.ring_room.specs.Load.{IsLeast, Load, crowd_in, is_free_in, seats_of}
use Rattle.ring_room.specs.Rows.{devices_on}
use Rattle.ring_room.proofs.Searching.BestSoFar.{not_less_trans}
use Rattle.ring_room.proofs.Searching.RowDevices.{crowd_taken, free_taken, least_taken}
use Rattle.ring_place.specs.Inner.Gathering.{CanGoApart, CannotGoApart}
use Rattle.ring_place.specs.Made.{crowd_apart, no_more_than, way_out}

module _ (load : Load) (rest seats : List (Option ℕ)) (same : seats ≡ seats_of (devices_on rest))
  where
    crowd_same : (id : ℕ) → crowd_in load seats id ≡ crowd_in load rest id
    crowd_same id = ap (λ s. crowd_in load s id) same ∙ crowd_taken load rest id

    pub found_apart : (id : ℕ) (own to : ℕ × ℕ × ℕ) (b : Bool) → Some to ≡ way_out load seats →
        own ≡ crowd_in load seats id → is_less own to ≡ b
        → cond b None (Some to) ≡ crowd_apart load rest id
    found_apart id own to b found is_own less =
        ap (λ t. cond t None (Some to)) (sym less)
        ∙ ap (λ o. no_more_than o (Some to)) is_own
        ∙ ap (no_more_than (crowd_in load seats id)) found
        ∙ ap (λ s. no_more_than (crowd_in load s id) (way_out load s)) same

    pub can_go : (id best : ℕ) (own to : ℕ × ℕ × ℕ) → IsLeast load seats best →
        to ≡ crowd_in load seats best → own ≡ crowd_in load seats id → is_less own to ≡ false
        → CanGoApart load rest id
    can_go id best own to least is_to is_own less = record {
      to = best;
      free = (least_taken load rest best (subst (λ s. IsLeast load s best) same least)).free;
      no_more = ap (λ c. is_less c (crowd_in load rest best)) (sym (is_own ∙ crowd_same id))
          ∙ ap (is_less own) (sym (is_to ∙ crowd_same best)) ∙ less;
    }

    pub cannot_go : (id best : ℕ) (own to : ℕ × ℕ × ℕ) → IsLeast load seats best →
        to ≡ crowd_in load seats best → own ≡ crowd_in load seats id → is_less own to ≡ true
        → CannotGoApart load rest id
    cannot_go id best own to least is_to is_own less other free =
        let taken = least_taken load rest best (subst (λ s. IsLeast load s best) same least) in
        let more = taken.least other free in
        let below : is_less (crowd_in load rest id) (crowd_in load rest best) ≡ true =
        ap (λ c. is_less c (crowd_in load rest best)) (sym (is_own ∙ crowd_same id))
        ∙ ap (is_less own) (sym (is_to ∙ crowd_same best)) ∙ less in
        ⊎_elim (λ is. is)
        (λ isn't. absurd (let never = not_less_trans (crowd_in load rest id) (crowd_in load rest other)
        (crowd_in load rest best) isn't more in cc (below, never)))
        (cases_Bool (is_less (crowd_in load rest id) (crowd_in load rest other)))

    pub nowhere_to_go : (id : ℕ) → ((other : ℕ) → is_free_in load seats other ≡ false) →
        CannotGoApart load rest id
    nowhere_to_go id none other free =
        absurd (let shut = none other in let read = ap (λ s. is_free_in load s other) same
        ∙ free_taken load rest other in cc (shut, read, free))
