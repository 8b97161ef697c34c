-- A pass after the first lifts nothing of a partition none of whose devices keeps more than it wants.
use Rattle.std.proofs.Common.{◌≡◌, ◌≢◌, ◌∙◌, ◌&&◌, ◌<◌, ◌≤◌, ℕ, Bool, true, false, cond, not, List, Option, Some, None}
use Rattle.std.proofs.Common.{ap, arith, get_or, is_some, length, refl, slice_get, sym, ⊎_elim}
use Rattle.std.specs.Prelude.{if◌then◌else◌, nat_lt}
use Rattle.std.specs.List.{list_any, range_with_len}
use Rattle.ring_share.specs.Crowd.{others}
use Rattle.std.proofs.lemmas.Bool.{cases_Bool}
use Rattle.std.proofs.lemmas.Bool.Decides.{nat_tests}
use Rattle.std.proofs.lemmas.List.Folds.{list_any_at}
use Rattle.std.proofs.lemmas.Option.{get_or_from_slice_get, slice_get_within}
use Rattle.ring_room.specs.Free.{has_free_in}
use Rattle.ring_room.specs.Load.{Load, have_in, want_in}
use Rattle.ring_room.specs.Rows.{is_empty}
use Rattle.ring_room.proofs.Steps.{first_none}
use Rattle.ring_place.specs.declared.gather.Pass.{Pass}
use Rattle.ring_place.specs.declared.gather.Pass.TheVariants.{First, Apart, Beside, Second}
use Rattle.ring_place.specs.Inner.Gathering.{MustStay, is_over_in}
use Rattle.ring_place.specs.Made.{Lifting, beats, best_seat, crowd_apart, gift_by, gift_of, gift_to, has_beside}
use Rattle.ring_place.specs.Made.{is_best, later_lifting, lifted_at, way_of}
use Rattle.ring_place.proofs.Gathering.ByName.{same_lifting}
use Rattle.ring_place.proofs.Gathering.NoSurplus.{must_stay}

module _ (kept : Load) (row : List (Option ℕ)) (none : list_any (is_over_in kept) row ≡ false) where
  none_at : (k : ℕ) → k < length row → is_over_in kept (get_or row k None) ≡ false
  none_at k lt = ⊎_elim
      (λ over. absurd (let some = list_any_at (is_over_in kept) row k None lt over in cc (some, none)))
      (λ never. never)
      (cases_Bool (is_over_in kept (get_or row k None)))

  not_over : (want have : ℕ) → nat_lt want have ≡ false → have ≤ want
  not_over want have never = grind (arith, nat_tests)

  -- so its seats stay
  pub stays_there : (pass : Pass) (was : Load) (replica id : ℕ) → pass ≢ First →
      slice_get row replica ≡ Some (Some id) → MustStay pass was kept row replica id
  stays_there pass was replica id later at =
      let within = slice_get_within row replica (Some id) at in
      must_stay pass was kept row replica id later (not_over (want_in kept id) (have_in kept id)
      (ap (is_over_in kept) (sym (get_or_from_slice_get row replica (Some id) None at)) ∙ none_at replica within))

  abbrev anywhere : ℕ → Load → ℕ → Bool → Option (ℕ × ℕ × ℕ)
  anywhere most was replica b = if b && has_beside was (others row replica) most then Some (0, 0, 0) else None

  abbrev surely : Bool → Option (ℕ × ℕ × ℕ)
  surely b = if b then Some (0, 0, 0) else None

  no_way : (pass : Pass) (was : Load) (replica id : ℕ) → pass ≢ First →
      nat_lt (want_in kept id) (have_in kept id) ≡ false → way_of pass was kept row replica id ≡ None
  no_way First was replica id later never = absurd (later refl)
  no_way Apart was replica id later never = ap (λ b. if b then crowd_apart was (others row replica) id
      else None) never
  no_way (Beside most) was replica id later never = ap (anywhere most was replica) never
  no_way Second was replica id later never = ap surely never

  no_gift : (pass : Pass) (was : Load) (replica : ℕ) → pass ≢ First → (seat : Option ℕ) →
      is_over_in kept seat ≡ false → gift_by pass was kept row replica seat ≡ None
  no_gift pass was replica later None never = refl
  no_gift pass was replica later (Some id) never = ap (gift_to kept replica id)
      (no_way pass was replica id later never)

  no_best : (pass : Pass) (was : Load) → pass ≢ First → best_seat pass was kept row ≡ None
  no_best pass was later = sym (first_none (is_best (gift_of pass was kept row) (length row)) (length row)
      (λ k lt. ap (λ b. b && not (list_any (λ x. beats (gift_of pass was kept row x) (gift_of pass was kept row k))
      (range_with_len 0 (length row)))) (ap is_some (no_gift pass was k later (get_or row k None) (none_at k lt)))))

  -- and nothing is lifted
  pub same_later : (pass : Pass) (was : Load) (locked : Bool) → pass ≢ First →
      same_lifting kept row ≡ later_lifting pass was kept locked row
  same_later pass was locked later =
      let same = same_lifting kept row in
      let empty = list_any is_empty row in
      let free = has_free_in was row in
      sym (ap (λ b. cond locked same (cond empty same (cond free (lifted_at kept row b) same)))
      (no_best pass was later)
      ∙ ap (λ l. cond locked same (cond empty same l)) (same_cond free same)
      ∙ ap (cond locked same) (same_cond empty same) ∙ same_cond locked same)
    where
      same_cond : (b : Bool) (x : Lifting) → cond b x x ≡ x
      same_cond true x = refl
      same_cond false x = refl
