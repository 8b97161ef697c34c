-- What the first pass and those after it lift of a partition.
use Rattle.std.proofs.Common.{◌≡◌, ◌==◌, ℕ, zero, suc, ◌≤◌, Bool, true, false, not, ◌||◌, ◌⊎◌, inl}
use Rattle.std.proofs.Common.{inr}
use Rattle.std.proofs.Common.{List, [], ◌∷◌, length, get_or, map, set, Option, Some, None, refl}
use Rattle.std.proofs.Common.{sym, ap, subst, ◌∙◌, ⊎_elim, arith}
use Rattle.std.specs.Prelude.{slice_get}
use Rattle.std.specs.List.{list_any}
use Rattle.std.proofs.lemmas.Bool.{and_parts, cases_Bool, eqb-true, or_parts}
use Rattle.std.proofs.lemmas.List.{get_or-set_same, length-map, length-set}
use Rattle.std.proofs.lemmas.List.Folds.{list_any_at}
use Rattle.std.proofs.lemmas.Option.{slice_get_within}
use Rattle.ring_model.specs.Ring.{has_present}
use Rattle.ring_words.specs.declared.device.Device.{Device}
use Rattle.ring_room.specs.Load.{Load, have_in, want_in}
use Rattle.ring_room.specs.Rows.{is_empty}
use Rattle.ring_room.specs.Free.{AreUncrowded}
use Rattle.ring_place.specs.Inner.Gathering.{Calm, Crowded, Drained, HaveNoSurplus, IsFirst}
use Rattle.ring_place.specs.Inner.Gathering.{IsSecond, Lifts, LostFirst, Same, Surplus}
use Rattle.ring_room.specs.Free.{has_free_in}
use Rattle.ring_room.specs.Free.{is_crowded_in}
use Rattle.ring_place.specs.Inner.Gathering.{present_only}
use Rattle.ring_place.specs.Made.{is_lost_in}

pub data IsBoth (was left : Load) (locked : Bool) (old lifted : List (Option ℕ)) : Type 0 where
  -- its lost seats, if it has any, and no other
  Lost : list_any (is_lost_in was.devices) old ≡ true → lifted ≡ map (present_only was.devices) old
      → IsBoth was left locked old lifted
  -- else, if it isn't locked, one seat with a reason
  Taken : list_any (is_lost_in was.devices) old ≡ false → locked ≡ false → (replica id : ℕ) →
      Lifts old lifted replica id →
      (is_crowded_in was old replica id ≡ true) ⊎ ((has_free_in was old ≡ true) ×
      (want_in left id ≤ have_in left id)) → IsBoth was left locked old lifted
  -- or none, if it is locked or no seat has one
  Left : list_any (is_lost_in was.devices) old ≡ false → lifted ≡ old →
      (locked ≡ false → AreUncrowded was old) →
      (locked ≡ false → has_free_in was old ≡ true → HaveNoSurplus left old) →
      IsBoth was left locked old lifted

-- a lost seat is left empty, and no other
pub empty_lost : (devices : List Device) (seat : Option ℕ) → is_empty (present_only devices seat) ≡
    is_lost_in devices seat
empty_lost devices None = refl
empty_lost devices (Some id) = ⊎_elim (λ there. rw there refl) (λ gone. rw gone refl)
    (cases_Bool (has_present id devices))

empties_map : (devices : List Device) (old : List (Option ℕ)) →
    list_any is_empty (map (present_only devices) old) ≡ list_any (is_lost_in devices) old
empties_map devices [] = refl
empties_map devices (x ∷ old) = ap (λ b. b || list_any is_empty (map (present_only devices) old))
    (empty_lost devices x) ∙ ap (λ b. is_lost_in devices x || b) (empties_map devices old)

-- a row without lost seats has no empty ones
pub none_empty : (devices : List Device) (row : List (Option ℕ)) → list_any (is_lost_in devices) row
    ≡ false → list_any is_empty row ≡ false
none_empty devices [] none = refl
none_empty devices (None ∷ row) none = absurd (cc none)
none_empty devices (Some id ∷ row) none =
    none_empty devices row (or_parts (not (has_present id devices)) (list_any (is_lost_in devices)
    row) none).1

pub lifted_empty : (old : List (Option ℕ)) (replica id : ℕ) → slice_get old replica ≡ Some (Some id) →
    list_any is_empty (set old replica None) ≡ true
lifted_empty old replica id at =
    let within = slice_get_within old replica (Some id) at in
    list_any_at is_empty (set old replica None) replica None (omega (
      arith,
      within,
      length-set old replica None,
    )) (ap is_empty (get_or-set_same old replica None None within))

moved : (one other lifted : List (Option ℕ)) (replica id : ℕ) → one ≡ other →
    Lifts one lifted replica id → Lifts other lifted replica id
moved one other lifted replica id same lifts = subst (λ r. Lifts r lifted replica id) same lifts

pub both_here : (was left : Load) (locked : Bool) (old row next : List (Option ℕ)) →
    ((id : ℕ) → want_in left id ≡ want_in was id) →
    IsFirst was locked old row → IsSecond was left locked row next → IsBoth was left locked old next
both_here was left locked old row next wants (LostFirst some is) (Surplus none unlocked replica id lifts
    free keeps) =
    absurd (let same = empties_map was.devices old in let here = ap (list_any is_empty) is in
    cc (none, same, here, some))
both_here was left locked old row next wants (LostFirst some is) (Same same rest) = Lost some (same ∙ is)
both_here was left locked old row next wants (Crowded none unlocked replica id lifts less)
    (Surplus full unlocked' replica' id' lifts' free keeps) =
    absurd (let some = lifted_empty old replica id lifts.at in let here =
    ap (list_any is_empty) lifts.lifted in cc (full, some, here))
both_here was left locked old row next wants (Crowded none unlocked replica id lifts less)
    (Same same rest) = Taken none unlocked replica id (record {
      at = lifts.at;
      lifted =
          same ∙ lifts.lifted;
    }) (inl less)
both_here was left locked old row next wants (Calm none is calm) (Surplus full unlocked replica id lifts
    free keeps) =
    Taken none unlocked replica id (moved row old next replica id is lifts)
    (inr (ap (has_free_in was) (sym is) ∙ free, keeps))
both_here was left locked old row next wants (Drained none unlocked replica id lifts drained)
    (Surplus full unlocked' replica' id' lifts' free keeps) =
    absurd (let some = lifted_empty old replica id lifts.at in let here =
    ap (list_any is_empty) lifts.lifted in cc (full, some, here))
both_here was left locked old row next wants (Drained none unlocked replica id lifts drained)
    (Same same rest) = Taken none unlocked replica id (record {
      at = lifts.at;
      lifted =
          same ∙ lifts.lifted;
    }) (inr (
      (and_parts (want_in was id == 0) (has_free_in was old) drained).1,
      (let none_wanted = eqb-true (want_in was id) 0 (and_parts (want_in was id == 0)
          (has_free_in was old) drained).0 in
          let want = wants id in
          omega (arith, none_wanted, want)),
    ))
both_here was left locked old row next wants (Calm none is calm) (Same same rest) =
    Left none (same ∙ is) (λ unlocked replica id at. (calm unlocked replica id at).1)
    (λ unlocked free replica id at. rest (ap (list_any is_empty) is ∙ none_empty was.devices old
    none) unlocked (ap (has_free_in was) is ∙ free) replica id (ap (λ r. slice_get r replica) is
    ∙ at))

-- ---- what is lifted is empty, and all else as it was

abbrev pub IsKeptOf : List (Option ℕ) → List (Option ℕ) → Type 0
IsKeptOf old lifted = (replica : ℕ) → (get_or lifted replica None ≡ None) ⊎
    (get_or lifted replica None ≡ get_or old replica None)

present_or_none : (devices : List Device) (seat : Option ℕ) → (present_only devices seat ≡ None) ⊎
    (present_only devices seat ≡ seat)
present_or_none devices None = inl refl
present_or_none devices (Some id) = ⊎_elim (λ there. inr (rw there refl))
    (λ gone. inl (rw gone refl)) (cases_Bool (has_present id devices))

map_kept : (devices : List Device) (old : List (Option ℕ)) (replica : ℕ) →
    (get_or (map (present_only devices) old) replica None ≡ None) ⊎
    (get_or (map (present_only devices) old) replica None ≡ get_or old replica None)
map_kept devices [] replica = inl refl
map_kept devices (x ∷ old) zero = present_or_none devices x
map_kept devices (x ∷ old) (suc replica) = map_kept devices old replica

set_kept : (old : List (Option ℕ)) (at replica : ℕ) → (get_or (set old at None) replica None ≡ None)
    ⊎ (get_or (set old at None) replica None ≡ get_or old replica None)
set_kept [] at replica = inl refl
set_kept (x ∷ old) zero zero = inl refl
set_kept (x ∷ old) zero (suc replica) = inr refl
set_kept (x ∷ old) (suc at) zero = inr refl
set_kept (x ∷ old) (suc at) (suc replica) = set_kept old at replica

pub both_kept : (was left : Load) (locked : Bool) (old lifted : List (Option ℕ)) →
    IsBoth was left locked old lifted → IsKeptOf old lifted
both_kept was left locked old lifted (Lost some is) replica =
    subst (λ (r : List (Option ℕ)). (get_or r replica None ≡ None) ⊎
    (get_or r replica None ≡ get_or old replica None)) (sym is) (map_kept was.devices old
    replica)
both_kept was left locked old lifted (Taken none unlocked at id lifts reason) replica =
    subst (λ (r : List (Option ℕ)). (get_or r replica None ≡ None) ⊎
    (get_or r replica None ≡ get_or old replica None)) (sym lifts.lifted)
    (set_kept old at replica)
both_kept was left locked old lifted (Left none is calm rest) replica =
    inr (ap (λ r. get_or r replica None) is)

pub both_length : (was left : Load) (locked : Bool) (old lifted : List (Option ℕ)) →
    IsBoth was left locked old lifted → length lifted ≡ length old
both_length was left locked old lifted (Lost some is) =
    ap length is ∙ length-map old (present_only was.devices)
both_length was left locked old lifted (Taken none unlocked replica id lifts reason) =
    ap length lifts.lifted ∙ length-set old replica None
both_length was left locked old lifted (Left none is calm rest) = ap length is
