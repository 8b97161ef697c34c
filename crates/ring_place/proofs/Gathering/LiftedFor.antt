-- What the passes lift of a partition, and what for.
use Rattle.std.proofs.Common.{◌≡◌, ◌∙◌, ℕ, ◌<◌, ◌≤◌, Bool, true, false, List, Option, ap}
use Rattle.std.proofs.Common.{◌==◌, subst}
use Rattle.std.proofs.lemmas.Bool.{and_parts, eqb-true}
use Rattle.std.specs.List.{list_any}
use Rattle.ring_share.specs.Crowd.{others}
use Rattle.ring_room.specs.Free.{has_free_in, is_crowded_in}
use Rattle.ring_room.specs.Load.{Load, have_in, want_in}
use Rattle.ring_room.specs.Rows.{is_empty}
use Rattle.ring_place.specs.Inner.Gathering.{Calm, CanGoApart, Crowded, Drained, Goes, IsApart}
use Rattle.ring_place.specs.Inner.Gathering.{IsFirst}
use Rattle.ring_place.specs.Inner.Gathering.{IsSecond, Lifts, LostFirst, NoneCanGoApart, Rests, Same}
use Rattle.ring_place.specs.Inner.Gathering.{Surplus}
use Rattle.ring_place.specs.Made.{is_lost_in}
use Rattle.ring_place.proofs.Gathering.BothPasses.{lifted_empty, none_empty}

-- `between` is how full the devices are before the last pass, and `left` after it.
pub data IsLiftedFor (was between left : Load) (locked : Bool) (old row : List (Option ℕ)) : Type 0
  where
    -- its lost seats
    ForLost : list_any (is_lost_in was.devices) old ≡ true → IsLiftedFor was between left locked old
        row
    -- a seat for which a device outside with room is less crowded
    ForCrowd : list_any (is_lost_in was.devices) old ≡ false → (replica id : ℕ) →
        Lifts old row replica id → is_crowded_in was old replica id ≡ true →
        IsLiftedFor was between left locked old row
    -- one of a device that wants nothing
    ForDrained : list_any (is_lost_in was.devices) old ≡ false → (replica id : ℕ) →
        Lifts old row replica id → want_in was id ≡ 0 → IsLiftedFor was between left locked old row
    -- one that can go apart, of a device that keeps all that it wants
    ForApart : list_any (is_lost_in was.devices) old ≡ false → (replica id : ℕ) →
        Lifts old row replica id → CanGoApart was (others old replica) id →
        want_in left id ≤ have_in left id → IsLiftedFor was between left locked old row
    -- one of a device that kept more than it wants before the last pass
    ForSurplus : list_any (is_lost_in was.devices) old ≡ false → (replica id : ℕ) →
        Lifts old row replica id → want_in between id < have_in between id →
        IsLiftedFor was between left locked old row
    -- none
    ForNone : list_any (is_lost_in was.devices) old ≡ false → row ≡ old → (locked ≡ false →
        has_free_in was old ≡ true → NoneCanGoApart was between old) →
        IsLiftedFor was between left locked old row

-- of a partition with an empty seat the later passes lift none
apart_stays : (was kept : Load) (locked : Bool) (old row : List (Option ℕ)) →
    list_any is_empty old ≡ true → IsApart was kept locked old row → row ≡ old
apart_stays was kept locked old row some (Goes full unlocked replica id lifts free goes keeps) =
    absurd (cc (some, full))
apart_stays was kept locked old row some (Rests is rest) = is

second_stays : (was kept : Load) (locked : Bool) (old row : List (Option ℕ)) →
    list_any is_empty old ≡ true → IsSecond was kept locked old row → row ≡ old
second_stays was kept locked old row some (Surplus full unlocked replica id lifts free keeps) =
    absurd (cc (some, full))
second_stays was kept locked old row some (Same is rest) = is

empty_after : (old row : List (Option ℕ)) (replica id : ℕ) → Lifts old row replica id →
    list_any is_empty row ≡ true
empty_after old row replica id lifts = ap (list_any is_empty) lifts.lifted
    ∙ lifted_empty old replica id lifts.at

lifts_as : (old row next : List (Option ℕ)) (replica id : ℕ) → next ≡ row → Lifts old row replica id
    → Lifts old next replica id
lifts_as old row next replica id is lifts = record { at = lifts.at; lifted = is ∙ lifts.lifted }

lifts_of : (one old row : List (Option ℕ)) (replica id : ℕ) → one ≡ old → Lifts one row replica id →
    Lifts old row replica id
lifts_of one old row replica id is lifts = subst (λ r. Lifts r row replica id) is lifts

pub lifted_for : (was between left : Load) (locked : Bool) (old first apart row : List (Option ℕ)) →
    ((replica id : ℕ) → Lifts first apart replica id → want_in between id ≤ have_in between id →
    want_in left id ≤ have_in left id)
    → ((replica id : ℕ) → Lifts apart row replica id → want_in left id ≤ have_in left id →
    want_in between id < have_in between id)
    → IsFirst was locked old first → IsApart was between locked first apart
    → IsSecond was left locked apart row → IsLiftedFor was between left locked old row
lifted_for was between left locked old first apart row still over (LostFirst some is) a s =
    ForLost some
lifted_for was between left locked old first apart row still over (Crowded none unlocked replica id
    lifts less) a s =
    let empty = empty_after old first replica id lifts in
    let same = apart_stays was between locked first apart empty a in
    let also = second_stays was left locked apart row (ap (list_any is_empty) same ∙ empty) s in
    ForCrowd none replica id (lifts_as old first row replica id (also ∙ same) lifts) less
lifted_for was between left locked old first apart row still over (Drained none unlocked replica id
    lifts drained) a s =
    let empty = empty_after old first replica id lifts in
    let same = apart_stays was between locked first apart empty a in
    let also = second_stays was left locked apart row (ap (list_any is_empty) same ∙ empty) s in
    ForDrained none replica id (lifts_as old first row replica id (also ∙ same) lifts)
    (eqb-true (want_in was id) 0 (and_parts (want_in was id == 0) (has_free_in was old) drained).0)
lifted_for was between left locked old first apart row still over (Calm none is calm)
    (Goes full unlocked replica id lifts free goes keeps) s =
    let empty = empty_after first apart replica id lifts in
    let also = second_stays was left locked apart row empty s in
    ForApart none replica id (lifts_of first old row replica id is (lifts_as first apart row replica
    id also lifts)) (subst (λ r. CanGoApart was (others r replica) id) is goes)
    (still replica id lifts keeps)
lifted_for was between left locked old first apart row still over (Calm none is calm) (Rests same
    rest) (Surplus full unlocked replica id lifts free keeps) =
    ForSurplus none replica id (lifts_of apart old row replica id (same ∙ is) lifts)
    (over replica id lifts keeps)
lifted_for was between left locked old first apart row still over (Calm none is calm) (Rests same
    rest) (Same also end) =
    ForNone none (also ∙ same ∙ is) (λ unlocked free. subst (NoneCanGoApart was between) is
    (rest (ap (list_any is_empty) is ∙ none_empty was.devices old none) unlocked
    (ap (has_free_in was) is ∙ free)))
