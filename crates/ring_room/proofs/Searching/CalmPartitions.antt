-- Partitions of which no seat has a less crowded device.
use Rattle.std.proofs.Common.{◌≡◌, ℕ, Bool, true, false, ◌&&◌, List, [], ◌∷◌, length, get_or, map}
use Rattle.std.proofs.Common.{Option, Some, None, refl, sym, ap, ◌∙◌, ⊎_elim}
use Rattle.std.specs.Prelude.{slice_get}
use Rattle.std.specs.List.{list_any}
use Rattle.std.proofs.lemmas.Bool.{and_left, and_parts, cases_Bool}
use Rattle.std.proofs.lemmas.List.Folds.{Any-from_list_any, list_any_at, list_any_none}
use Rattle.std.proofs.lemmas.Option.{get_or_from_slice_get, slice_get-get_or, slice_get_within}
use Rattle.ring_words.specs.declared.device.Device.{Device}
use Rattle.ring_share.specs.Crowd.{crowd, is_less, is_outside, others, tiers_of}
use Rattle.ring_share.specs.Figures.{has_crowded, is_crowded}
use Rattle.ring_share.specs.Want.{is_open}
use Rattle.ring_share.proofs.Rows.{some_below}
use Rattle.ring_room.specs.Load.{Load, IsLoad, crowd_in, has_room_in, is_free_in}
use Rattle.ring_room.specs.Free.{AreUncrowded, is_crowded_in}
use Rattle.ring_room.specs.Rows.{devices_on, is_empty}
use Rattle.ring_room.proofs.Searching.DevicesAt.{open_at}
use Rattle.ring_room.proofs.Searching.LessCrowded.{free_open}

-- a partition without empty seats is its devices
pub full_row : (row : List (Option ℕ)) → list_any is_empty row ≡ false →
    map Some (devices_on row) ≡ row
full_row [] full = refl
full_row (None ∷ row) full = absurd (cc full)
full_row (Some id ∷ row) full = ap (λ seats. Some id ∷ seats) (full_row row full)

-- where no device is free no seat is crowded
pub calm_full : (was : Load) (row : List (Option ℕ)) → ((id : ℕ) → is_free_in was row id ≡ false) →
    AreUncrowded was row
calm_full was row none replica id at =
    list_any_none (λ (device : Device). is_free_in was row device.id &&
    is_less (crowd_in was (others row replica) device.id) (crowd_in was (others row replica)
    id)) was.devices
    (λ k d lt. and_left (is_free_in was row (get_or was.devices k d).id) _
    (none (get_or was.devices k d).id))

-- nor where no open device outside is less crowded
pub calm_apart : (was : Load) → IsLoad was → (row : List (Option ℕ)) →
    has_crowded was.devices row ≡ false → AreUncrowded was row
calm_apart was is row calm replica id at = ⊎_elim (λ some. absurd (crowded some)) (λ no. no)
    (cases_Bool (is_crowded_in was row replica id))
  where
    all_true : (a b c : Bool) → a ≡ true → b ≡ true → c ≡ true → (a && b && c) ≡ true
    all_true a b c h k l = rw (h, k, l) refl

    crowded : is_crowded_in was row replica id ≡ true → ⊥
    crowded some =
        let tiers = tiers_of was.devices in
        let better = Any-from_list_any (λ (device : Device). is_free_in was row device.id &&
        is_less (crowd_in was (others row replica) device.id) (crowd_in was (others row replica)
        id)) was.devices some in
        let x : Device = better.1 in
        let parts = and_parts (is_free_in was row x.id)
        (is_less (crowd tiers (others row replica) x.id) (crowd tiers (others row replica) id))
        better.4 in
        let free = and_parts (has_room_in was x.id) (is_outside row x.id) parts.0 in
        let there : slice_get was.devices better.0 ≡ Some x = slice_get-get_or was.devices better.0
        x better.2 ∙ ap Some better.3 in
        let opens : is_open x ≡ true = sym (open_at was.devices is.rise better.0 x there) ∙
        free_open was row x.id parts.0 in
        let has : list_any (λ (y : Device). is_open y && is_outside row y.id &&
        is_less (crowd tiers (others row replica) y.id) (crowd tiers (others row replica) id))
        was.devices ≡ true =
        list_any_at (λ (y : Device). is_open y && is_outside row y.id &&
        is_less (crowd tiers (others row replica) y.id) (crowd tiers (others row replica) id))
        was.devices better.0 x better.2
        (ap (λ (y : Device). is_open y && is_outside row y.id &&
        is_less (crowd tiers (others row replica) y.id) (crowd tiers (others row replica) id))
        better.3 ∙ all_true _ _ _ opens free.1 parts.1) in
        let within = slice_get_within row replica (Some id) at in
        let seat : get_or row replica None ≡ Some id = get_or_from_slice_get row replica (Some id)
        None at in
        let found = some_below (λ r. is_crowded was.devices row r (get_or row r None)) (length row)
        replica within (ap (is_crowded was.devices row replica) seat ∙ has) in
        cc (calm, found)
