-- The places of devices.
use Rattle.std.proofs.Common.{◌≡◌, ◌==◌, ℕ, ◌+◌, ◌<◌, ◌≤◌, Bool, true, false, List, [], ◌∷◌, length}
use Rattle.std.proofs.Common.{get_or, map, Some, refl, sym, ap, ◌∙◌, ⊎_elim, arith, zero, suc}
use Rattle.std.specs.Prelude.{slice_get}
use Rattle.std.specs.List.{position_or_len}
use Rattle.std.specs.List.Sorted.{IsStrictlyIncreasing}
use Rattle.std.proofs.lemmas.Bool.{cases_lt, cases_eq, eqb-true}
use Rattle.std.proofs.lemmas.List.Sums.{position_or_len_is}
use Rattle.std.proofs.lemmas.List.Folds.{Any-from_list_any}
use Rattle.std.proofs.lemmas.Option.{slice_get-get_or, slice_get_within, same_Some}
use Rattle.ring_model.specs.Ring.{has_device}
use Rattle.ring_words.specs.declared.device.Device.{Device}
use Rattle.ring_share.specs.Near.{StandsAt}
use Rattle.ring_share.proofs.Sharing.{ids_rise}

-- where nothing passes, the first that does is past the last
pub position_or_len_none : {X : Type 0} (p : X → Bool) → (xs : List X) (n : ℕ) → length xs ≤ n →
    n ≤ length xs → ((k : ℕ) (d : X) → k < n → p (get_or xs k d) ≡ false) →
    length xs ≡ position_or_len p xs
position_or_len_none p [] n le ge none = refl
position_or_len_none p (x ∷ xs) n le ge none =
    sym (position_or_len_is p (x ∷ xs) (length (x ∷ xs)) x (omega arith)
    (λ k lt. none k x (omega (arith, lt, ge, le))) (λ lt. absurd (omega (arith, lt))))

-- a device that was read
pub read_at : (devices : List Device) (place : ℕ) (device : Device) → place < length devices →
    device ≡ get_or devices place device → slice_get devices place ≡ Some device
read_at devices place device lt is = slice_get-get_or devices place device lt ∙ ap Some (sym is)

-- where a device that is known stands
pub record IsFound (devices : List Device) (id : ℕ) : Type 0 where
  pub place : ℕ
  pub stands : StandsAt devices id place

pub found_device : (devices : List Device) (id : ℕ) → has_device id devices ≡ true →
    IsFound devices id
found_device devices id known =
    let found = Any-from_list_any (λ (device : Device). device.id == id) devices known in
    record {
      place = found.0;
      stands = record {
        device = found.1;
        at =
            slice_get-get_or devices found.0 found.1 found.2 ∙ ap Some found.3;
        named =
            eqb-true _ _ found.4;
      };
    }

pub not_before : (devices : List Device) → IsStrictlyIncreasing (map (λ device. device.id) devices)
    → (middle k : ℕ) (m device : Device)
    → slice_get devices middle ≡ Some m → slice_get devices k ≡ Some device → m.id ≤ device.id →
    middle ≤ k
not_before devices rise middle k m device mt at le = ⊎_elim
    (λ before. absurd (let less = ids_rise devices rise k middle device m before at mt in
    omega (arith, less, le)))
    (λ after. after)
    (cases_lt k middle)

pub is_before : (devices : List Device) → IsStrictlyIncreasing (map (λ device. device.id) devices) →
    (middle k : ℕ) (m device : Device)
    → slice_get devices middle ≡ Some m → slice_get devices k ≡ Some device → device.id < m.id →
    k < middle
is_before devices rise middle k m device mt at lt = ⊎_elim
    (λ before. before)
    (λ after. absurd (⊎_elim
    (λ same. let is : m ≡ device = same_Some m device (sym mt ∙ ap (slice_get devices) same ∙ at) in
    let ids = ap (λ (d : Device). d.id) is in omega (arith, ids, lt))
    (λ other. let less = ids_rise devices rise middle k m device (omega (arith, after, other)) mt at
    in omega (arith, less, lt))
    (cases_eq middle k)))
    (cases_lt k middle)

-- where only one place is left, the device stands there
pub stands_there : (devices : List Device) (id low : ℕ) → has_device id devices ≡ true →
    ((k : ℕ) (device : Device) → slice_get devices k ≡ Some device → device.id ≡ id → (low ≤ k) ×
    (k < low + 1)) → StandsAt devices id low
stands_there devices id low known between =
    let found = found_device devices id known in
    let s = found.stands in
    let there = between found.place s.device s.at s.named in
    let same : found.place ≡ low = omega (arith, there) in
    record { device = s.device; at = ap (slice_get devices) (sym same) ∙ s.at; named = s.named }

-- numbers rise by one at least from place to place
pub gap_between : (devices : List Device)
    → IsStrictlyIncreasing (map (λ device. device.id) devices)
    → (gap k j : ℕ) (first last : Device) → k + gap ≡ j
    → slice_get devices k ≡ Some first → slice_get devices j ≡ Some last
    → first.id + gap ≤ last.id
gap_between devices rise zero k j first last far at end =
    let one : k ≡ j = omega (arith, far) in
    let same : first ≡ last = same_Some first last (sym at ∙ ap (slice_get devices) one ∙ end) in
    let ids = ap (λ (d : Device). d.id) same in
    omega (arith, ids)
gap_between devices rise (suc gap) k j first last far at end =
    let within = slice_get_within devices j last end in
    let middle = get_or devices (k + gap) first in
    let there = slice_get-get_or devices (k + gap) first (omega (arith, within, far)) in
    let before = gap_between devices rise gap k (k + gap) first middle refl at there in
    let less = ids_rise devices rise (k + gap) j middle last (omega (arith, far)) there end in
    omega (arith, before, less)

-- a device stands at most at the place of its number
pub at_most_number : (devices : List Device)
    → IsStrictlyIncreasing (map (λ device. device.id) devices) → (k : ℕ) (device : Device)
    → slice_get devices k ≡ Some device → k ≤ device.id
at_most_number devices rise k device at =
    let within = slice_get_within devices k device at in
    let first = get_or devices 0 device in
    let there = slice_get-get_or devices 0 device (omega (arith, within)) in
    let gap = gap_between devices rise k 0 k first device (omega arith) there at in
    omega (arith, gap)
