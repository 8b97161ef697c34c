-- What seats counted by codes tell is what the crowds say.
use Rattle.std.proofs.Common.{◌≡◌, ◌≢◌, ◌==◌, ◌&&◌, ◌+◌, ◌<◌, ◌≤◌, ℕ, suc, zero, Bool, true, false}
use Rattle.std.proofs.Common.{cond, List, [], ◌∷◌, length, get_or, count_by, map, Option, Some, None}
use Rattle.std.proofs.Common.{◌||◌, not, take, refl, sym, ap, subst, ◌∙◌, ⊎_elim, arith, All}
use Rattle.ring_words.specs.Limits.{most_devices}
use Rattle.std.specs.Prelude.{slice_get}
use Rattle.std.specs.List.{list_any}
use Rattle.std.specs.List.Sorted.{IsStrictlyIncreasing}
use Rattle.std.proofs.lemmas.Bool.{and_from, and_left, and_right, cases_Bool, cases_eq, eq-eqb, ne_eqb}
use Rattle.std.proofs.lemmas.Bool.Decides.{nat_tests}
use Rattle.std.proofs.lemmas.List.{get_or-map, get_or-take, length-map, length-take-le}
use Rattle.std.proofs.lemmas.List.Folds.{find_at, list_any_at, list_any_none}
use Rattle.std.proofs.lemmas.List.Sums.{position_or_len_is, sum_by-cons, sum_by_more, sum_by-set}
use Rattle.std.proofs.lemmas.Option.{get_or_from_slice_get, slice_get-get_or}
use Rattle.std.proofs.lemmas.Option.{slice_get_within}
use Rattle.ring_model.specs.Ring.{has_device}
use Rattle.ring_words.specs.declared.device.Device.{Device}
use Rattle.ring_share.specs.declared.better.ByTier.{ByTier}
use Rattle.ring_share.specs.declared.tiers.Tier.{Tier}
use Rattle.ring_share.specs.declared.tiers.Tier.TheVariants.{Region, Zone, Server}
use Rattle.ring_share.specs.Codes.{AreCodes}
use Rattle.ring_share.specs.Crowd.{crowd, device_by_id, is_less, is_on, is_outside, others}
use Rattle.ring_share.specs.Crowd.{pass_both, tiers_of}
use Rattle.ring_share.specs.Figures.{has_better, has_crowded, is_crowded}
use Rattle.ring_share.specs.Inner.Coded.{AreAllCodes, AreOthers, AreStanding, coded, crowd_at}
use Rattle.ring_share.specs.Near.{StandsAt}
use Rattle.ring_share.specs.Room.{has_open, place_of}
use Rattle.ring_share.specs.Tiers.{shares}
use Rattle.ring_share.specs.Want.{is_open}
use Rattle.ring_share.proofs.Coding.{code_told}
use Rattle.ring_share.proofs.Counting.{apart}
use Rattle.ring_share.proofs.Rows.{none_below, some_below}
use Rattle.ring_share.proofs.Standing.{found_device}

-- ---- the device of a number

-- it stands at one place
pub place_is : (devices : List Device) → IsStrictlyIncreasing (map (λ device. device.id) devices) →
    (id place : ℕ) → StandsAt devices id place → place_of id devices ≡ place
place_is devices rise id place s =
    let x = s.device in
    let within = slice_get_within devices place x s.at in
    position_or_len_is (λ (device : Device). device.id == id) devices place x
    (omega (arith, within))
    (λ k lt. let read : slice_get devices k ≡ Some (get_or devices k x) =
    slice_get-get_or devices k x (omega (arith, lt, within)) in
    ne_eqb _ _ (λ same. apart devices rise k place (get_or devices k x) x read s.at (let ne : k ≢
    place = omega arith in ne) (same ∙ sym s.named)))
    (λ lt. eq-eqb _ _ (ap (λ (d : Device). d.id) (get_or_from_slice_get devices place x x s.at) ∙
    s.named))

pub device_of : (devices : List Device) → IsStrictlyIncreasing (map (λ device. device.id) devices)
    → (id place : ℕ) (s : StandsAt devices id place) → device_by_id id devices ≡ Some s.device
device_of devices rise id place s = find_at (λ (device : Device). device.id == id) devices ∙ ap
    (slice_get devices) (place_is devices rise id place s) ∙ s.at

pub device_of_at : (devices : List Device) →
    IsStrictlyIncreasing (map (λ device. device.id) devices) → (place : ℕ) (x : Device) →
    slice_get devices place ≡ Some x → device_by_id x.id devices ≡ Some x
device_of_at devices rise place x at = device_of devices rise x.id place (record {
  device = x;
  at = at;
  named = refl;
})

-- an open device has the number exactly where this one is open
pub open_is : (devices : List Device) → IsStrictlyIncreasing (map (λ device. device.id) devices) →
    (id place : ℕ) (s : StandsAt devices id place) → has_open id devices ≡ is_open s.device
open_is devices rise id place s = ⊎_elim
    (λ yes. list_any_at test devices place x within (ap test here ∙ and_from (x.id == id) (is_open
    x) (eq-eqb _ _ s.named) yes) ∙ sym yes)
    (λ no. list_any_none test devices (λ k d lt. ⊎_elim
    (λ same. and_right ((get_or devices k d).id == id) _ (ap (λ j. is_open (get_or devices j d))
    same ∙ ap is_open (get_or_from_slice_get devices place x d s.at) ∙ no))
    (λ other. and_left _ (is_open (get_or devices k d)) (ne_eqb _ _ (λ e. apart devices rise k
    place (get_or devices k d) x (slice_get-get_or devices k d lt) s.at other
    (e ∙ sym s.named))))
    (cases_eq k place)) ∙ sym no)
    (cases_Bool (is_open s.device))
  where
    x : Device
    x = s.device

    test : Device → Bool
    test device = (device.id == id) && is_open device

    within : place < length devices
    within = slice_get_within devices place x s.at

    here : get_or devices place x ≡ x
    here = get_or_from_slice_get devices place x x s.at

-- ---- seats and codes

sum_cons : {X : Type 0} (test : X → Bool) (x : X) (xs : List X) →
    count_by test (x ∷ xs) ≡ cond (test x) 1 0 + count_by test xs
sum_cons test x xs = sum_by-cons (λ y. cond (test y) 1 0) x xs

-- tests that agree element by element count the same
count_alike : (test other : ℕ → Bool) (ids places : List ℕ) → length places ≡ length ids
    → ((k : ℕ) → k < length ids → test (get_or ids k 0) ≡ other (get_or places k 0)) →
    count_by (is_on test) (map Some ids) ≡ count_by other places
count_alike test other [] [] count same = refl
count_alike test other [] (place ∷ places) count same = absurd (omega (arith, count))
count_alike test other (id ∷ ids) [] count same = absurd (omega (arith, count))
count_alike test other (id ∷ ids) (place ∷ places) count same =
    let head = ap {B = ℕ} (λ b. cond b 1 0) (same zero (omega arith)) in
    let rest = count_alike test other ids places (omega (arith, count))
    (λ k lt. same (suc k) (omega (arith, lt))) in
    let one = sum_cons (is_on test) (Some id) (map Some ids) in
    let two = sum_cons other place places in
    omega (arith, head, rest, one, two)

-- a device is outside a partition exactly where none of the seats is on it
pub outside_is : (test : ℕ → Bool) (ids : List ℕ) →
    (count_by (is_on test) (map Some ids) == 0) ≡ not (list_any test ids)
outside_is test [] = refl
outside_is test (id ∷ ids) = step (test id) (count_by (is_on test) (map Some ids))
    (list_any test ids) (count_by (is_on test) (map Some (id ∷ ids)))
    (sum_cons (is_on test) (Some id) (map Some ids)) (outside_is test ids)
  where
    step : (b : Bool) (n : ℕ) (c : Bool) (m : ℕ) → m ≡ cond b 1 0 + n → (n == 0) ≡ not c →
        (m == 0) ≡ not (b || c)
    step true n c m e h = grind (arith, nat_tests)
    step false n c m e h = rw e (let same : 0 + n ≡ n = omega arith in rw same h)

-- the places that were found for some numbers
pub standing_front : (devices : List Device) (ids places : List ℕ) → length ids ≤ length places →
    ((replica : ℕ) → replica < length ids → StandsAt devices (get_or ids replica 0)
    (get_or places replica 0)) → AreStanding devices ids (take (length ids) places)
standing_front devices ids places few stand = record {
  count = length-take-le (length ids) places few;
  stand = λ replica lt. subst (λ place. StandsAt devices (get_or ids replica 0) place)
      (sym (get_or-take (length ids) places replica 0 lt)) (stand replica lt);
}

-- the places of the devices of some numbers
abbrev pub places_by_id : List Device → List ℕ → List ℕ
places_by_id devices ids = map (λ id. place_of id devices) ids

pub standing_by_id : (devices : List Device) → IsStrictlyIncreasing
    (map (λ device. device.id) devices) → (ids : List ℕ) → All (λ id. has_device id devices ≡ true)
    ids → AreStanding devices ids (places_by_id devices ids)
standing_by_id devices rise ids known = record {
  count = length-map ids (λ id. place_of id devices);
  stand = λ replica lt.
      let id = get_or ids replica 0 in
      let found = found_device devices id (known replica 0 lt) in
      subst (λ place. StandsAt devices id place) (sym (place_is devices rise id found.place
      found.stands) ∙ sym (get_or-map (λ id. place_of id devices) ids replica 0 0 lt)) found.stands;
}

-- one more of these places has a code, or not
pub coded_more : (codes places : List ℕ) (i place code : ℕ) → i < length places → get_or places i 0
    ≡ place → coded codes (take (i + 1) places) code ≡ coded codes (take i places) code + cond
    (code == get_or codes place 0) 1 0
coded_more codes places i place code lt at =
    sum_by_more (λ (k : ℕ). cond (code == get_or codes k 0) 1 0) places i 0 lt ∙ ap
    (λ (k : ℕ). coded codes (take i places) code + cond (code == get_or codes k 0) 1 0) at

-- how many seats share a tier of a kind with the device of a number
abbrev pub near : Tier → List Device → List (Option ℕ) → ℕ → ℕ
near tier devices row id = count_by (is_on (λ n. pass_both (shares tier) (device_by_id id devices)
    (device_by_id n devices))) row

module _ (devices : List Device) (rise : IsStrictlyIncreasing (map (λ device. device.id) devices))
    (ids places : List ℕ) (all : AreStanding devices ids places) where
  -- the other seats near a device are those that have its code
  pub near_coded : (tier : Tier) (codes : List ℕ) → AreCodes tier devices codes → (id one : ℕ) →
      StandsAt devices id one → (k : ℕ) → k < length ids → near tier devices
      (others (map Some ids) k) id + cond (get_or codes one 0 == get_or codes (get_or places k 0) 0)
      1 0 ≡ coded codes places (get_or codes one 0)
  near_coded tier codes are id one s k lt =
      let every = count_alike test (λ place. get_or codes one 0 == get_or codes place 0) ids places
      all.count told in
      let long = length-map ids Some in
      let without = sum_by-set (λ seat. cond (is_on test seat) 1 0) (map Some ids) k None None
      (omega (arith, lt, long)) in
      let seat : get_or (map Some ids) k None ≡ Some (get_or ids k 0) =
      get_or-map Some ids k 0 None lt in
      let own : ◌≡◌ {A = ℕ} (cond (is_on test (get_or (map Some ids) k None)) 1 0) (cond (get_or
      codes one 0 == get_or codes (get_or places k 0) 0) 1 0) =
      ap (λ o. cond (is_on test o) 1 0) seat ∙ ap (λ b. cond b 1 0) (told k lt) in
      omega (arith, every, without, own)
    where
      test : ℕ → Bool
      test n = pass_both (shares tier) (device_by_id id devices) (device_by_id n devices)

      -- a seat is near exactly where its device has the code
      told : (j : ℕ) → j < length ids → test (get_or ids j 0) ≡ (get_or codes one 0 == get_or codes
          (get_or places j 0) 0)
      told j below =
          let other = all.stand j below in
          let place = get_or places j 0 in
          ap (λ found. pass_both (shares tier) found (device_by_id (get_or ids j 0) devices))
          (device_of devices rise id one s)
          ∙ ap (pass_both (shares tier) (Some s.device)) (device_of devices rise (get_or ids j 0)
          place other)
          ∙ code_told tier devices one place (get_or codes one 0) (get_or codes place 0) s.device
          other.device s.at other.at (are one (slice_get_within devices one s.device s.at))
          (are place (slice_get_within devices place other.device other.at))

  -- the counts without a seat tell how crowded devices are for it
  pub crowd_told : length devices ≤ most_devices → (codes counts : ByTier) → AreAllCodes devices
      codes → (k : ℕ) → k < length ids → AreOthers codes.region places k counts.region →
      AreOthers codes.zone places k counts.zone → AreOthers codes.server places k counts.server →
      (id one : ℕ) → StandsAt devices id one → crowd_at codes counts one ≡ crowd
      (tiers_of devices) (others (map Some ids) k) id
  crowd_told few codes counts are k lt region zone server id one s =
      let r = tier_told Region codes.region counts.region are.region region in
      let z = tier_told Zone codes.zone counts.zone are.zone zone in
      let v = tier_told Server codes.server counts.server are.server server in
      rw (r, z, v) refl
    where
      tier_told : (tier : Tier) (tier_codes tier_counts : List ℕ) → AreCodes tier devices tier_codes
          → AreOthers tier_codes places k tier_counts →
          get_or tier_counts (get_or tier_codes one 0) 0 ≡ near tier devices
          (others (map Some ids) k) id
      tier_told tier tier_codes tier_counts have counted =
          let within = slice_get_within devices one s.device s.at in
          let low = (have one within).within in
          let near_them = near_coded tier tier_codes have id one s k lt in
          let count = counted (get_or tier_codes one 0) (omega (arith, few, within, low)) in
          omega (arith, near_them, count)

-- ---- crowded seats

-- no open device is better for a seat
pub none_better : (devices : List Device) (ids : List ℕ) (k : ℕ) → ((one : ℕ) (x : Device) →
    slice_get devices one ≡ Some x → is_open x ≡ true → is_less (crowd (tiers_of devices)
    (others (map Some ids) k) x.id) (crowd (tiers_of devices) (others (map Some ids) k)
    (get_or ids k 0)) ≡ false) → has_better devices (map Some ids) k (get_or ids k 0) ≡ false
none_better devices ids k none = list_any_none _ devices (λ one d lt.
    let x = get_or devices one d in
    let out = is_outside (map Some ids) x.id in
    ⊎_elim
    (λ opens. and_right (is_open x && out) _ (none one x (slice_get-get_or devices one d lt) opens))
    (λ closed. and_left (is_open x && out) _ (and_left (is_open x) out closed))
    (cases_Bool (is_open x)))

-- a partition has a seat for which some device is better
pub some_crowded : (devices : List Device) (ids : List ℕ) (k : ℕ) → k < length ids →
    has_better devices (map Some ids) k (get_or ids k 0) ≡ true → has_crowded devices
    (map Some ids) ≡ true
some_crowded devices ids k lt better = some_below (λ replica. is_crowded devices (map Some ids)
    replica (get_or (map Some ids) replica None)) (length (map Some ids)) k
    (let long = length-map ids Some in omega (arith, lt, long))
    (ap (is_crowded devices (map Some ids) k) (get_or-map Some ids k 0 None lt) ∙ better)

-- it has none
pub none_crowded : (devices : List Device) (ids : List ℕ) → ((k : ℕ) → k < length ids →
    has_better devices (map Some ids) k (get_or ids k 0) ≡ false) → has_crowded devices
    (map Some ids) ≡ false
none_crowded devices ids none = none_below (λ replica. is_crowded devices (map Some ids) replica
    (get_or (map Some ids) replica None)) (length (map Some ids))
    (λ k lt.
    let below : k < length ids = (let long = length-map ids Some in omega (arith, lt, long)) in
    ap (is_crowded devices (map Some ids) k) (get_or-map Some ids k 0 None below) ∙ none k below)
