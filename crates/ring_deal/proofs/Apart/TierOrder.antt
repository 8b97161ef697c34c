-- In the order in which cards are laid in a row the devices of a tier stand next to one another.
use Rattle.std.proofs.Common.{◌≡◌, ◌==◌, ◌∙◌, ℕ, zero, suc, ◌+◌, ◌%◌, ◌<◌, ◌≤◌, All, Bool, true, false}
use Rattle.std.proofs.Common.{List, Some, ap, arith, get_or, inl, inr, length, map, slice_get, subst, sym, ⊎_elim, ◌⊎◌}
use Rattle.std.specs.List.{range_with_len}
use Rattle.std.specs.Prelude.{slice_index}
use Rattle.std.proofs.lemmas.Bool.{and_parts, cases_Bool, cases_lt, eq-eqb, eqb-true}
use Rattle.std.proofs.lemmas.List.{get_or-map, length-map}
use Rattle.std.proofs.lemmas.List.Elements.{All-map}
use Rattle.std.proofs.lemmas.List.FromFn.{get_or-range_with_len, length-range_with_len}
use Rattle.std.proofs.lemmas.List.Sorted.{All-permutation, length_permutation}
use Rattle.ring_words.specs.Limits.{most_devices}
use Rattle.ring_words.specs.declared.device.Device.{Device}
use Rattle.ring_share.specs.Codes.{IsCode}
use Rattle.ring_share.specs.Crowd.{in_region, in_zone, pass_both}
use Rattle.ring_share.specs.Tiers.{shares}
use Rattle.ring_share.specs.declared.tiers.Tier.{Tier}
use Rattle.ring_share.specs.declared.tiers.Tier.TheVariants.{Region, Zone, Server}
use Rattle.ring_share.proofs.Coding.{code_told}
use Rattle.ring_share.proofs.TierLists.{shares_self}
use Rattle.ring_room.specs.Steps.{or_zero}
use Rattle.ring_room.proofs.Steps.{first_is}
use Rattle.ring_deal.specs.Order.{ascending, behind, first_in_tier, order_key, share_tier, tier_order}
use Rattle.ring_deal.specs.Order.{tier_rank}
use Rattle.ring_deal.proofs.Apart.DrawnRanks.{AreRanks}
use Rattle.ring_deal.proofs.Apart.Runs.{IsUnbroken}
use Rattle.ring_deal.proofs.Ordered.{ascending_permutes, ascending_rises, device_there, key_place}
use Rattle.ring_deal.proofs.Ordered.{order_permutes}
use Rattle.ring_deal.proofs.Orders.{order_below}

-- ---- the first device of a tier

-- the least number that passes a test
record IsLeast (test : ℕ → Bool) (at : ℕ) : Type 0 where
  first : ℕ
  within : first ≤ at
  passes : test first ≡ true
  none_before : (k : ℕ) → k < first → test k ≡ false

least_up_to : (test : ℕ → Bool) (n : ℕ) → ((k : ℕ) → k < n → test k ≡ false) ⊎ IsLeast test n
least_up_to test zero = inl (λ k lt. absurd (omega (arith, lt)))
least_up_to test (suc n) = ⊎_elim
    (λ none. ⊎_elim
    (λ here. inr (record {
      first = n;
      within = omega arith;
      passes = here;
      none_before = none;
    }))
    (λ not. inl (λ k lt. ⊎_elim (λ before. none k before)
    (λ at. let same : n ≡ k = omega (arith, lt, at) in ap test (sym same) ∙ not) (cases_lt k n)))
    (cases_Bool (test n)))
    (λ found. let within = found.within in inr (record {
      first = found.first;
      within = omega (arith, within);
      passes = found.passes;
      none_before = found.none_before;
    }))
    (least_up_to test n)

least_is : (test : ℕ → Bool) (at : ℕ) → test at ≡ true → IsLeast test at
least_is test at here = ⊎_elim
    (λ none. record {
      first = at;
      within = omega arith;
      passes = here;
      none_before = none;
    })
    (λ found. found) (least_up_to test at)

shares_there : (tier : Tier) (devices : List Device) (place other : ℕ) (x y : Device) →
    slice_get devices place ≡ Some x → slice_get devices other ≡ Some y → share_tier tier devices
    place other ≡ shares tier y x
shares_there tier devices place other x y at there =
    ap (λ o. pass_both (shares tier) o (slice_get devices place)) there
    ∙ ap (λ o. pass_both (shares tier) (Some y) o) at

-- it tells the tier
pub first_code : (tier : Tier) (devices : List Device) (place : ℕ) → place < length devices → IsCode
    tier devices place (first_in_tier tier devices place)
first_code tier devices place lt =
    let own = device_there devices place lt in
    let least = least_is (share_tier tier devices place) place (shares_there tier devices place place
    own.0 own.0 own.1 own.1 ∙ shares_self tier own.0) in
    let within = least.within in
    let is = first_is (share_tier tier devices place) (place + 1) least.first (omega (arith, within))
    least.none_before least.passes in
    subst (IsCode tier devices place) (ap or_zero is) (record {
      within = within;
      shared = λ first device at here. sym (shares_there tier devices place least.first device first
          here at) ∙ least.passes;
      none_before = λ other before device lower at here. sym (shares_there tier devices place other
          device before here at) ∙ least.none_before other lower;
    })

share_told : (tier : Tier) (devices : List Device) (place other : ℕ) → place < length devices →
    other < length devices → share_tier tier devices place other ≡
    (first_in_tier tier devices other == first_in_tier tier devices place)
share_told tier devices place other lt below =
    let own = device_there devices place lt in
    let there = device_there devices other below in
    shares_there tier devices place other own.0 there.0 own.1 there.1
    ∙ code_told tier devices other place (first_in_tier tier devices other)
    (first_in_tier tier devices place) there.0 own.0 there.1 own.1
    (first_code tier devices other below) (first_code tier devices place lt)

-- ---- the ranks of tiers

-- who shares a zone shares a region, and who shares a server shares both
zone_region : (x y : Device) → in_zone x y ≡ true → in_region x y ≡ true
zone_region x y is = (and_parts (in_region x y) (x.row.zone == y.row.zone) is).0

server_zone : (x y : Device) → shares Server x y ≡ true → in_zone x y ≡ true
server_zone x y is = (and_parts (in_zone x y) (x.row.address == y.row.address) is).0

share_wider : (narrow wide : Tier) (devices : List Device) (place other : ℕ) →
    ((x y : Device) → shares narrow x y ≡ true → shares wide x y ≡ true) → place < length devices →
    other < length devices → share_tier narrow devices place other ≡ true →
    share_tier wide devices place other ≡ true
share_wider narrow wide devices place other widens lt below is =
    let own = device_there devices place lt in
    let there = device_there devices other below in
    shares_there wide devices place other own.0 there.0 own.1 there.1
    ∙ widens there.0 own.0 (sym (shares_there narrow devices place other own.0 there.0 own.1 there.1)
    ∙ is)

-- by what devices of different tiers of a kind are ordered
abbrev pub tier_key : Tier → List Device → List ℕ → ℕ → ℕ
tier_key Region devices ranks place = tier_rank Region devices ranks place
tier_key Zone devices ranks place = behind (tier_rank Region devices ranks place)
    (tier_rank Zone devices ranks place)
tier_key Server devices ranks place = behind (behind (tier_rank Region devices ranks place)
    (tier_rank Zone devices ranks place)) (tier_rank Server devices ranks place)

module _ (devices : List Device) (ranks : List ℕ) (are : AreRanks (length devices) ranks) where
  first_within : (tier : Tier) (place : ℕ) → place < length devices → first_in_tier tier devices
      place < length devices
  first_within tier place lt = let within = (first_code tier devices place lt).within in
      omega (arith, within, lt)

  rank_small : (tier : Tier) (place : ℕ) → place < length devices → tier_rank tier devices ranks place
      < most_devices
  rank_small tier place lt = are.small (first_in_tier tier devices place) (first_within tier place lt)

  -- who shares a tier has its rank
  same_rank : (tier : Tier) (place other : ℕ) → place < length devices → other < length devices →
      share_tier tier devices place other ≡ true → tier_rank tier devices ranks other ≡ tier_rank tier
      devices ranks place
  same_rank tier place other lt below is = ap (slice_index ranks) (eqb-true _ _
      (sym (share_told tier devices place other lt below) ∙ is))

  -- and only who does
  rank_shares : (tier : Tier) (place other : ℕ) → place < length devices → other < length devices →
      tier_rank tier devices ranks other ≡ tier_rank tier devices ranks place → share_tier tier devices
      place other ≡ true
  rank_shares tier place other lt below same = share_told tier devices place other lt below ∙ eq-eqb _ _
      (are.once (first_in_tier tier devices other) (first_in_tier tier devices place)
      (first_within tier other below) (first_within tier place lt) same)

  same_key : (tier : Tier) (place other : ℕ) → place < length devices → other < length devices →
      share_tier tier devices place other ≡ true → tier_key tier devices ranks other ≡ tier_key tier
      devices ranks place
  same_key Region place other lt below is = same_rank Region place other lt below is
  same_key Zone place other lt below is =
      let region = same_rank Region place other lt below (share_wider Zone Region devices place other
      zone_region lt below is) in
      let zone = same_rank Zone place other lt below is in
      omega (arith, region, zone)
  same_key Server place other lt below is =
      let shared = share_wider Server Zone devices place other server_zone lt below is in
      let region = same_rank Region place other lt below (share_wider Zone Region devices place other
      zone_region lt below shared) in
      let zone = same_rank Zone place other lt below shared in
      let server = same_rank Server place other lt below is in
      omega (arith, region, zone, server)

  key_shares : (tier : Tier) (place other : ℕ) → place < length devices → other < length devices →
      tier_key tier devices ranks other ≡ tier_key tier devices ranks place → share_tier tier devices
      place other ≡ true
  key_shares Region place other lt below same = rank_shares Region place other lt below same
  key_shares Zone place other lt below same =
      let one = rank_small Zone place lt in
      let two = rank_small Zone other below in
      rank_shares Zone place other lt below (omega (arith, same, one, two))
  key_shares Server place other lt below same =
      let one = rank_small Server place lt in
      let two = rank_small Server other below in
      rank_shares Server place other lt below (omega (arith, same, one, two))

  -- in the order the tiers' keys ascend
  key_rises : (tier : Tier) (low high : ℕ) → low < length devices → high < length devices →
      length devices ≤ most_devices → order_key devices ranks low ≤ order_key devices ranks high →
      tier_key tier devices ranks low ≤ tier_key tier devices ranks high
  key_rises tier low high lt below few le =
      let server : tier_key Server devices ranks low ≤ tier_key Server devices ranks high =
      (let a = are.small low lt in let b = are.small high below in omega (arith, le, lt, below, few, a, b))
      in
      let s = rank_small Server low lt in
      let s2 = rank_small Server high below in
      let zone : tier_key Zone devices ranks low ≤ tier_key Zone devices ranks high =
      omega (arith, server, s, s2) in
      let z = rank_small Zone low lt in
      let z2 = rank_small Zone high below in
      let region : tier_key Region devices ranks low ≤ tier_key Region devices ranks high =
      omega (arith, zone, z, z2) in
      pick tier region zone server
    where
      pick : (tier : Tier) → tier_key Region devices ranks low ≤ tier_key Region devices ranks high →
          tier_key Zone devices ranks low ≤ tier_key Zone devices ranks high →
          tier_key Server devices ranks low ≤ tier_key Server devices ranks high →
          tier_key tier devices ranks low ≤ tier_key tier devices ranks high
      pick Region region zone server = region
      pick Zone region zone server = zone
      pick Server region zone server = server

  -- ---- the order

  module _ (few : length devices ≤ most_devices) where
    abbrev pub all : List ℕ
    all = range_with_len 0 (length devices)

    abbrev pub keys : List ℕ
    keys = map (order_key devices ranks) all

    abbrev pub sorted : List ℕ
    sorted = ascending keys

    abbrev pub order : List ℕ
    order = tier_order devices ranks

    sorted_length : length sorted ≡ length devices
    sorted_length = length_permutation keys sorted (ascending_permutes keys)
        ∙ length-map all (order_key devices ranks) ∙ length-range_with_len 0 (length devices)

    order_length : length order ≡ length devices
    order_length = length_permutation all order (order_permutes devices ranks few)
        ∙ length-range_with_len 0 (length devices)

    -- each key is that of the place that comes last in it
    keys_are : All (λ key. key ≡ order_key devices ranks (key % most_devices)) sorted
    keys_are = All-permutation (λ key. key ≡ order_key devices ranks (key % most_devices)) keys sorted
        (ascending_permutes keys) (All-map (λ key. key ≡ order_key devices ranks (key % most_devices))
        (order_key devices ranks) all (λ k d lt.
        let within : k < length devices = omega (arith, lt, length-range_with_len 0 (length devices)) in
        let at = get_or-range_with_len 0 (length devices) k d within in
        ap (order_key devices ranks) (sym (key_place devices ranks (get_or all k d)
        (omega (arith, at, within, few))))))

    place_at : (n : ℕ) → n < length devices → get_or order n 0 ≡ get_or sorted n 0 % most_devices
    place_at n lt = get_or-map (λ key. key % most_devices) sorted n 0 0
        (omega (arith, lt, sorted_length))

    key_at : (n : ℕ) → n < length devices → get_or sorted n 0 ≡ order_key devices ranks
        (get_or order n 0)
    key_at n lt = keys_are n 0 (omega (arith, lt, sorted_length)) ∙ ap (order_key devices ranks)
        (sym (place_at n lt))

    order_within : (n : ℕ) → n < length devices → get_or order n 0 < length devices
    order_within n lt = order_below (length devices) order (order_permutes devices ranks few) n
        (omega (arith, lt, order_length))

    order_rises : (low high : ℕ) → low < high → high < length devices → order_key devices ranks
        (get_or order low 0) ≤ order_key devices ranks (get_or order high 0)
    order_rises low high lt below =
        let one = key_at low (omega (arith, lt, below)) in
        let other = key_at high below in
        let rise = ascending_rises keys low high 0 (omega (arith, lt)) (omega (arith, below, sorted_length))
        in omega (arith, one, other, rise)

    -- the devices that share a tier with one stand next to one another
    pub order_unbroken : (tier : Tier) (place : ℕ) → place < length devices → IsUnbroken
        (λ n. share_tier tier devices place (get_or order n 0)) (length order)
    order_unbroken tier place here low mid high lt more below first last =
        let within : high < length devices = omega (arith, below, order_length) in
        let between : mid < length devices = omega (arith, more, within) in
        let under : low < length devices = omega (arith, lt, between) in
        let a = same_key tier place (get_or order low 0) here (order_within low under) first in
        let b = same_key tier place (get_or order high 0) here (order_within high within) last in
        let up = key_rises tier (get_or order low 0) (get_or order mid 0) (order_within low under)
        (order_within mid between) few (order_rises low mid lt between) in
        let on = key_rises tier (get_or order mid 0) (get_or order high 0) (order_within mid between)
        (order_within high within) few (order_rises mid high more within) in
        key_shares tier place (get_or order mid 0) here (order_within mid between)
        (omega (arith, a, b, up, on))
