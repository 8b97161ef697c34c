-- Where the seats of a partition stand apart none of them is crowded.
use Rattle.std.proofs.Common.{◌≡◌, ◌==◌, ◌&&◌, ◌||◌, ℕ, ◌+◌, ◌<◌, ◌≤◌, Bool, true, false, cond}
use Rattle.std.proofs.Common.{List, length, get_or, map, Option, Some, None}
use Rattle.std.proofs.Common.{refl, sym, ap, ◌∙◌, ⊎_elim, arith}
use Rattle.std.specs.Prelude.{nat_lt}
use Rattle.std.specs.List.Sorted.{IsStrictlyIncreasing}
use Rattle.std.proofs.lemmas.Bool.{cases_Bool, eq-eqb, eqb-true}
use Rattle.std.proofs.lemmas.Bool.Decides.{nat_tests}
use Rattle.std.proofs.lemmas.List.Sums.{sum_by-le-sum_by}
use Rattle.std.proofs.lemmas.Option.{slice_get_within}
use Rattle.ring_words.specs.declared.device.Device.{Device}
use Rattle.ring_share.specs.Codes.{AreCodes}
use Rattle.ring_share.specs.Crowd.{crowd, device_by_id, in_zone, is_less, is_on}
use Rattle.ring_share.specs.Crowd.{on_server, others, pass_both, tiers_of}
use Rattle.ring_share.specs.Figures.{has_crowded}
use Rattle.ring_share.specs.Inner.Coded.{AreStanding, coded}
use Rattle.ring_share.specs.Near.{StandsAt}
use Rattle.ring_share.specs.Tiers.{AreTier}
use Rattle.ring_share.specs.declared.tiers.Tier.TheVariants.{Region, Zone, Server}
use Rattle.ring_share.proofs.Bridge.{near, near_coded, none_better, none_crowded}
use Rattle.ring_share.proofs.Coding.{code_told}
use Rattle.ring_share.proofs.TierLists.{first_of}

-- who shares a server shares a zone
server_in_zone : (devices : List Device) (id : ℕ) (seat : Option ℕ) →
    cond (is_on ((tiers_of devices).server id) seat) 1 0 ≤ cond (is_on ((tiers_of devices).zone id)
    seat) 1 0
server_in_zone devices id None = omega arith
server_in_zone devices id (Some other) = both (device_by_id id devices) (device_by_id other devices)
  where
    both : (a b : Option Device) → cond (pass_both on_server a b) 1 0 ≤ cond (pass_both in_zone a b)
        1 0
    both None b = omega arith
    both (Some a) None = omega arith
    both (Some a) (Some b) = fewer (in_zone a b) (a.row.address == b.row.address)
      where
        fewer : (zone address : Bool) → cond (zone && address) 1 0 ≤ cond zone 1 0
        fewer true true = omega arith
        fewer true false = omega arith
        fewer false address = omega arith

-- a device no less crowded by region than one that is alone in its zone isn't less crowded
not_less : (a b c d e f : ℕ) → d ≤ a → e ≡ 0 → f ≡ 0 →
    (nat_lt a d || ((a == d) && (nat_lt b e || ((b == e) && nat_lt c f)))) ≡ false
not_less a b c d e f h k l = grind (arith, nat_tests)

module _ (devices : List Device) (rise : IsStrictlyIncreasing (map (λ device. device.id) devices))
    (ids places : List ℕ) (all : AreStanding devices ids places) (regions zones : List ℕ)
    (in_regions : AreCodes Region devices regions) (in_zones : AreCodes Zone devices zones) where
  -- a seat that is alone in its zone, and in no region with two more than that of another device,
  -- isn't crowded by that device
  seat_apart : (k id one : ℕ) → k < length ids → StandsAt devices id one
      → coded regions places (get_or regions (get_or places k 0) 0) ≤ coded regions places
      (get_or regions one 0) + 1
      → coded zones places (get_or zones (get_or places k 0) 0) ≤ 1
      → is_less (crowd (tiers_of devices) (others (map Some ids) k) id) (crowd (tiers_of devices)
      (others (map Some ids) k) (get_or ids k 0)) ≡ false
  seat_apart k id one lt stands few alone =
      let rest = others (map Some ids) k in
      let own = get_or ids k 0 in
      let place = get_or places k 0 in
      let here = near_coded devices rise ids places all Region regions in_regions own place
      (all.stand k lt) k lt in
      let zone = near_coded devices rise ids places all Zone zones in_zones own place
      (all.stand k lt) k lt in
      let there = near_coded devices rise ids places all Region regions in_regions id one stands k
      lt in
      let region_same : ◌≡◌ {A = ℕ} (cond (get_or regions place 0 == get_or regions place 0) 1 0) 1
      = ap (λ b. cond b 1 0) (eq-eqb _ _ refl) in
      let zone_same : ◌≡◌ {A = ℕ} (cond (get_or zones place 0 == get_or zones place 0) 1 0) 1 =
      ap (λ b. cond b 1 0) (eq-eqb _ _ refl) in
      let no_fewer : near Region devices rest own ≤ near Region devices rest id = ⊎_elim
      (λ same.
      let counts = ap (coded regions places) (eqb-true _ _ same) in
      let shared : ◌≡◌ {A = ℕ} (cond (get_or regions one 0 == get_or regions place 0) 1 0) 1 =
      ap (λ b. cond b 1 0) same in
      omega (arith, here, there, region_same, counts, shared))
      (λ apart.
      let shared : ◌≡◌ {A = ℕ} (cond (get_or regions one 0 == get_or regions place 0) 1 0) 0 =
      ap (λ b. cond b 1 0) apart in
      omega (arith, here, there, region_same, few, shared))
      (cases_Bool (get_or regions one 0 == get_or regions place 0)) in
      let servers = sum_by-le-sum_by (λ seat. cond (is_on ((tiers_of devices).server own) seat) 1 0)
      (λ seat. cond (is_on ((tiers_of devices).zone own) seat) 1 0) rest
      (server_in_zone devices own) in
      let no_zone : near Zone devices rest own ≡ 0 = omega (arith, zone, zone_same, alone) in
      not_less (near Region devices rest id) (near Zone devices rest id)
      (near Server devices rest id) (near Region devices rest own) (near Zone devices rest own)
      (near Server devices rest own) no_fewer no_zone (omega (arith, servers, no_zone))

  -- so no seat is, where all stand apart
  pub apart_uncrowded : (fewest : ℕ) (firsts : List ℕ) → AreTier Region devices firsts
      → ((index : ℕ) → index < length firsts →
      fewest ≤ coded regions places (get_or regions (get_or firsts index 0) 0))
      → ((k : ℕ) → k < length ids →
      (coded regions places (get_or regions (get_or places k 0) 0) ≤ fewest + 1) ×
      (coded zones places (get_or zones (get_or places k 0) 0) ≤ 1))
      → has_crowded devices (map Some ids) ≡ false
  apart_uncrowded fewest firsts have least own = none_crowded devices ids
      (λ k lt. none_better devices ids k (λ one x at opens.
      let first = first_of Region devices firsts have one x at opens in
      let place = get_or firsts first.index 0 in
      let same = code_told Region devices place one (get_or regions place 0) (get_or regions one 0)
      first.first x first.at at
      (in_regions place (slice_get_within devices place first.first first.at))
      (in_regions one (slice_get_within devices one x at)) in
      let code = ap (coded regions places) (eqb-true _ _ (sym same ∙ first.shared)) in
      let few = least first.index first.below in
      let most = own k lt in
      seat_apart k x.id one lt (record { device = x; at = at; named = refl })
      (omega (arith, few, code, most.0)) most.1))
