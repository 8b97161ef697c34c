-- Lists with one device of each tier.
use Rattle.std.proofs.Common.{◌≡◌, ◌&&◌, ◌||◌, ◌++◌, ℕ, ◌<◌, Bool, true, false, List, [], ◌∷◌}
use Rattle.std.proofs.Common.{length, get_or, Some, refl, sym, ap, ◌∙◌}
use Rattle.std.specs.Prelude.{slice_get}
use Rattle.std.specs.List.{list_any}
use Rattle.std.proofs.lemmas.Bool.{eq-eqb}
use Rattle.std.proofs.lemmas.Grind.{get_or_default_zero}
use Rattle.std.proofs.lemmas.List.Folds.{Any-from_list_any, list_any-append}
use Rattle.std.proofs.lemmas.Option.{get_or_from_slice_get, slice_get-get_or, slice_get_within}
use Rattle.ring_words.specs.declared.device.Device.{Device}
use Rattle.ring_share.specs.Crowd.{pass_both}
use Rattle.ring_share.specs.Near.{is_open_at}
use Rattle.ring_share.specs.Tiers.{AreTier, shares}
use Rattle.ring_share.specs.Want.{is_open}
use Rattle.ring_share.specs.declared.tiers.Tier.{Tier}
use Rattle.ring_share.specs.declared.tiers.Tier.TheVariants.{Region, Zone, Server}

pub shared_read : (tier : Tier) (devices : List Device) (place : ℕ) (x device : Device) →
    place < length devices → pass_both (shares tier) (slice_get devices place) (Some device) ≡
    shares tier (get_or devices place x) device
shared_read tier devices place x device lt =
    ap (λ found. pass_both (shares tier) found (Some device)) (slice_get-get_or devices place x lt)

-- what a list has a longer one has
pub more_any : (test : ℕ → Bool) (places : List ℕ) (place : ℕ) → list_any test places ≡ true →
    list_any test (places ++ place ∷ []) ≡ true
more_any test places place found = list_any-append test places (place ∷ []) ∙ ap (λ b. b ||
    list_any test (place ∷ [])) found

pub last_any : (test : ℕ → Bool) (places : List ℕ) (place : ℕ) → test place ≡ true →
    list_any test (places ++ place ∷ []) ≡ true
last_any test places place own = list_any-append test places (place ∷
    []) ∙ (rw own (or_true (list_any test places)))
  where
    or_true : (b : Bool) → (b || (true || false)) ≡ true
    or_true true = refl
    or_true false = refl

-- two facts together
pub both_true : (a b : Bool) → a ≡ true → b ≡ true → (a && b) ≡ true
both_true true b h k = k
both_true false b h k = h

-- a device shares its tiers with itself
pub shares_self : (tier : Tier) (x : Device) → shares tier x x ≡ true
shares_self Region x = eq-eqb x.row.region x.row.region refl
shares_self Zone x = both_true _ _ (eq-eqb x.row.region x.row.region refl)
    (eq-eqb x.row.zone x.row.zone refl)
shares_self Server x = both_true _ _ (both_true _ _ (eq-eqb x.row.region x.row.region refl)
    (eq-eqb x.row.zone x.row.zone refl)) (eq-eqb x.row.address x.row.address refl)

-- The list has the place of a device that shares a tier with this one.
pub record HasFirst (tier : Tier) (devices : List Device) (firsts : List ℕ) (x : Device) : Type 0
  where
    pub index : ℕ
    pub below : index < length firsts
    pub first : Device
    pub at : slice_get devices (get_or firsts index 0) ≡ Some first
    pub shared : shares tier first x ≡ true

-- so it is for each open device
pub first_of : (tier : Tier) (devices : List Device) (firsts : List ℕ) → AreTier tier devices firsts
    → (one : ℕ) (x : Device) → slice_get devices one ≡ Some x → is_open x ≡ true →
    HasFirst tier devices firsts x
first_of tier devices firsts have one x at opens =
    let is = get_or_from_slice_get devices one x x at in
    let found = Any-from_list_any (λ place. pass_both (shares tier) (slice_get devices place)
    (Some x)) firsts (rw is at (have.covered one x (slice_get_within devices one x at)
    (ap is_open is ∙ opens))) in
    let place = get_or firsts found.0 0 in
    let same : place ≡ found.1 = sym (get_or_default_zero firsts found.0 found.1 found.2) ∙ found.3
    in
    let below : place < length devices = have.within found.0 0 found.2 in
    record {
      index = found.0;
      below = found.2;
      first = get_or devices place x;
      at = slice_get-get_or devices place x below;
      shared = sym (shared_read tier devices place x x below) ∙ ap (λ n. pass_both (shares tier)
          (slice_get devices n) (Some x)) same ∙ found.4;
    }

-- an open device at a place
pub open_there : (devices : List Device) (place : ℕ) (x : Device) → place < length devices →
    is_open (get_or devices place x) ≡ true → is_open_at devices place ≡ true
open_there devices place x lt opens = rw (slice_get-get_or devices place x lt) opens
