-- Tiers by the numbers that tell them apart.
use Rattle.std.proofs.Common.{◌≡◌, ◌==◌, ◌&&◌, ℕ, ◌<◌, ◌≤◌, Bool, true, List, length, get_or}
use Rattle.std.proofs.Common.{Some, sym, ap, subst, ◌∙◌, ⊎_elim, arith}
use Rattle.std.specs.Prelude.{slice_get}
use Rattle.std.proofs.lemmas.Bool.{and_parts, cases_Bool, cases_lt, eq-eqb, eqb-true, ne_eqb}
use Rattle.std.proofs.lemmas.Option.{same_Some, slice_get-get_or}
use Rattle.std.proofs.lemmas.Option.{slice_get_within}
use Rattle.ring_words.specs.declared.device.Device.{Device}
use Rattle.ring_share.specs.Codes.{IsCode}
use Rattle.ring_share.specs.Crowd.{in_zone}
use Rattle.ring_share.specs.Tiers.{shares}
use Rattle.ring_share.specs.declared.tiers.Tier.{Tier}
use Rattle.ring_share.specs.declared.tiers.Tier.TheVariants.{Region, Zone, Server}
use Rattle.ring_share.proofs.TierLists.{shares_self}

-- devices of one zone are in it with the same others
zone_same : (x y z : Device) → in_zone x y ≡ true → in_zone x z ≡ in_zone y z
zone_same x y z h =
    let parts = and_parts (x.row.region == y.row.region) (x.row.zone == y.row.zone) h in
    ap (λ (r : ℕ). (r == z.row.region) && (x.row.zone == z.row.zone))
    (eqb-true x.row.region y.row.region parts.0)
    ∙ ap (λ (r : ℕ). (y.row.region == z.row.region) && (r == z.row.zone))
    (eqb-true x.row.zone y.row.zone parts.1)

-- devices that share a tier share it with the same others
pub shares_same : (tier : Tier) (x y z : Device) → shares tier x y ≡ true → shares tier x z ≡ shares
    tier y z
shares_same Region x y z h = ap (λ (r : ℕ). r == z.row.region) (eqb-true x.row.region y.row.region
    h)
shares_same Zone x y z h = zone_same x y z h
shares_same Server x y z h =
    let parts = and_parts (in_zone x y) (x.row.address == y.row.address) h in
    ap (λ (b : Bool). b && (x.row.address == z.row.address)) (zone_same x y z parts.0)
    ∙ ap (λ (r : ℕ). in_zone y z && (r == z.row.address))
    (eqb-true x.row.address y.row.address parts.1)

-- devices share a tier exactly where they have one number
pub code_told : (tier : Tier) (devices : List Device) (one other a b : ℕ) (x y : Device) →
    slice_get devices one ≡ Some x → slice_get devices other ≡ Some y → IsCode tier devices one a →
    IsCode tier devices other b → shares tier x y ≡ (a == b)
code_told tier devices one other a b x y at there mine yours =
    let below : one < length devices = slice_get_within devices one x at in
    let beside : other < length devices = slice_get_within devices other y there in
    let within = mine.within in
    let most = yours.within in
    let p : Device = get_or devices a x in
    let q : Device = get_or devices b y in
    let p_at = slice_get-get_or devices a x (omega (arith, below, within)) in
    let q_at = slice_get-get_or devices b y (omega (arith, beside, most)) in
    let px : shares tier p x ≡ true = mine.shared p x p_at at in
    let qy : shares tier q y ≡ true = yours.shared q y q_at there in
    ⊎_elim
    (λ yes.
    let py : shares tier p y ≡ true = shares_same tier p x y px ∙ yes in
    let yx : shares tier y x ≡ true = sym (shares_same tier x y x yes) ∙ shares_self tier x in
    let qx : shares tier q x ≡ true = shares_same tier q y x qy ∙ yx in
    let not_below : b ≤ a = ⊎_elim (λ lt. absurd (let no = yours.none_before a p y lt p_at there in
    cc (no, py))) (λ ge. ge) (cases_lt a b) in
    let not_above : a ≤ b = ⊎_elim (λ lt. absurd (let no = mine.none_before b q x lt q_at at in
    cc (no, qx))) (λ ge. ge) (cases_lt b a) in
    let same : a ≡ b = omega (arith, not_below, not_above) in
    yes ∙ sym (eq-eqb a b same))
    (λ no.
    no ∙ sym (ne_eqb a b (λ same.
    let q_there : slice_get devices a ≡ Some q = ap (slice_get devices) same ∙ q_at in
    let pq : p ≡ q = same_Some p q (sym p_at ∙ q_there) in
    let py : shares tier p y ≡ true = subst (λ d. shares tier d y ≡ true) (sym pq) qy in
    let xy : shares tier x y ≡ true = sym (shares_same tier p x y px) ∙ py in
    cc (no, xy))))
    (cases_Bool (shares tier x y))
