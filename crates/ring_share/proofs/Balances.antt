-- Balances.
use Rattle.std.proofs.Common.{◌≡◌, ℕ, ◌+◌, ◌*◌, ◌/◌, ◌^◌, ◌<◌, ◌≤◌, List, [], ◌∷◌, ◌++◌, length}
use Rattle.ring_words.specs.Limits.{most_partitions, most_replicas}
use Rattle.ring_words.specs.Limits.{greatest_power}
use Rattle.std.proofs.Common.{map, min, max, fold, take, get_or, ◌==◌, sym, ap, ◌∙◌, ⊎_elim, arith}
use Rattle.std.proofs.Math.Nat.{div-mul-le_self, mul-le-mul_right}
use Rattle.std.proofs.Math.Pow.{pow_mono}
use Rattle.std.proofs.lemmas.Nat.{le-div, mul-le}
use Rattle.std.proofs.lemmas.Bool.{cases_lt}
use Rattle.std.proofs.lemmas.List.{take_more, map-append}
use Rattle.std.proofs.lemmas.List.Sums.{fold_push, count_by-le-length}
use Rattle.ring_model.specs.Ring.{RingRecord, partition_count}
use Rattle.ring_model.specs.Valid.{IsValid}
use Rattle.ring_words.specs.declared.device.Device.{Device}
use Rattle.ring_share.specs.Want.{seat_count}
use Rattle.ring_share.specs.Room.{have}
use Rattle.ring_share.specs.Figures.{greatest_balance}

-- ten shares off or more is off the scale
pub beyond : (distance share : ℕ) → 0 < share → 10 ≤ distance / share →
    99999 ≡ min greatest_balance (10000 * distance / share)
beyond distance share some far =
    let le : 10 * share ≤ distance / share * share = mul-le-mul_right share far in
    let below = div-mul-le_self distance share in
    let many : 100000 ≤ 10000 * distance / share = le-div 100000 (10000 * distance) share some
    (omega (arith, le, below)) in
    omega (arith, many)

pub few_seats : (ring : RingRecord) → IsValid ring → seat_count ring ≤ 81920
few_seats ring valid =
    let low : partition_count ring ≤ 2 ^ greatest_power = pow_mono valid.power.1 in
    let le = mul-le (partition_count ring) ring.replicas most_partitions most_replicas (omega
    (arith, low))
    valid.replicas.1 in
    omega (arith, le)

pub have_few : (ring : RingRecord) (id : ℕ) → IsValid ring → have ring id ≤ 81920
have_few ring id valid =
    let le = count_by-le-length (λ seat. seat == id) ring.seats in
    let few = few_seats ring valid in
    ⊎_elim
    (λ some. let whole = valid.seats.whole some in omega (arith, le, few, whole))
    (λ none. omega (arith, le, none))
    (cases_lt 0 (length ring.seats))

pub product_some : (a b : ℕ) → 0 < a → 0 < b → 0 < a * b
product_some a b h k = let le = mul-le 1 1 a b h k in omega (arith, le)

-- the greatest so far
pub greatest_more : (f : Device → ℕ) (devices : List Device) (i : ℕ) (x : Device) (n : ℕ) →
    i < length devices → x ≡ get_or devices i x → n ≡ fold max 0 (map f (take i devices))
    → max n (f x) ≡ fold max 0 (map f (take (i + 1) devices))
greatest_more f devices i x n lt at is =
    let more : map f (take (i + 1) devices) ≡ map f (take i devices) ++ f x ∷ [] =
    ap (map f) (take_more devices i x lt) ∙ map-append f (take i devices) (get_or devices i x ∷
    []) ∙ ap (λ (d : Device). map f (take i devices) ++ f d ∷ []) (sym at) in
    ap (λ (m : ℕ). max m (f x)) is ∙ sym (ap (fold max 0) more ∙ fold_push max 0
    (map f (take i devices)) (f x))
