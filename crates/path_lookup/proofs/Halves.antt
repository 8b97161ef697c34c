-- A partition of a raised ring is a half of one of the old.
use Rattle.std.proofs.Common.{◌≡◌, ℕ, suc, ◌+◌, ◌-◌, ◌*◌, ◌/◌, ◌%◌, ◌^◌, ◌<◌, ◌≤◌, ◌⊎◌, List, sym}
use Rattle.std.proofs.Common.{ap, subst, ◌∙◌, ⊎_elim, inl, inr, arith}
use Rattle.std.proofs.Math.Nat.{div-div-eq-div-mul, div-lt_iff_lt-mul, pow-suc}
use Rattle.std.proofs.lemmas.Bool.{cases_eq}
use Rattle.std.proofs.lemmas.Nat.{pow-add, pow_pos}
use Rattle.ring_model.specs.Ring.{RingRecord, seat}
use Rattle.ring_model.specs.Raise.{IsRaised}
use Rattle.path_lookup.specs.Nodes.{AreSeated}

-- a shift by one less is half of it
pub shift_less : (x power : ℕ) → power < 32 → x / 2 ^ (32 - (power + 1)) / 2 ≡ x / 2 ^ (32 - power)
shift_less x power low =
    let one_more : suc (32 - (power + 1)) ≡ 32 - power = omega arith in
    div-div-eq-div-mul x (2 ^ (32 - (power + 1))) 2 ∙ ap (λ (n : ℕ). x / n)
    (sym (pow-suc 2 (32 - (power + 1))) ∙ ap (λ (n : ℕ). 2 ^ n) one_more)

-- so many of the greatest bits are a number of so many bits
pub greatest_bits : (x power : ℕ) → x < 2 ^ 32 → power ≤ 32 → x / 2 ^ (32 - power) < 2 ^ power
greatest_bits x power fits low =
    let all : power + (32 - power) ≡ 32 = omega arith in
    (div-lt_iff_lt-mul (pow_pos (32 - power))).1 (subst (λ (n : ℕ). x < n)
    (sym (sym (pow-add 2 power (32 - power)) ∙ ap (λ (n : ℕ). 2 ^ n) all)) fits)

half_seat : (old new : RingRecord) → IsRaised old new → (half replica : ℕ) →
    replica < old.replicas → seat new half replica ≡ seat old (half / 2) replica
half_seat old new raised half replica lt =
    let both = raised.seats (half / 2) replica lt in
    let even : (half ≡ 2 * (half / 2)) ⊎ (half ≡ 2 * (half / 2) + 1) =
    ⊎_elim (λ e. inl (omega arith)) (λ ne. inr (omega arith)) (cases_eq (half % 2) 0) in
    ⊎_elim (λ e. ap (λ (q : ℕ). seat new q replica) e ∙ both.0)
    (λ e. ap (λ (q : ℕ). seat new q replica) e ∙ both.1) even

same_replicas : (old new : RingRecord) → IsRaised old new → new.replicas ≡ old.replicas
same_replicas old new raised = ap (λ (r : RingRecord). r.replicas) raised.rest

pub half_to_whole : (old new : RingRecord) (half : ℕ) (ids : List ℕ) → IsRaised old new →
    AreSeated new half ids → AreSeated old (half / 2) ids
half_to_whole old new half ids raised seated = record {
  count = seated.count ∙ same_replicas old new raised;
  each = λ replica lt. seated.each replica (subst (λ (n : ℕ). replica < n)
      (sym (same_replicas old new raised)) lt) ∙ half_seat old new raised half replica lt;
}

pub whole_to_half : (old new : RingRecord) (half : ℕ) (ids : List ℕ) → IsRaised old new →
    AreSeated old (half / 2) ids → AreSeated new half ids
whole_to_half old new half ids raised seated = record {
  count = seated.count ∙ sym (same_replicas old new raised);
  each = λ replica lt. let old_lt : replica < old.replicas = subst (λ (n : ℕ). replica < n)
      (same_replicas old new raised) lt in seated.each replica old_lt ∙ sym
      (half_seat old new raised half replica old_lt);
}

-- of any number, the greatest bits are in the raised ring a half of what they are in the old
pub of_halves : (old new : RingRecord) (x : ℕ) → IsRaised old new → old.power < 32 →
    x / 2 ^ (32 - new.power) / 2 ≡ x / 2 ^ (32 - old.power)
of_halves old new x raised low = ap (λ (n : ℕ). x / 2 ^ (32 - n) / 2) raised.power ∙ shift_less x
    old.power low
