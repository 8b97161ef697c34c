use Rattle.std.proofs.Common.{◌≡◌, ◌<◌, ◌^◌, ◌%◌, ◌/◌, ◌*◌, ◌+◌, ◌++◌, ◌∷◌, ℕ, List, decimal, ap}
use Rattle.std.proofs.Common.{◌∙◌, sym, arith, rules}
use Rattle.ring_words.specs.Texts.{address_text, address_limit}
use Rattle.ring_words.proofs.Decimals.{First, Second, Third, first_octet, second_octet, third_octet}
use Rattle.ring_words.proofs.Decimals.{after_second_point, same_number}
use Rattle.ring_words.proofs.address.Address.parse.Goals as goal

-- The text is that of the address with these octets.
spelt : (t more less last : List ℕ) (k l m n p q r : ℕ) → (p ≡ k) × (q ≡ l) × (r ≡ m) →
    (k < 256) × (t ≡ decimal k ++ 46 ∷ more) → (l < 256) × (more ≡ decimal l ++ 46 ∷ less) →
    (m < 256) × (less ≡ decimal m ++ 46 ∷ last) → n < 256 → last ≡ decimal n →
    (((p * 256 + q) * 256 + r) * 256 + n < address_limit) × (t ≡ address_text (((p * 256 + q) * 256
    + r) * 256 + n))
spelt t more less last k l m n p q r same first second third fourth end =
    let one : (((p * 256 + q) * 256 + r) * 256 + n) / 16777216 ≡ k = omega arith in
    let two : (((p * 256 + q) * 256 + r) * 256 + n) / 65536 % 256 ≡ l = omega arith in
    let three : (((p * 256 + q) * 256 + r) * 256 + n) / 256 % 256 ≡ m = omega arith in
    let four : (((p * 256 + q) * 256 + r) * 256 + n) % 256 ≡ n = omega arith in (
      omega arith,
      rw (one, two, three, four) (first.1 ∙ ap (λ (x : List ℕ). decimal k ++ 46 ∷ x) (second.1 ∙
          ap (λ (x : List ℕ). decimal l ++ 46 ∷ x) (third.1 ∙ ap (λ (x : List ℕ). decimal m ++ 46
          ∷ x) end))),
    )

-- what was read of a text's front: one octet and a point, two of them, three
one_octet : (t rest : List ℕ) (n : ℕ) → (n < 256) × (t ≡ decimal n ++ 46 ∷ rest) → First t rest n
one_octet t rest n found = record { below = found.0; text = found.1 }

two_octets : (t between rest : List ℕ) (m n : ℕ) → (m < 256) × (t ≡ decimal m ++ 46 ∷ between) →
    (n < 256) × (between ≡ decimal n ++ 46 ∷ rest) → Second t rest m n
two_octets t between rest m n one two = record {
  between = between;
  front = one_octet t between m one;
  last = one_octet between rest n two;
}

three_octets : (t more less rest : List ℕ) (l m n : ℕ) → (l < 256) × (t ≡ decimal l ++ 46 ∷ more) →
    (m < 256) × (more ≡ decimal m ++ 46 ∷ less) → (n < 256) × (less ≡ decimal n ++ 46 ∷ rest) →
    Third t rest l m n
three_octets t more less rest l m n one two three = record {
  between = less;
  front = two_octets t more less l m one two;
  last = one_octet less rest n three;
}

pub returns-in_err-second-clause-none : goal.returns-in_err-second-clause-none
returns-in_err-second-clause-none c = rw c.from_residual-in_err-second.ensures (λ a lt e.
    let f = one_octet _ _ _ c.in_ok-first.ensures.found in
    let low : a / 65536 % 256 < 256 = omega arith in
    c.in_err-second.ensures.none (a / 65536 % 256) (after_second_point a) low
    (first_octet _ _ _ a f lt e).1)

pub returns-in_err-third-clause-none : goal.returns-in_err-third-clause-none
returns-in_err-third-clause-none c = rw c.from_residual-in_err-third.ensures (λ a lt e.
    let s = two_octets _ _ _ _ _ c.in_ok-first.ensures.found c.in_ok-second.ensures.found in
    let low : a / 256 % 256 < 256 = omega arith in
    c.in_err-third.ensures.none (a / 256 % 256) _ low (second_octet _ _ _ _ a s lt e).2)

pub returns-in_err-fourth-clause-none : goal.returns-in_err-fourth-clause-none
returns-in_err-fourth-clause-none c = rw c.from_residual-in_err-fourth.ensures (λ a lt e.
    let t = three_octets _ _ _ _ _ _ _ c.in_ok-first.ensures.found c.in_ok-second.ensures.found
    c.in_ok-third.ensures.found in
    let low : a % 256 < 2 ^ 32 = omega arith in
    c.in_err-fourth.ensures.none (a % 256) low (third_octet _ _ _ _ _ a t lt e).3)

pub returns-then-fourth-ge256-clause-none : goal.returns-then-fourth-ge256-clause-none
returns-then-fourth-ge256-clause-none c = λ a lt e.
    let t = three_octets _ _ _ _ _ _ _ c.in_ok-first.ensures.found c.in_ok-second.ensures.found
    c.in_ok-third.ensures.found in
    let low : a % 256 < 2 ^ 32 = omega arith in
    let same = same_number c.in_ok-fourth.fourth (a % 256) c.in_ok-fourth.ensures.found.0 low
    (sym c.in_ok-fourth.ensures.found.1 ∙ (third_octet _ _ _ _ _ a t lt e).3) in
    omega arith

pub invariant_of-result : goal.invariant_of-result
invariant_of-result c = search rules

pub overflow_add-result-2 : goal.overflow_add-result-2
overflow_add-result-2 c = search rules

pub returns-clause-found : goal.returns-clause-found
returns-clause-found c =
    spelt c.args.text.now c.in_ok-first.rest.now c.in_ok-second.rest.now c.in_ok-third.rest.now
    c.in_ok-first.first c.in_ok-second.second c.in_ok-third.third c.in_ok-fourth.fourth
    c.from.result c.from-2.result c.from-3.result
    (c.from.ensures, c.from-2.ensures, c.from-3.ensures) c.in_ok-first.ensures.found
    c.in_ok-second.ensures.found c.in_ok-third.ensures.found c.if-fourth-ge256.false
    c.in_ok-fourth.ensures.found.1
