-- Numbers of a few digits.
use Rattle.std.proofs.Common.{◌≡◌, ℕ, ◌/◌, ◌%◌, ◌<◌, ◌≤◌, ◌+◌, ◌^◌, [], ◌∷◌, decimal, refl, arith}
use Rattle.std.proofs.lemmas.Fmt.{decimal_step, decimal_digit}

-- a number of two digits
pub two_digits : (n : ℕ) → 10 ≤ n → n < 100 → decimal n ≡ (48 + n / 10) ∷ (48 + n % 10) ∷ []
two_digits n some few =
    let fits : n < 2 ^ 64 = omega arith in
    let tens : n / 10 < 10 = omega arith in
    rw (decimal_step n some fits, decimal_digit (n / 10) tens) refl

-- a number of three digits
pub three_digits : (n : ℕ) → 100 ≤ n → n < 1000 → decimal n ≡ (48 + n / 10 / 10) ∷
    (48 + n / 10 % 10) ∷ (48 + n % 10) ∷ []
three_digits n some few =
    let long : 10 ≤ n = omega arith in
    let fits : n < 2 ^ 64 = omega arith in
    let least : 10 ≤ n / 10 = omega arith in
    let most : n / 10 < 100 = omega arith in
    rw (decimal_step n long fits, two_digits (n / 10) least most) refl

-- a number of one digit
pub one_digit : (n : ℕ) → n < 10 → decimal n ≡ (48 + n) ∷ []
one_digit = decimal_digit
