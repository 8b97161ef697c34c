-- One more digit.
use Rattle.std.proofs.Common.{add-one, pow-suc, ◌≡◌, ℕ, ◌+◌, ◌*◌, ◌-◌, ◌^◌, ◌<◌, ◌≤◌, true, List}
use Rattle.std.proofs.Common.{[], ◌∷◌, ◌++◌, length, take, get_or, refl, ap, ◌∙◌, arith}
use Rattle.std.proofs.lemmas.List.{take_more}
use Rattle.std.proofs.lemmas.Bool.Decides.{nat_tests}
use Rattle.std.specs.Str.Parse.{digits_value, digits_value_after}
use Rattle.std.specs.Char.{is_ascii_digit, digit_value}

after_push : (n : ℕ) (xs : List ℕ) (c : ℕ) → digits_value_after 10 n (xs ++ c ∷
    []) ≡ digits_value_after 10 n xs * 10 + digit_value c
after_push n [] c = refl
after_push n (x ∷ xs) c = after_push (n * 10 + digit_value x) xs c

pub value_more : (xs : List ℕ) (i : ℕ) → i < length xs → digits_value 10 (take (i + 1) xs) ≡
    digits_value 10 (take i xs) * 10 + digit_value (get_or xs i 0)
value_more xs i lt = ap (digits_value 10) (take_more xs i 0 lt) ∙ after_push 0 (take i xs)
    (get_or xs i 0)

pub digit_is : (c : ℕ) → is_ascii_digit c ≡ true → digit_value c ≡ c - 48
digit_is c e = grind (arith, nat_tests)

pub power_more : (v d i : ℕ) → v < 10 ^ i → d ≤ 9 → v * 10 + d < 10 ^ (i + 1)
power_more v d i h k = rw (add-one, pow-suc) (omega arith)

pub digit_small : (c : ℕ) → is_ascii_digit c ≡ true → c - 48 ≤ 9
digit_small c e = grind (arith, nat_tests)
