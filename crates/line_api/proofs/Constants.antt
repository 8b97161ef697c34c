-- The lines that are constants.
use Rattle.std.proofs.Common.{◌≡◌, ◌+◌, ◌*◌, ◌%◌, ◌<◌, ◌≤◌, ◌^◌, ℕ, [], ◌∷◌, codes, decimal}
use Rattle.std.proofs.Common.{refl, arith, lit<, lit≤}
use Rattle.std.proofs.lemmas.Nat.{div-mul-add, mod-mul-add}
use Rattle.std.proofs.lemmas.Fmt.{decimal_step, decimal_digit}
use Rattle.serde_json.proofs.OnLiterals.{serde_json_on_literals}
use Rattle.ring_messages.specs.declared.told.Told.TheVariants as told
use Rattle.line_api.specs.Lines.{answer_line}

-- a number of two digits
pub two_digits : (tens ones : ℕ) → 1 ≤ tens → tens < 10 → ones < 10 →
    decimal (tens * 10 + ones) ≡ (48 + tens) ∷ (48 + ones) ∷ []
two_digits tens ones some small less =
    let long : 10 ≤ tens * 10 + ones = omega (arith, some) in
    let fits : tens * 10 + ones < 2 ^ 64 = omega (arith, small, less) in
    let last : (tens * 10 + ones) % 10 ≡ ones = mod-mul-add tens 10 ones less in
    rw (
      decimal_step (tens * 10 + ones) long fits,
      div-mul-add tens 10 ones less,
      last,
      decimal_digit tens small,
    ) refl

-- a number of three digits
pub three_digits : (hundreds tens ones : ℕ) → 1 ≤ hundreds → hundreds < 10 → tens < 10 → ones < 10
    → decimal ((hundreds * 10 + tens) * 10 + ones) ≡ (48 + hundreds) ∷ (48 + tens) ∷ (48 + ones) ∷
    []
three_digits hundreds tens ones some small few less =
    let long : 10 ≤ (hundreds * 10 + tens) * 10 + ones = omega (arith, some) in
    let fits : (hundreds * 10 + tens) * 10 + ones < 2 ^ 64 = omega (arith, small, few, less) in
    let last : ((hundreds * 10 + tens) * 10 + ones) % 10 ≡ ones = mod-mul-add (hundreds * 10 + tens)
    10 ones less in
    rw (
      decimal_step ((hundreds * 10 + tens) * 10 + ones) long fits,
      div-mul-add (hundreds * 10 + tens) 10 ones less,
      last,
      two_digits hundreds tens some small
          few,
    ) refl

pub no_memory_line : codes "503 {\"fault\":\"NoMemory\",\"rule\":23}" ≡ answer_line told.NoMemory
unfolding serde_json_on_literals
no_memory_line = rw (
  three_digits 5 0 3 (lit≤ tt) (lit< tt) (lit< tt) (lit< tt),
  two_digits 2 3 (lit≤ tt) (lit< tt) (lit< tt),
) refl

pub unreadable_line : codes "400 {\"fault\":\"Unreadable\",\"rule\":20}" ≡ answer_line
    told.Unreadable
unfolding serde_json_on_literals
unreadable_line = rw (
  three_digits 4 0 0 (lit≤ tt) (lit< tt) (lit< tt) (lit< tt),
  two_digits 2 0 (lit≤ tt) (lit< tt) (lit< tt),
) refl
