-- The digits from a place of a text on, and the number that they are.
use Rattle.std.proofs.Common.{◌≡◌, ℕ, zero, suc, ◌+◌, ◌*◌, ◌-◌, ◌^◌, ◌<◌, ◌≤◌, List, ◌∷◌, ◌++◌}
use Rattle.std.proofs.Common.{length, get_or, take, drop, decimal, refl, sym, ap, ap₂, ◌∙◌, ⊎_elim}
use Rattle.std.proofs.Common.{arith}
use Rattle.ring_words.specs.Limits.{greatest_short}
use Rattle.std.specs.Char.{digit_value}
use Rattle.std.specs.Int.{IsInRange}
use Rattle.std.specs.Str.Parse.{AllDigits, digits_value}
use Rattle.std.proofs.Math.Nat.{pow-le-pow_right}
use Rattle.std.proofs.lemmas.Bool.{cases_lt}
use Rattle.std.proofs.lemmas.Fmt.{decimal_nonempty, decimal-digits_value, digits_decimal}
use Rattle.std.proofs.lemmas.Fmt.{decimal_digit, digits_value-decimal, first_decimal}
use Rattle.std.proofs.lemmas.Fmt.{length-decimal-le}
use Rattle.std.proofs.lemmas.Int.Digits.{digits_more, digits_value-lt, digits_value_more}
use Rattle.std.proofs.lemmas.List.{drop-drop, drop_more, get_or-drop, get_or-take, get_or_append_left}
use Rattle.std.proofs.lemmas.List.{get_or_at, length-append, length-drop, length-take-le, take_at}
use Rattle.std.proofs.lemmas.List.{take-append-drop}
use Rattle.std.proofs.lemmas.Str.{digit_value_digit}
use Rattle.std.proofs.lemmas.Str.Parse.{IsNumeralModel, numerals_by_value, tells_digits, digit_at}
use Rattle.ring_text.specs.Inner.Reading.{AreDigitsAt, AreShort, IsNumberAt}

by_digits : IsNumeralModel (AllDigits 10) (digits_value 10)
by_digits = numerals_by_value _ tells_digits

-- ---- digit after digit

pub no_digits : (text : List ℕ) (from : ℕ) → from ≤ length text → AreDigitsAt text from from 0
no_digits text from le =
    let none : from - from ≡ 0 = omega arith in
    record {
      after = omega arith;
      within = le;
      few = omega arith;
      digits = rw none tt;
      value = rw none refl;
    }

-- so few digits are a small number
pub small_digits : (text : List ℕ) (from place number : ℕ) → AreDigitsAt text from place number →
    place < from + 5 → number < 10000
small_digits text from place number are lt =
    let width : ℕ = place - from in
    let long : length (take width (drop from text)) ≡ width = length-take-le width (drop from text)
    (omega (arith, length-drop from text, are.within)) in
    let few : width ≤ 4 = omega (arith, are.after) in
    let power : 10 ^ width ≤ 10 ^ 4 = pow-le-pow_right (omega arith) few in
    let below : digits_value 10 (take width (drop from text)) < 10 ^ width = rw long at
    (digits_value-lt 10 (take width (drop from text)) are.digits) in
    omega (arith, below, power, are.value)

pub digit_more : (text : List ℕ) (from place number : ℕ) → AreDigitsAt text from place number →
    place < length text → place < from + 5 → IsInRange 48 57 (get_or text place 0) →
    AreDigitsAt text from (place + 1) (number * 10 + (get_or text place 0 - 48))
digit_more text from place number are lt few digit =
    let rest : List ℕ = drop from text in
    let width : ℕ = place - from in
    let inside : width < length rest = omega (arith, length-drop from text, are.after) in
    let back : from + width ≡ place = omega (arith, are.after) in
    let wider : place + 1 - from ≡ width + 1 = omega (arith, are.after) in
    let same : get_or rest width 0 ≡ get_or text place 0 = get_or-drop from text width 0 ∙ ap
    (λ (k : ℕ). get_or text k 0) back in
    let value : digit_value (get_or text place 0) + 48 ≡ get_or text place 0 =
    digit_value_digit (get_or text place 0) digit in
    let small : digit_value (get_or rest width 0) < 10 = rw same (omega (arith, value, digit.1)) in
    let more = rw same at (digits_value_more 10 rest width inside) in
    record {
      after = omega (arith, are.after);
      within = omega arith;
      few = omega arith;
      digits = rw wider (digits_more 10 rest width inside are.digits small);
      value = rw wider (omega (arith, more, are.value, value));
    }

-- ---- a number and its separator

one_zero : (n : ℕ) → n ≤ greatest_short → get_or (decimal n) 0 0 ≡ 48 → length (decimal n) ≡ 1
one_zero zero le e = let low : 0 < 10 = omega arith in rw (decimal_digit 0 low)
one_zero (suc n) le e = let above : 48 < get_or (decimal (suc n)) 0 0 =
    first_decimal (suc n) (omega arith) (omega arith) in absurd (omega arith)

-- Digits that stop where a text has a number and a separator are that number's.
record IsThere (text : List ℕ) (from end number separator n : ℕ) : Type 0 where
  inside : end < length text
  byte : get_or text end 0 ≡ separator
  short : AreShort text from end number

there : (text rest : List ℕ) (from end number separator n : ℕ) →
    AreDigitsAt text from end number → n ≤ greatest_short →
    drop from text ≡ decimal n ++ separator ∷ rest → end ≡ from + length (decimal n) →
    IsThere text from end number separator n
there text rest from end number separator n are le e here =
    let word : List ℕ = decimal n in
    let width : ℕ = end - from in
    let size : width ≡ length word = omega arith in
    let some = decimal_nonempty n (omega arith) in
    let long : length text - from ≡ length word + suc (length rest) = sym (length-drop from text) ∙
    ap length e ∙ length-append word (separator ∷ rest) in
    let back : from + length word ≡ end = omega arith in
    let byte : get_or text end 0 ≡ separator = ap (λ (k : ℕ). get_or text k 0) (sym back) ∙ sym
    (get_or-drop from text (length word) 0) ∙ ap (λ (t : List ℕ). get_or t (length word) 0) e ∙
    get_or_at word separator rest 0 (length word) refl in
    let taken : take width (drop from text) ≡ word = ap₂ (λ (k : ℕ) (t : List ℕ). take k t) size e ∙
    take_at word (separator ∷ rest) (length word) refl in
    let value : number ≡ n = are.value ∙ ap (digits_value 10) taken ∙ digits_value-decimal by_digits
    n (omega arith) in
    let start : from + 0 ≡ from = omega arith in
    let first : get_or text from 0 ≡ get_or word 0 0 = ap (λ (k : ℕ). get_or text k 0) (sym start) ∙
    sym (get_or-drop from text 0 0) ∙ ap (λ (t : List ℕ). get_or t 0 0) e ∙ get_or_append_left word
    (separator ∷ rest) 0 0 some in
    record {
      inside = omega (arith, long);
      byte = byte;
      short = record {
        some = omega arith;
        first = λ zero_first. let one = one_zero n le (sym first ∙ zero_first) in omega (arith, one);
        below = omega (arith, value);
      };
    }

-- where a number and its separator stand, digits end with the number
digits_end : (text rest : List ℕ) (from end number separator n : ℕ) →
    AreDigitsAt text from end number → (end < length text → end < from + 5 →
    IsInRange 48 57 (get_or text end 0) → ⊥) → separator < 48 → n ≤ greatest_short →
    drop from text ≡ decimal n ++ separator ∷ rest → end ≡ from + length (decimal n)
digits_end text rest from end number separator n are stop low le e =
    let word : List ℕ = decimal n in
    let width : ℕ = end - from in
    let small : n < 2 ^ 64 = omega arith in
    let few : length word ≤ 5 = length-decimal-le 5 n (omega arith) (omega arith) small in
    let long : length text - from ≡ length word + suc (length rest) = sym (length-drop from text) ∙
    ap length e ∙ length-append word (separator ∷ rest) in
    let digits : AllDigits 10 word = digits_decimal by_digits n small in
    ⊎_elim
    (λ less.
    let back : from + width ≡ end = omega (arith, are.after) in
    let same : get_or text end 0 ≡ get_or word width 0 = ap (λ (k : ℕ). get_or text k 0) (sym
    back) ∙ sym (get_or-drop from text width 0) ∙ ap (λ (t : List ℕ). get_or t width 0) e ∙
    get_or_append_left word (separator ∷ rest) 0 width less in
    absurd (stop (omega (arith, long, less, are.after)) (omega (arith, few, less, are.after))
    (rw same (digit_at word width digits less))))
    (λ ge. ⊎_elim
    (λ more.
    let inside : length word < length (take width (drop from text)) =
    rw (length-take-le width (drop from text) (omega (arith, length-drop from text, are.within)))
    more in
    let digit = digit_at (take width (drop from text)) (length word) are.digits inside in
    let same : get_or (take width (drop from text)) (length word) 0 ≡ separator =
    get_or-take width (drop from text) (length word) 0 more ∙ ap
    (λ (t : List ℕ). get_or t (length word) 0) e ∙ get_or_at word separator rest 0 (length word)
    refl in
    absurd (omega (arith, same, digit.0)))
    (λ equal. omega (arith, ge, equal, are.after)) (cases_lt (length word) width))
    (cases_lt width (length word))

pub number_there : (text rest : List ℕ) (from end number separator n : ℕ) →
    AreDigitsAt text from end number → (end < length text → end < from + 5 →
    IsInRange 48 57 (get_or text end 0) → ⊥) → separator < 48 → n ≤ greatest_short →
    drop from text ≡ decimal n ++ separator ∷ rest → ((end < length text) ×
    (get_or text end 0 ≡ separator)) × AreShort text from end number
number_there text rest from end number separator n are stop low le e =
    let is = there text rest from end number separator n are le e (digits_end text rest from end
    number separator n are stop low le e) in
    ((is.inside, is.byte), is.short)

pub number_found : (text : List ℕ) (from end number separator : ℕ) →
    AreDigitsAt text from end number → end < length text → get_or text end 0 ≡ separator →
    AreShort text from end number → IsNumberAt text from separator number (end + 1)
number_found text from end number separator are inside byte short =
    let rest : List ℕ = drop from text in
    let width : ℕ = end - from in
    let word : List ℕ = take width rest in
    let long : length word ≡ width = length-take-le width rest (omega (
      arith,
      length-drop from text,
    )) in
    let start : from + 0 ≡ from = omega arith in
    let first : get_or word 0 0 ≡ get_or text from 0 = get_or-take width rest 0 0 (omega (
      arith,
      short.some,
    )) ∙ get_or-drop from text 0 0 ∙ ap (λ (k : ℕ). get_or text k 0) start in
    let spelled : decimal number ≡ word = ap decimal are.value ∙ decimal-digits_value by_digits word
    are.digits (omega (arith, long, short.some)) (λ e. let one = short.first (sym first ∙ e) in
    omega (arith, one, long)) (omega (arith, are.value, short.below)) in
    let back : from + width ≡ end = omega (arith, are.after) in
    let after : drop width rest ≡ separator ∷ drop (end + 1) text = drop-drop width from text ∙ ap
    (λ (k : ℕ). drop k text) back ∙ drop_more text end 0 inside ∙ ap
    (λ (b : ℕ). b ∷ drop (end + 1) text) byte in
    record {
      is = sym (take-append-drop width rest) ∙ ap₂ (λ (x y : List ℕ). x ++ y) (sym spelled) after;
      below = short.below;
      within = omega arith;
    }
