-- The bytes of words, and the parts of a line.
use Rattle.std.proofs.Common.{lit<, ◌≡◌, ℕ, ◌+◌, ◌/◌, ◌%◌, ◌^◌, ◌<◌, ◌≤◌, Bool, true, false, List}
use Rattle.std.proofs.Common.{[], ◌∷◌, ◌++◌, length, get_or, decimal, refl, ap, ◌∙◌, ⊎_elim, arith}
use Rattle.std.specs.Prelude.{All, IsTrue, ◌==◌, ◌&&◌, nat_lt, nat_le, codes}
use Rattle.std.specs.Int.{IsInRange}
use Rattle.std.specs.List.{list_all, join_with_byte, slice_split}
use Rattle.std.proofs.lemmas.Bool.{and_parts, or_cases, leb-true, ltb-true, eqb-true, ne_eqb}
use Rattle.std.proofs.lemmas.Bool.{eq-eqb}
use Rattle.std.proofs.lemmas.Fmt.{digits_decimal}
use Rattle.std.proofs.lemmas.Str.Parse.{IsNumeralModel, numerals_by_value, tells_by_index}
use Rattle.std.specs.Str.Parse.{digits_value}
use Rattle.std.proofs.lemmas.List.Elements.{All-nil, All-cons, All-head, All-tail, All-append}
use Rattle.std.proofs.lemmas.List.Elements.{All-weaker, All-from_get_or}
use Rattle.std.proofs.lemmas.List.Splits.{slice_split_none, slice_split_at}
use Rattle.ring_words.specs.Texts.{is_lower, is_upper, is_digit, is_label, is_label_byte}
use Rattle.ring_words.specs.Texts.{is_device_name, is_device_name_byte, address_text, address_limit}
use Rattle.ring_words.specs.Texts.{hundredths_text, greatest_weight, two_digits}
use Rattle.ring_text.specs.Spelling.{state_word}

-- A byte of a word is neither a space nor a line feed, and is ASCII.
abbrev pub IsGraphic : ℕ → Type 0
IsGraphic b = (32 < b) × (b < 128)

abbrev pub AreGraphic : List ℕ → Type 0
AreGraphic word = All IsGraphic word

-- a test that shows it where bytes are written out
abbrev pub is_graphic : ℕ → Bool
is_graphic b = nat_lt 32 b && nat_lt b 128

pub graphic_from : (word : List ℕ) → list_all is_graphic word ≡ true → AreGraphic word
graphic_from [] h = All-nil IsGraphic
graphic_from (b ∷ word) h =
    let p = and_parts _ _ h in
    let q = and_parts _ _ p.0 in
    All-cons IsGraphic b word (ltb-true _ _ q.0, ltb-true _ _ q.1) (graphic_from word p.1)

by_index : IsNumeralModel (λ ds. (i : ℕ) → i < length ds → IsInRange 48 57 (get_or ds i 0))
    (digits_value 10)
by_index = numerals_by_value _ tells_by_index

pub graphic-decimal : (n : ℕ) → n < 2 ^ 64 → AreGraphic (decimal n)
graphic-decimal n h = All-from_get_or IsGraphic (decimal n) 0 (λ i lt. let d =
    digits_decimal by_index n h i lt in (omega (arith, d.0), omega (arith, d.1)))

point : (front back : List ℕ) → AreGraphic front → AreGraphic back → AreGraphic (front ++ 46 ∷ back)
point front back f b = All-append IsGraphic front (46 ∷ back) f (All-cons IsGraphic 46 back
    (lit< tt, lit< tt) b)

pub graphic-address : (a : ℕ) → a < address_limit → AreGraphic (address_text a)
graphic-address a lt =
    let first : a / 16777216 < 2 ^ 64 = omega arith in
    let second : a / 65536 % 256 < 2 ^ 64 = omega arith in
    let third : a / 256 % 256 < 2 ^ 64 = omega arith in
    let fourth : a % 256 < 2 ^ 64 = omega arith in
    point (decimal (a / 16777216)) (decimal (a / 65536 % 256) ++ 46 ∷ (decimal (a / 256 % 256) ++
    46 ∷ decimal (a % 256))) (graphic-decimal _ first)
    (point (decimal (a / 65536 % 256)) (decimal (a / 256 % 256) ++ 46 ∷ decimal (a % 256))
    (graphic-decimal _ second)
    (point (decimal (a / 256 % 256)) (decimal (a % 256)) (graphic-decimal _ third)
    (graphic-decimal _ fourth)))

graphic-two : (n : ℕ) → n < 100 → AreGraphic (two_digits n)
graphic-two n lt =
    let tens : IsGraphic (48 + n / 10) = (omega arith, omega arith) in
    let ones : IsGraphic (48 + n % 10) = (omega arith, omega arith) in
    All-cons IsGraphic (48 + n / 10) ((48 + n % 10) ∷ []) tens (All-cons IsGraphic (48 + n % 10) []
    ones (All-nil IsGraphic))

pub graphic-weight : (w : ℕ) → w ≤ greatest_weight → AreGraphic (hundredths_text w)
graphic-weight w le =
    let whole : w / 100 < 2 ^ 64 = omega arith in
    let part : w % 100 < 100 = omega arith in
    point (decimal (w / 100)) (two_digits (w % 100)) (graphic-decimal _ whole)
    (graphic-two (w % 100) part)

pub graphic-state : (removed : Bool) → AreGraphic (state_word removed)
graphic-state true = graphic_from (codes "removed") refl
graphic-state false = graphic_from (codes "present") refl

between : (low high b : ℕ) → 32 < low → high < 128 → (nat_le low b && nat_le b high) ≡ true →
    IsGraphic b
between low high b above below h =
    let p = and_parts _ _ h in
    let l : low ≤ b = leb-true low b p.0 in
    let u : b ≤ high = leb-true b high p.1 in
    (omega arith, omega arith)

lower_graphic : (b : ℕ) → is_lower b ≡ true → IsGraphic b
lower_graphic b h = between 97 122 b (lit< tt) (lit< tt) h

upper_graphic : (b : ℕ) → is_upper b ≡ true → IsGraphic b
upper_graphic b h = between 65 90 b (lit< tt) (lit< tt) h

digit_graphic : (b : ℕ) → is_digit b ≡ true → IsGraphic b
digit_graphic b h = between 48 57 b (lit< tt) (lit< tt) h

is_graphic_at : (b n : ℕ) → 32 < n → n < 128 → (b == n) ≡ true → IsGraphic b
is_graphic_at b n low high h = let e = eqb-true _ _ h in (omega (arith, e), omega (arith, e))

label_byte : (b : ℕ) → is_label_byte b ≡ true → IsGraphic b
label_byte b h = ⊎_elim
    (λ first. ⊎_elim (lower_graphic b) (digit_graphic b) (or_cases _ _ first))
    (is_graphic_at b 45 (lit< tt) (lit< tt)) (or_cases _ _ h)

device_byte : (b : ℕ) → is_device_name_byte b ≡ true → IsGraphic b
device_byte b h = ⊎_elim
    (λ k. ⊎_elim (λ j. ⊎_elim (λ i. ⊎_elim (upper_graphic b) (lower_graphic b) (or_cases _ _ i))
    (digit_graphic b) (or_cases _ _ j)) (is_graphic_at b 95 (lit< tt) (lit< tt))
    (or_cases _ _ k))
    (is_graphic_at b 45 (lit< tt) (lit< tt)) (or_cases _ _ h)

each_graphic : (p : ℕ → Bool) (word : List ℕ) → ((b : ℕ) → p b ≡ true → IsGraphic b) →
    list_all p word ≡ true → AreGraphic word
each_graphic p [] each h = All-nil IsGraphic
each_graphic p (b ∷ word) each h = let q = and_parts _ _ h in All-cons IsGraphic b word (each b q.0)
    (each_graphic p word each q.1)

pub graphic-label : (name : List ℕ) → IsTrue (is_label name) → AreGraphic name
graphic-label name h = each_graphic is_label_byte name label_byte (and_parts _ _ h).1

pub graphic-device_name : (name : List ℕ) → IsTrue (is_device_name name) → AreGraphic name
graphic-device_name name h = each_graphic is_device_name_byte name device_byte (and_parts _ _ h).1

-- ---- the parts of a line

-- no part has the byte at which they are joined
abbrev pub Lacks : ℕ → List ℕ → Type 0
Lacks c part = All (λ b. (b == c) ≡ false) part

pub lacks_of_graphic : (c : ℕ) (word : List ℕ) → c ≤ 32 → AreGraphic word → Lacks c word
lacks_of_graphic c word low h = All-weaker IsGraphic (λ b. (b == c) ≡ false)
    (λ b g. ne_eqb b c (λ e. omega (arith, e, g.0))) word h

-- parts that are joined are cut again
pub parts-joined : (c : ℕ) (part : List ℕ) (parts : List (List ℕ)) → All (Lacks c) (part ∷ parts) →
    slice_split (λ b. b == c) (join_with_byte c (part ∷ parts)) ≡ part ∷ parts
parts-joined c part [] h = slice_split_none (λ b. b == c) part (All-head (Lacks c) part [] h)
parts-joined c part (next ∷ parts) h =
    slice_split_at (λ b. b == c) part c (join_with_byte c (next ∷ parts)) (All-head (Lacks c) part
    (next ∷ parts) h) (eq-eqb c c refl)
    ∙ ap (λ (x : List (List ℕ)). part ∷ x) (parts-joined c next parts (All-tail (Lacks c) part
    (next ∷ parts) h))
