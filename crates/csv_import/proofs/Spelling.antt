-- What a field spells is text.
use Rattle.std.proofs.Common.{◌≡◌, ℕ, ◌+◌, ◌/◌, ◌%◌, ◌^◌, ◌<◌, lit<, true, List, [], ◌∷◌, decimal}
use Rattle.ring_words.specs.Limits.{greatest_short}
use Rattle.std.proofs.Common.{sym, subst, arith}
use Rattle.std.specs.Prelude.{IsUtf8}
use Rattle.std.specs.Str.{IsAscii}
use Rattle.std.specs.List.{list_all}
use Rattle.std.proofs.lemmas.Str.{IsAscii-append, IsUtf8-from_ascii}
use Rattle.std.proofs.lemmas.Str.Ascii.{IsAscii-cons, IsAscii-nil}
use Rattle.std.proofs.lemmas.Fmt.{IsAscii-decimal}
use Rattle.std.proofs.lemmas.Bool.{and_parts}
use Rattle.std.proofs.lemmas.Bool.Decides.{nat_tests}
use Rattle.ring_words.specs.Texts.{is_device_name, address_text, address_limit, is_device_name_byte}
use Rattle.ring_words.specs.Texts.{hundredths_text, two_digits}
use Rattle.ring_words.specs.Spelling.{SpellsAddress, SpellsName, SpellsNumber, SpellsWeight}

pub number_is_text : (text : List ℕ) (least number : ℕ) →
    SpellsNumber text least greatest_short number →
    IsUtf8 text
number_is_text text least number spells =
    let small : number < 2 ^ 64 = omega (arith, spells.below) in
    subst (λ (t : List ℕ). IsUtf8 t) (sym spells.is) (IsUtf8-from_ascii (decimal number)
    (IsAscii-decimal number small))

pub address_is_text : (text : List ℕ) (address : ℕ) → SpellsAddress text address → IsUtf8 text
address_is_text text address spells =
    let below : address < address_limit = spells.valid in
    let a : address / 16777216 < 2 ^ 64 = omega arith in
    let b : address / 65536 % 256 < 2 ^ 64 = omega arith in
    let c : address / 256 % 256 < 2 ^ 64 = omega arith in
    let d : address % 256 < 2 ^ 64 = omega arith in
    let last = IsAscii-decimal (address % 256) d in
    let third = IsAscii-append _ _ (IsAscii-decimal (address / 256 % 256) c)
    (IsAscii-cons 46 _ (lit< tt) last) in
    let second = IsAscii-append _ _ (IsAscii-decimal (address / 65536 % 256) b)
    (IsAscii-cons 46 _ (lit< tt) third) in
    subst (λ (t : List ℕ). IsUtf8 t) (sym spells.is)
    (IsUtf8-from_ascii (address_text address)
    (IsAscii-append _ _ (IsAscii-decimal (address / 16777216) a) (IsAscii-cons 46 _ (lit< tt)
    second)))

pub weight_is_text : (text : List ℕ) (weight : ℕ) → SpellsWeight text weight → IsUtf8 text
weight_is_text text weight spells =
    let whole : weight / 100 < 2 ^ 64 = omega (arith, spells.valid) in
    let tens : 48 + weight % 100 / 10 < 128 = omega arith in
    let ones : 48 + weight % 100 % 10 < 128 = omega arith in
    let digits : IsAscii (two_digits (weight % 100)) = IsAscii-cons (48 + weight % 100 / 10)
    ((48 + weight % 100 % 10) ∷ []) tens (IsAscii-cons (48 + weight % 100 % 10) [] ones
    IsAscii-nil) in
    subst (λ (t : List ℕ). IsUtf8 t) (sym spells.is)
    (IsUtf8-from_ascii (hundredths_text weight) (IsAscii-append (decimal (weight / 100)) (46 ∷
    two_digits (weight % 100)) (IsAscii-decimal (weight / 100) whole)
    (IsAscii-cons 46 (two_digits (weight % 100)) (lit< tt) digits)))

small_byte : (b : ℕ) → is_device_name_byte b ≡ true → b < 128
small_byte b is = grind (arith, nat_tests)

small_bytes : (t : List ℕ) → list_all is_device_name_byte t ≡ true → IsAscii t
small_bytes [] all = IsAscii-nil
small_bytes (b ∷ rest) all = let parts = and_parts _ _ all in
    IsAscii-cons b rest (small_byte b parts.0) (small_bytes rest parts.1)

pub name_is_text : (text name : List ℕ) → SpellsName is_device_name text name → IsUtf8 text
name_is_text text name spells = subst (λ (t : List ℕ). IsUtf8 t) (sym spells.is)
    (IsUtf8-from_ascii name (small_bytes name (and_parts _ _ spells.valid).1))
