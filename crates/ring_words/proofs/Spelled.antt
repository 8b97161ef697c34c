-- A word spells one value, and what a part that is read, or isn't, says of the whole.
use Rattle.std.proofs.Common.{◌≡◌, ℕ, ◌/◌, ◌%◌, ◌^◌, ◌<◌, ◌≤◌, List, Result, Ok, Err, Vec, decimal}
use Rattle.std.proofs.Common.{refl, sym, ◌∙◌, arith}
use Rattle.std.specs.declared.alloc.Global.{Global}
use Rattle.ring_words.specs.Texts.{hundredths_text, greatest_weight, two_digits, address_text}
use Rattle.ring_words.specs.Texts.{address_limit}
use Rattle.ring_words.specs.Spelling.{Reads, SpellsNumber}
use Rattle.ring_words.specs.Inner.ReadsAs.{ReadsAs}
use Rattle.ring_words.specs.declared.spelling.SpellingFault.{SpellingFault}
use Rattle.ring_words.specs.declared.spelling.SpellingFault.TheVariants.{Bad, NoMemory}
use Rattle.ring_words.proofs.Decimals.{same_parts, same_number, weight_of_parts, after_first_point}
use Rattle.ring_words.proofs.Decimals.{after_second_point}

-- ---- one value

-- a word is one number
pub one_number : (word : List ℕ) (l m k n a b : ℕ) → m < 2 ^ 32 → n < 2 ^ 32
    → SpellsNumber word l m a → SpellsNumber word k n b → a ≡ b
one_number word l m k n a b sm sn h i =
    let below_a : a < 2 ^ 32 = omega (arith, h.below) in
    let below_b : b < 2 ^ 32 = omega (arith, i.below) in
    same_number a b below_a below_b (sym h.is ∙ i.is)

-- a text is one weight
pub one_weight : (a b : ℕ) → a ≤ greatest_weight → b ≤ greatest_weight
    → hundredths_text a ≡ hundredths_text b → a ≡ b
one_weight a b la lb e =
    let high : a / 100 < 2 ^ 32 = omega arith in
    let low : a % 100 < 100 = omega arith in
    let text = hundredths_text a in
    let digits = two_digits (a % 100) in
    let whole = weight_of_parts text digits (a / 100) (a % 100) b high low refl refl lb e in
    omega arith

-- a text is one address
pub one_address : (a b : ℕ) → a < address_limit → b < address_limit
    → address_text a ≡ address_text b → a ≡ b
one_address a b la lb e =
    let fa : a / 16777216 < 2 ^ 32 = omega arith in
    let fb : b / 16777216 < 2 ^ 32 = omega arith in
    let sa : a / 65536 % 256 < 2 ^ 32 = omega arith in
    let sb : b / 65536 % 256 < 2 ^ 32 = omega arith in
    let ta : a / 256 % 256 < 2 ^ 32 = omega arith in
    let tb : b / 256 % 256 < 2 ^ 32 = omega arith in
    let la4 : a % 256 < 2 ^ 32 = omega arith in
    let lb4 : b % 256 < 2 ^ 32 = omega arith in
    let rest_a = after_first_point a in
    let rest_b = after_first_point b in
    let end_a = after_second_point a in
    let end_b = after_second_point b in
    let first = same_parts (address_text a) (a / 16777216) (b / 16777216) rest_a rest_b fa fb refl e
    in
    let second = same_parts rest_a (a / 65536 % 256) (b / 65536 % 256) end_a end_b sa sb refl
    first.1 in
    let last_a = decimal (a % 256) in
    let last_b = decimal (b % 256) in
    let third = same_parts end_a (a / 256 % 256) (b / 256 % 256) last_a last_b ta tb refl second.1
    in
    let fourth = same_number (a % 256) (b % 256) la4 lb4 third.1 in
    omega (arith, first.0, second.0, third.0, fourth)

-- ---- a part and the whole

-- where a part is bad, so is the whole
pub reads_err : {X Y : Type 0} (P : X → Type 0) (Q : Y → Type 0) (e : SpellingFault)
    → Reads P (Err e) → ((y : Y) → Q y → (x : X) × P x) → Reads Q (Err e)
reads_err P Q Bad h part = λ y q. let p = part y q in h p.0 p.1
reads_err P Q NoMemory h part = tt

-- the same, where the part is seen as something
pub as_reads_err : {X Y Z : Type 0} (f : X → Y) (P : Y → Type 0) (Q : Z → Type 0)
    (e : SpellingFault)
    → ReadsAs f P (Err e) → ((z : Z) → Q z → (y : Y) × P y) → Reads Q (Err e)
as_reads_err f P Q Bad h part = λ z q. let p = part z q in h p.0 p.1
as_reads_err f P Q NoMemory h part = tt

-- the same, where the whole is too
pub reads_as_err : {X Y Z : Type 0} (P : X → Type 0) (g : Y → Z) (Q : Z → Type 0)
    (e : SpellingFault)
    → Reads P (Err e) → ((z : Z) → Q z → (x : X) × P x) → ReadsAs g Q (Err e)
reads_as_err P g Q Bad h part = λ z q. let p = part z q in h p.0 p.1
reads_as_err P g Q NoMemory h part = tt

-- the same, where the whole is a list
pub list_err : {X Z : Type 0} (P : X → Type 0) (Q : List Z → Type 0) (e : SpellingFault)
    → Reads P (Err e) → ((zs : List Z) → Q zs → (x : X) × P x)
    → ReadsAs {X = Vec Z Global} (λ v. v.items) Q (Err e)
list_err {Z = Z} P Q e h part = reads_as_err P (λ (v : Vec Z Global). v.items) Q e h part

-- what is read of two facts that are one
pub reads_same : {X : Type 0} (P Q : X → Type 0) (r : Result X SpellingFault)
    → ((x : X) → P x → Q x) → ((x : X) → Q x → P x) → Reads P r → Reads Q r
reads_same P Q (Ok x) to from h = to x h
reads_same P Q (Err Bad) to from h = λ x q. h x (from x q)
reads_same P Q (Err NoMemory) to from h = tt

-- the same, where it is seen as something
pub reads_as_same : {X Y : Type 0} (f : X → Y) (P Q : Y → Type 0) (r : Result X SpellingFault)
    → ((y : Y) → P y → Q y) → ((y : Y) → Q y → P y) → ReadsAs f P r → ReadsAs f Q r
reads_as_same f P Q (Ok x) to from h = to (f x) h
reads_as_same f P Q (Err Bad) to from h = λ y q. h y (from y q)
reads_as_same f P Q (Err NoMemory) to from h = tt

-- the same, of a list
pub list_same : {Z : Type 0} (P Q : List Z → Type 0) (r : Result (Vec Z Global) SpellingFault)
    → ((zs : List Z) → P zs → Q zs) → ((zs : List Z) → Q zs → P zs)
    → ReadsAs (λ v. v.items) P r → ReadsAs (λ v. v.items) Q r
list_same {Z = Z} P Q r to from h = reads_as_same (λ (v : Vec Z Global). v.items) P Q r to from h
