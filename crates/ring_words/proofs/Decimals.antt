-- Numbers as text, and what stands before a point.
use Rattle.std.proofs.Common.{lit<, ◌≡◌, ◌≢◌, ℕ, zero, suc, ◌+◌, ◌*◌, ◌/◌, ◌%◌, ◌-◌, ◌^◌, ◌<◌, ◌≤◌}
use Rattle.std.proofs.Common.{true, false, List, [], ◌∷◌, ◌++◌, length, get_or, drop, Option, Some}
use Rattle.std.proofs.Common.{None, Result, Ok, Err, decimal, leb, refl, sym, ap, ◌∙◌, ⊎_elim}
use Rattle.std.proofs.Common.{append_assoc, arith}
use Rattle.std.proofs.Common.{Bor}
use Rattle.std.proofs.lemmas.Option.{MatchOption-at_some}
use Rattle.std.specs.Prelude.{MatchOption, IfSome, IfNone, not, ◌==◌, ◌||◌}
use Rattle.std.specs.Result.{result_ok}
use Rattle.std.specs.List.{position_or_len, before_first, after_first}
use Rattle.std.specs.Str.Parse.{ParsesUnsigned, AllDigits, digits_value}
use Rattle.std.specs.Int.{IsInRange}
use Rattle.std.specs.Fmt.{padded_integral, format_spec, char_count}
use Rattle.std.proofs.lemmas.Bool.{and_parts, and_from, or_right, or_cases, le-leb, leb-true}
use Rattle.std.proofs.lemmas.Bool.{ne_eqb, not-true, eqb-false, cases_lt, eq-eqb, lt-ltb}
use Rattle.std.proofs.lemmas.Fmt.{decimal_nonempty, first_decimal, decimal_digit, decimal_step}
use Rattle.std.proofs.lemmas.Fmt.{digits_decimal, decimal-digits_value, parse-decimal}
use Rattle.std.proofs.lemmas.Fmt.{decimal_injective}
use Rattle.std.proofs.lemmas.List.{take_at, drop_at, length-append, get_or_append_left, get_or_at}
use Rattle.std.proofs.lemmas.List.Sums.{position_or_len_is}
use Rattle.std.proofs.lemmas.Result.{OkIff-at_ok}
use Rattle.std.proofs.lemmas.Str.Parse.{IsNumeralModel, numerals_by_value, tells_digits}
use Rattle.std.proofs.lemmas.Str.Parse.{tells_by_index, parse_plain}
use Rattle.ring_words.specs.Texts.{is_digit, two_digits, hundredths_text, greatest_weight}
use Rattle.ring_words.specs.Texts.{address_text, address_limit}
use Rattle.ring_words.specs.Inner.Digits.{is_decimal}

by_digits : IsNumeralModel (AllDigits 10) (digits_value 10)
by_digits = numerals_by_value _ tells_digits

by_index : IsNumeralModel (λ ds. (i : ℕ) → i < length ds → IsInRange 48 57 (get_or ds i 0))
    (digits_value 10)
by_index = numerals_by_value _ tells_by_index

digit_of_decimal : (n i : ℕ) → n < 2 ^ 64 → i < length (decimal n) →
    IsInRange 48 57 (get_or (decimal n) i 0)
digit_of_decimal n i h lt = digits_decimal by_index n h i lt

is_digit_from : (b : ℕ) → IsInRange 48 57 b → is_digit b ≡ true
is_digit_from b h = and_from _ _ (le-leb 48 b h.0) (le-leb b 57 h.1)

short_or : (n : ℕ) → n < 2 ^ 64 → (leb (length (decimal n)) 1 || not (get_or (decimal n) 0 0 == 48))
    ≡ true
short_or zero h = let low : 0 < 10 = omega arith in rw (decimal_digit 0 low)
short_or (suc n) h =
    let above : 48 < get_or (decimal (suc n)) 0 0 = first_decimal (suc n) (omega arith) h in
    or_right (leb (length (decimal (suc n))) 1) (not (get_or (decimal (suc n)) 0 0 == 48))
    (rw (ne_eqb (get_or (decimal (suc n)) 0 0) 48 (λ e. omega arith)))

is_decimal-decimal : (n : ℕ) → n < 2 ^ 64 → is_decimal (decimal n) ≡ true
is_decimal-decimal n h =
    let some = decimal_nonempty n h in
    and_from _ _ (and_from _ _ (lt-ltb _ _ some) (is_digit_from _ (digit_of_decimal n 0 h some)))
    (short_or n h)

decimal_is : {E : Type 0} (t : List ℕ) (r : Result ℕ E) (n : ℕ) → is_decimal t ≡ true →
    ParsesUnsigned 32 10 t r → r ≡ Ok n → (n < 2 ^ 32) × (t ≡ decimal n)
decimal_is t r n plain h e =
    let p = and_parts _ _ plain in
    let q = and_parts _ _ p.0 in
    let d = and_parts _ _ q.1 in
    let low : 48 ≤ get_or t 0 0 = leb-true _ _ d.0 in
    let not_plus : get_or t 0 0 ≢ 43 = λ z. omega arith in
    let got = OkIff-at_ok r _ _ n (parse_plain by_digits 32 t r h not_plus) e in
    let one : get_or t 0 0 ≡ 48 → length t ≡ 1 = λ z.
    let some : 0 < length t = got.0.1 in
    ⊎_elim (λ s. let le : length t ≤ 1 = leb-true _ _ s in omega arith)
    (λ s. absurd (eqb-false _ _ (not-true _ s) z)) (or_cases _ _ p.1) in
    let small : digits_value 10 t < 2 ^ 64 = omega (arith, got.0.2) in
    let text : t ≡ decimal n = sym (rw got.1 (decimal-digits_value by_digits t got.0.0 got.0.1 one
    small)) in
    (omega (arith, got.0.2, got.1), text)

abbrev gives : {E : Type 0} → ℕ → Result ℕ E
gives n = Ok n

pub decimal_found : {E : Type 0} (t : List ℕ) (r : Result ℕ E) → is_decimal t ≡ true →
    ParsesUnsigned 32 10 t r → IfSome (result_ok r) (λ n. (n < 2 ^ 32) × (t ≡ decimal n))
decimal_found {E = E} t (Ok n) plain h = decimal_is {E = E} t (gives n) n plain h refl
decimal_found t (Err e) plain h = tt

abbrev fails : {E : Type 0} → E → Result ℕ E
fails e = Err e

pub decimal_none : {E : Type 0} (t : List ℕ) (r : Result ℕ E) → ParsesUnsigned 32 10 t r →
    IfNone (result_ok r) ((n : ℕ) → n < 2 ^ 32 → t ≡ decimal n → ⊥)
decimal_none t (Ok n) h = tt
decimal_none {E = E} t (Err e) h = λ n lt is. let bad : fails e ≡ Ok n =
    parse-decimal 32 n t (fails e) lt (omega arith) is h in cc

pub not_decimal : (t : List ℕ) → is_decimal t ≡ false → (n : ℕ) → n < 2 ^ 32 → t ≡ decimal n → ⊥
not_decimal t bad n lt e = let yes = is_decimal-decimal n (omega arith) in
    let same : is_decimal t ≡ is_decimal (decimal n) = ap is_decimal e in cc

-- ---- the first separator of a text

-- The text has the separator, and its first one stands between these two.
pub record IsCut (s : ℕ) (t front back : List ℕ) : Type 0 where
  pub inside : position_or_len (λ b. b == s) t < length t
  pub before : before_first (λ b. b == s) t ≡ front
  pub after : after_first (λ b. b == s) t ≡ back

first_at : (s : ℕ) (ds rest : List ℕ) → s < 48 → ((i : ℕ) → i < length ds →
    IsInRange 48 57 (get_or ds i 0)) → position_or_len (λ b. b == s) (ds ++ s ∷ rest) ≡ length ds
first_at s ds rest low digits =
    let le : length ds ≤ length (ds ++ s ∷ rest) = omega (arith, length-append ds (s ∷ rest)) in
    position_or_len_is (λ b. b == s) (ds ++ s ∷ rest) (length ds) 0 le
    (λ k lt. rw (get_or_append_left ds (s ∷ rest) 0 k lt) (let d = digits k lt in
    ne_eqb _ s (λ e. omega (arith, d.0, d.1))))
    (λ _. rw (get_or_at ds s rest 0 (length ds) refl) (eq-eqb s s refl))

cut_at : (s : ℕ) (ds rest : List ℕ) → s < 48 → ((i : ℕ) → i < length ds →
    IsInRange 48 57 (get_or ds i 0)) → IsCut s (ds ++ s ∷ rest) ds rest
cut_at s ds rest low digits =
    let at = first_at s ds rest low digits in
    record {
      inside = rw at (omega (arith, length-append ds (s ∷ rest)));
      before = rw at (take_at ds (s ∷ rest) (length ds) refl);
      after = rw at (ap (λ (l : List ℕ). drop (length ds + 1) l) (sym (simp append_assoc)) ∙ drop_at
          (ds ++ s ∷ []) rest (length ds + 1) (simp length-append));
    }

pub decimal_cut : (s : ℕ) (t : List ℕ) (n : ℕ) (rest : List ℕ) → s < 48 → n < 2 ^ 32 →
    t ≡ decimal n ++ s ∷ rest → IsCut s t (decimal n) rest
decimal_cut s t n rest low lt e = let small : n < 2 ^ 64 = omega arith in
    rw e (cut_at s (decimal n) rest low (λ i. digit_of_decimal n i small))

-- what `split_once` says at the separator
abbrev pub Splits : ℕ → List ℕ → Option (Bor (List ℕ) × Bor (List ℕ)) → Type 0
Splits s t r = MatchOption r (position_or_len (λ b. b == s) t ≡ length t)
    (λ x. (position_or_len (λ b. b == s) t < length t) × (x.0.now ≡ before_first (λ b. b == s) t) ×
    (x.1.now ≡ after_first (λ b. b == s) t))

pub no_separator : (s : ℕ) (t : List ℕ) (r : Option (Bor (List ℕ) × Bor (List ℕ))) → s < 48 →
    Splits s t r → r ≡ None → (n : ℕ) (rest : List ℕ) → n < 2 ^ 32 → t ≡ decimal n ++ s ∷ rest → ⊥
no_separator s t None low h is n rest lt e = let cut = decimal_cut s t n rest low lt e in
    omega (arith, cut.inside, h)
no_separator s t (Some x) low h is n rest lt e = cc

pub cut_of : (s : ℕ) (t : List ℕ) (r : Option (Bor (List ℕ) × Bor (List ℕ))) (x : Bor (List ℕ) ×
    Bor (List ℕ)) → Splits s t r → r ≡ Some x → IsCut s t x.0.now x.1.now
cut_of s t r x h is = let p = MatchOption-at_some _ _ x is h in record {
  inside = p.0;
  before =
      sym p.1;
  after = sym p.2;
}

-- what stands before the separator is no number
pub no_number : (s : ℕ) (t front back : List ℕ) → s < 48 → IsCut s t front back →
    ((n : ℕ) → n < 2 ^ 32 → front ≡ decimal n → ⊥) → (n : ℕ) (rest : List ℕ) → n < 2 ^ 32 →
    t ≡ decimal n ++ s ∷ rest → ⊥
no_number s t front back low cut none n rest lt e =
    none n lt (sym cut.before ∙ (decimal_cut s t n rest low lt e).before)

-- a text has one number before its first separator, and one rest
pub separated_parts : (s : ℕ) (t : List ℕ) (n m : ℕ) (rest more : List ℕ) → s < 48 → n < 2 ^ 32 →
    m < 2 ^ 32 → t ≡ decimal n ++ s ∷ rest → t ≡ decimal m ++ s ∷ more → (n ≡ m) × (rest ≡ more)
separated_parts s t n m rest more low ln lm en em =
    let a = decimal_cut s t n rest low ln en in
    let b = decimal_cut s t m more low lm em in (
      decimal_injective n m (omega arith) (omega arith) (sym a.before ∙ b.before),
      sym a.after ∙ b.after,
    )

-- the same at a point
pub same_parts : (t : List ℕ) (n m : ℕ) (rest more : List ℕ) → n < 2 ^ 32 → m < 2 ^ 32 →
    t ≡ decimal n ++ 46 ∷ rest → t ≡ decimal m ++ 46 ∷ more → (n ≡ m) × (rest ≡ more)
same_parts t n m rest more ln lm en em = separated_parts 46 t n m rest more (lit< tt) ln lm en em

-- a number has one text
pub same_number : (n m : ℕ) → n < 2 ^ 32 → m < 2 ^ 32 → decimal n ≡ decimal m → n ≡ m
same_number n m ln lm e = decimal_injective n m (omega arith) (omega arith) e

-- ---- hundredths

two_injective : (m n : ℕ) → m < 100 → n < 100 → two_digits m ≡ two_digits n → m ≡ n
two_injective m n hm hn e =
    let tens : 48 + m / 10 ≡ 48 + n / 10 = ap (λ (l : List ℕ). get_or l 0 0) e in
    let ones : 48 + m % 10 ≡ 48 + n % 10 = ap (λ (l : List ℕ). get_or l 1 0) e in
    omega arith

-- the parts of a weight's text are those of the weight
pub weight_parts : (t rest : List ℕ) (n w : ℕ) → n < 2 ^ 32 → t ≡ decimal n ++ 46 ∷ rest →
    w ≤ greatest_weight → t ≡ hundredths_text w → (n ≡ w / 100) × (rest ≡ two_digits (w % 100))
weight_parts t rest n w lt e le is = let low : w / 100 < 2 ^ 32 = omega arith in
    same_parts t n (w / 100) rest (two_digits (w % 100)) lt low e is

two_digits_same : (m n : ℕ) → m < 100 → two_digits m ≡ two_digits (n % 100) → m ≡ n % 100
two_digits_same m n lt e = let low : n % 100 < 100 = omega arith in two_injective m (n % 100) lt low
    e

-- the weight that the parts are
pub weight_of_parts : (t rest : List ℕ) (n m w : ℕ) → n < 2 ^ 32 → m < 100 → t ≡ decimal n ++ 46 ∷
    rest → rest ≡ two_digits m → w ≤ greatest_weight → t ≡ hundredths_text w → n * 100 + m ≡ w
weight_of_parts t rest n m w lt small e digits le is =
    let p = weight_parts t rest n w lt e le is in
    let cents : m ≡ w % 100 = two_digits_same m w small (sym digits ∙ p.1) in
    let whole : n ≡ w / 100 = p.0 in
    omega arith

-- the text of the weight with these parts
pub text_of_parts : (t rest : List ℕ) (n m : ℕ) → m < 100 → t ≡ decimal n ++ 46 ∷ rest →
    rest ≡ two_digits m → t ≡ hundredths_text (n * 100 + m)
text_of_parts t rest n m small e digits =
    let high : (n * 100 + m) / 100 ≡ n = omega arith in
    let low : (n * 100 + m) % 100 ≡ m = omega arith in
    rw (high, low) (rw digits at e)

-- ---- addresses

-- the octets that follow the first, the second and the third point
abbrev pub after_first_point : ℕ → List ℕ
after_first_point a = decimal (a / 65536 % 256) ++ 46 ∷ (decimal (a / 256 % 256) ++ 46 ∷
    decimal (a % 256))

abbrev pub after_second_point : ℕ → List ℕ
after_second_point a = decimal (a / 256 % 256) ++ 46 ∷ decimal (a % 256)

-- The text begins with these octets and goes on with this rest.
pub record First (t rest : List ℕ) (n : ℕ) : Type 0 where
  pub below : n < 256
  pub text : t ≡ decimal n ++ 46 ∷ rest

pub record Second (t rest : List ℕ) (m n : ℕ) : Type 0 where
  pub between : List ℕ
  pub front : First t between m
  pub last : First between rest n

pub record Third (t rest : List ℕ) (l m n : ℕ) : Type 0 where
  pub between : List ℕ
  pub front : Second t between l m
  pub last : First between rest n

first_is : (t rest : List ℕ) (n m : ℕ) (more : List ℕ) → First t rest n → m < 256 → t ≡ decimal m ++
    46 ∷ more → (n ≡ m) × (rest ≡ more)
first_is t rest n m more f lt e =
    let ln : n < 2 ^ 32 = omega (arith, f.below) in
    let lm : m < 2 ^ 32 = omega arith in
    same_parts t n m rest more ln lm f.text e

pub first_octet : (t rest : List ℕ) (n a : ℕ) → First t rest n → a < address_limit →
    t ≡ address_text a → (n ≡ a / 16777216) × (rest ≡ after_first_point a)
first_octet t rest n a f lt e = let low : a / 16777216 < 256 = omega arith in
    first_is t rest n (a / 16777216) (after_first_point a) f low e

pub second_octet : (t rest : List ℕ) (m n a : ℕ) → Second t rest m n → a < address_limit →
    t ≡ address_text a → (m ≡ a / 16777216) × (n ≡ a / 65536 % 256) × (rest ≡ after_second_point a)
second_octet t rest m n a s lt e =
    let p = first_octet t s.between m a s.front lt e in
    let low : a / 65536 % 256 < 256 = omega arith in
    let q = first_is s.between rest n (a / 65536 % 256) (after_second_point a) s.last low p.1 in
    (p.0, q.0, q.1)

pub third_octet : (t rest : List ℕ) (l m n a : ℕ) → Third t rest l m n → a < address_limit →
    t ≡ address_text a → (l ≡ a / 16777216) × (m ≡ a / 65536 % 256) × (n ≡ a / 256 % 256) ×
    (rest ≡ decimal (a % 256))
third_octet t rest l m n a s lt e =
    let p = second_octet t s.between l m a s.front lt e in
    let low : a / 256 % 256 < 256 = omega arith in
    let q = first_is s.between rest n (a / 256 % 256) (decimal (a % 256)) s.last low p.2 in
    (p.0, p.1, q.0, q.1)

-- ---- what `{:02}` writes of a number below 100

pub padded_two : (n : ℕ) → n < 100 → padded_integral (format_spec 32 0 4 2 (2 ^ 64 - 1)) false []
    (decimal n) ≡ two_digits n
unfolding padded_integral char_count
padded_two n lt = ⊎_elim
    (λ one. let high : n / 10 ≡ 0 = omega arith in let low : n % 10 ≡ n = omega arith in
    rw (decimal_digit n one, high, low))
    (λ two. let small : n < 2 ^ 64 = omega arith in let tens : n / 10 < 10 = omega arith in
    rw (decimal_step n two small, decimal_digit (n / 10) tens))
    (cases_lt n 10)
