-- The lines of bytes.
use Rattle.std.proofs.Common.{◌≡◌, ◌≢◌, ℕ, ◌<◌, ◌≤◌, false, List, [], ◌∷◌, ◌++◌, length, Some, None}
use Rattle.std.proofs.Common.{refl, sym, ap, ◌∙◌, append_assoc, append-nil, inl, inr, arith}
use Rattle.std.specs.Prelude.{All, option_and_then, nat_le, ◌⊎◌}
use Rattle.std.proofs.lemmas.List.Elements.{All-nil, All-cons, All-head, All-tail, All-push}
use Rattle.std.proofs.lemmas.List.Elements.{All-append}
use Rattle.std.proofs.lemmas.List.Concat.{flat_map-append}
use Rattle.std.proofs.lemmas.List.{length_push}
use Rattle.std.proofs.lemmas.Bool.{cases_eq, leb-true, leb-false, lt-leb, cases_Bool}
use Rattle.line_stream.specs.Lines.{IsLine, ended, Divides, with_rest, AreLines, longest_line}
use Rattle.line_stream.specs.Inner.Midway.{line_kept}

pub ended-append : (a b : List (List ℕ)) → ended (a ++ b) ≡ ended a ++ ended b
ended-append a b = flat_map-append (λ (line : List ℕ). line ++ 10 ∷ []) a b

pub ended-one : (line : List ℕ) → ended (line ∷ []) ≡ line ++ 10 ∷ []
ended-one line = append-nil (line ++ 10 ∷ [])

pub ended-push : (a : List (List ℕ)) (line : List ℕ) → ended (a ++ line ∷ []) ≡ ended a ++
    (line ++ 10 ∷ [])
ended-push a line = ended-append a (line ∷ []) ∙ ap (λ (t : List ℕ). ended a ++ t) (ended-one line)

-- no bytes
pub Divides-nil : Divides [] [] []
Divides-nil = record {
  whole = refl;
  are_lines = All-nil IsLine;
  rest_is_line =
      All-nil (λ (byte : ℕ). byte ≢ 10);
}

-- one more byte
pub Divides-byte : (bytes : List ℕ) (lines : List (List ℕ)) (rest : List ℕ) (byte : ℕ) →
    Divides bytes lines rest → byte ≢ 10 → Divides (bytes ++ byte ∷ []) lines (rest ++ byte ∷ [])
Divides-byte bytes lines rest byte d other = record {
  whole = ap (λ (t : List ℕ). t ++ byte ∷ []) d.whole ∙ append_assoc (ended lines) rest (byte ∷ []);
  are_lines = d.are_lines;
  rest_is_line = All-push (λ (byte : ℕ). byte ≢ 10) rest byte d.rest_is_line other;
}

-- one more byte, a line feed
pub Divides-feed : (bytes : List ℕ) (lines : List (List ℕ)) (rest : List ℕ) →
    Divides bytes lines rest → Divides (bytes ++ 10 ∷ []) (lines ++ rest ∷ []) []
Divides-feed bytes lines rest d = record {
  whole = ap (λ (t : List ℕ). t ++ 10 ∷ []) d.whole ∙ append_assoc (ended lines) rest (10 ∷
      []) ∙ sym (ended-push lines rest) ∙ sym (append-nil _);
  are_lines = All-push IsLine lines rest d.are_lines d.rest_is_line;
  rest_is_line = All-nil (λ (byte : ℕ). byte ≢ 10);
}

-- lines before
pub Divides-after : (front : List (List ℕ)) (bytes : List ℕ) (lines : List (List ℕ)) (rest : List ℕ)
    → All IsLine front → Divides bytes lines rest → Divides (ended front ++ bytes) (front ++ lines)
    rest
Divides-after front bytes lines rest are d = record {
  whole = ap (λ (t : List ℕ). ended front ++ t) d.whole ∙ sym (append_assoc (ended front)
      (ended lines) rest) ∙ ap (λ (t : List ℕ). t ++ rest) (sym (ended-append front lines));
  are_lines = All-append IsLine front lines are d.are_lines;
  rest_is_line = d.rest_is_line;
}

-- all bytes can be divided
divides_cons : (byte : ℕ) (bytes : List ℕ) (lines : List (List ℕ)) (rest : List ℕ) → byte ≢ 10 →
    Divides bytes lines rest → (more : List (List ℕ)) × (left : List ℕ) ×
    Divides (byte ∷ bytes) more left
divides_cons byte bytes [] rest other d = (
  [],
  byte ∷ rest,
  record {
    whole = ap (λ (t : List ℕ). byte ∷ t) d.whole;
    are_lines = d.are_lines;
    rest_is_line = All-cons (λ (byte : ℕ). byte ≢ 10) byte rest other d.rest_is_line;
  },
)
divides_cons byte bytes (line ∷ lines) rest other d = (
  (byte ∷ line) ∷ lines,
  rest,
  record {
    whole = ap (λ (t : List ℕ). byte ∷ t) d.whole;
    are_lines = All-cons IsLine (byte ∷ line) lines (All-cons (λ (byte : ℕ). byte ≢ 10) byte line
        other (All-head IsLine line lines d.are_lines)) (All-tail IsLine line lines d.are_lines);
    rest_is_line = d.rest_is_line;
  },
)

pub divided : (bytes : List ℕ) → (lines : List (List ℕ)) × (rest : List ℕ) ×
    Divides bytes lines rest
divided [] = ([], [], Divides-nil)
divided (byte ∷ bytes) = let d = divided bytes in elim (cases_eq byte 10) [
  | inl is ↦ (
    [] ∷ d.0,
    d.1,
    record {
      whole = ap (λ (b : ℕ). b ∷ bytes) is ∙ ap (λ (t : List ℕ). 10 ∷ t) d.2.whole;
      are_lines = All-cons IsLine [] d.0 (All-nil (λ (byte : ℕ). byte ≢ 10)) d.2.are_lines;
      rest_is_line = d.2.rest_is_line;
    },
  )
  | inr other ↦ divides_cons byte bytes d.0 d.1 other d.2
]

pub some_lines : (bytes : List ℕ) → (lines : List (List ℕ)) × AreLines bytes lines
some_lines bytes = let d = divided bytes in (
  with_rest d.0 d.1,
  record {
    front = d.0;
    rest = d.1;
    divides = d.2;
    all = refl;
  },
)

-- lines, and then the lines of what comes behind them
with_rest-append : (front lines : List (List ℕ)) (rest : List ℕ) → with_rest (front ++ lines) rest ≡
    front ++ with_rest lines rest
with_rest-append front lines [] = refl
with_rest-append front lines (byte ∷ rest) = append_assoc front lines ((byte ∷ rest) ∷ [])

pub lines_after : (front : List (List ℕ)) (tail : List ℕ) → All IsLine front →
    (lines : List (List ℕ)) × AreLines (ended front ++ tail) (front ++ lines)
lines_after front tail are = let d = divided tail in (
  with_rest d.0 d.1,
  record {
    front = front ++ d.0;
    rest = d.1;
    divides =
        Divides-after front tail d.0 d.1 are d.2;
    all = sym (with_rest-append front d.0 d.1);
  },
)

-- bytes are divided in one way alone
no_feed : (rest line more : List ℕ) → IsLine rest → rest ≡ line ++ 10 ∷ more → ⊥
no_feed [] [] more is e = cc
no_feed [] (c ∷ line) more is e = cc
no_feed (b ∷ rest) [] more is e = let same : b ≡ 10 = cc in All-head (λ (byte : ℕ). byte ≢ 10) b
    rest is same
no_feed (b ∷ rest) (c ∷ line) more is e = no_feed rest line more (All-tail (λ (byte : ℕ). byte ≢ 10)
    b rest is) cc

first_line : (a b x y : List ℕ) → IsLine a → IsLine b → a ++ 10 ∷ x ≡ b ++ 10 ∷ y → (a ≡ b) ×
    (x ≡ y)
first_line [] [] x y p q e = (refl, cc)
first_line [] (c ∷ b) x y p q e = let same : c ≡ 10 = cc in
    absurd (All-head (λ (byte : ℕ). byte ≢ 10) c b q same)
first_line (c ∷ a) [] x y p q e = let same : c ≡ 10 = cc in
    absurd (All-head (λ (byte : ℕ). byte ≢ 10) c a p same)
first_line (c ∷ a) (d ∷ b) x y p q e =
    let more : a ++ 10 ∷ x ≡ b ++ 10 ∷ y = cc in
    let same : c ≡ d = cc in
    let r = first_line a b x y (All-tail (λ (byte : ℕ). byte ≢ 10) c a p)
    (All-tail (λ (byte : ℕ). byte ≢ 10) d b q) more in
    (ap (λ (t : List ℕ). c ∷ t) r.0 ∙ ap (λ (h : ℕ). h ∷ b) same, r.1)

one_feed : (line : List ℕ) (lines : List (List ℕ)) (rest : List ℕ) → ended (line ∷ lines) ++
    rest ≡ line ++ 10 ∷ (ended lines ++ rest)
one_feed line lines rest = append_assoc (line ++ 10 ∷ []) (ended lines) rest ∙ append_assoc line
    (10 ∷ []) (ended lines ++ rest)

divided_once : (a b : List (List ℕ)) (r s : List ℕ) → All IsLine a → All IsLine b → IsLine r →
    IsLine s → ended a ++ r ≡ ended b ++ s → (a ≡ b) × (r ≡ s)
divided_once [] [] r s p q u v e = (refl, e)
divided_once [] (l ∷ b) r s p q u v e = absurd (no_feed r l (ended b ++ s) u (e ∙ one_feed l b s))
divided_once (k ∷ a) [] r s p q u v e =
    absurd (no_feed s k (ended a ++ r) v (sym e ∙ one_feed k a r))
divided_once (k ∷ a) (l ∷ b) r s p q u v e =
    let f = first_line k l (ended a ++ r) (ended b ++ s) (All-head IsLine k a p)
    (All-head IsLine l b q) (sym (one_feed k a r) ∙ e ∙ one_feed l b s) in
    let more = divided_once a b r s (All-tail IsLine k a p) (All-tail IsLine l b q) u v f.1 in
    (ap (λ (t : List ℕ). t ∷ a) f.0 ∙ ap (λ (t : List (List ℕ)). l ∷ t) more.0, more.1)

pub one_list : (bytes : List ℕ) (a b : List (List ℕ)) → AreLines bytes a → AreLines bytes b → a ≡ b
one_list bytes a b x y =
    let d = x.divides in
    let e = y.divides in
    let same = divided_once x.front y.front x.rest y.rest d.are_lines e.are_lines d.rest_is_line
    e.rest_is_line (sym d.whole ∙ e.whole) in
    x.all ∙ ap (λ (t : List (List ℕ)). with_rest t x.rest) same.0 ∙ ap (λ (t : List ℕ). with_rest
    y.front t) same.1 ∙ sym y.all

-- what is kept of a line
pub kept_of-push : (line : List ℕ) (byte : ℕ) → line_kept (line ++ byte ∷ []) ≡ option_and_then
    (λ (front : List ℕ). line_kept (front ++ byte ∷ [])) (line_kept line)
kept_of-push line byte = elim (cases_Bool (nat_le (length line) longest_line)) [
  | inl fits ↦ rw fits refl
  | inr long ↦
      let more : longest_line < length line = leb-false (length line) longest_line long in
      let longer : nat_le (length (line ++ byte ∷ [])) longest_line ≡ false =
      lt-leb (length (line ++ byte ∷ [])) longest_line (omega (arith, length_push line byte)) in
      rw (long, longer) refl
]

pub kept_cases : (line : List ℕ) → ((length line ≤ longest_line) × (line_kept line ≡ Some line)) ⊎
    ((longest_line < length line) × (line_kept line ≡ None))
kept_cases line = elim (cases_Bool (nat_le (length line) longest_line)) [
  | inl fits ↦ inl (leb-true (length line) longest_line fits, rw fits refl)
  | inr long ↦ inr (leb-false (length line) longest_line long, rw long refl)
]

pub kept_whole : (line kept : List ℕ) → Some kept ≡ line_kept line → (kept ≡ line) ×
    (length line ≤ longest_line)
kept_whole line kept is = elim (kept_cases line) [
  | inl fits ↦ let same : Some kept ≡ Some line = is ∙ fits.1 in (cc, fits.0)
  | inr long ↦ let same : Some kept ≡ None = is ∙ long.1 in cc
]

pub kept_none : (line : List ℕ) → None ≡ line_kept line → longest_line < length line
kept_none line is = elim (kept_cases line) [
  | inl fits ↦ let same : None ≡ Some line = is ∙ fits.1 in cc
  | inr long ↦ long.0
]
