-- Texts of a path: their bytes, and where they may be cut.
use Rattle.std.proofs.Common.{◌≡◌, ◌≢◌, inl, inr, ℕ, zero, suc, ◌<◌, ◌≤◌, List, [], ◌∷◌, ◌++◌}
use Rattle.std.proofs.Common.{length}
use Rattle.std.proofs.Common.{Bool, true, false, refl, sym, ap, ◌∙◌, arith, ltb, ◌&&◌, subst}
use Rattle.std.proofs.Common.{get_or, All}
use Rattle.std.proofs.lemmas.Bool.Decides.{nat_tests}
use Rattle.std.proofs.lemmas.List.{length-append, take_at, drop_at}
use Rattle.std.proofs.lemmas.Str.{IsUtf8-from_ascii, IsUtf8-take, IsUtf8-drop}
use Rattle.std.proofs.lemmas.Str.{IsCharBoundary-before_ascii, IsCharBoundary-from_take}
use Rattle.std.specs.Str.{IsUtf8}
use Rattle.matchit.specs.Level.{IsText}
use Rattle.http_routes.proofs.Finding.{IsFree, IsPiece, Follows}
use Rattle.http_routes.specs.Routes.{IsPathSegment}

-- each byte is ASCII
abbrev pub is_plain : List ℕ → Bool
is_plain [] = true
is_plain (b ∷ rest) = ltb b 128 && is_plain rest

plain-parts : (b : ℕ) (rest : List ℕ) → is_plain (b ∷ rest) ≡ true → (b < 128)
    × (is_plain rest ≡ true)
plain-parts b rest e = by (ltb b 128) refl e
  where
    by : (v : Bool) → ltb b 128 ≡ v → (v && is_plain rest) ≡ true → (b < 128)
        × (is_plain rest ≡ true)
    by true q e = (grind (arith, nat_tests), e)
    by false q e = cc

pub plain-text : (l : List ℕ) → is_plain l ≡ true → IsText l
plain-text [] e = tt
plain-text (b ∷ rest) e =
    let p = plain-parts b rest e in
    (omega (arith, p.0), plain-text rest p.1)

plain-at : (l : List ℕ) (i : ℕ) → is_plain l ≡ true → get_or l i 0 < 128
plain-at [] i e = omega arith
plain-at (b ∷ rest) zero e = (plain-parts b rest e).0
plain-at (b ∷ rest) (suc i) e = plain-at rest i (plain-parts b rest e).1

pub plain-utf8 : (l : List ℕ) → is_plain l ≡ true → IsUtf8 l
plain-utf8 l e = IsUtf8-from_ascii l (λ i. plain-at l i e)

pub text-of : (l : List ℕ) → ((i : ℕ) → get_or l i 0 < 256) → IsText l
text-of [] h = tt
text-of (b ∷ rest) h = (h 0, text-of rest (λ i. h (suc i)))

pub text-behind : (a b : List ℕ) → IsText (a ++ b) → IsText b
text-behind [] b h = h
text-behind (x ∷ a) b h = text-behind a b h.1

pub text-before : (a b : List ℕ) → IsText (a ++ b) → IsText a
text-before [] b h = tt
text-before (x ∷ a) b h = (h.0, text-before a b h.1)

pub free-of : (l : List ℕ) → All (λ byte. byte ≢ 47) l → IsFree l
free-of [] h = tt
free-of (b ∷ rest) h = (
  h 0 0 (omega arith),
  free-of rest
      (λ k d less. h (suc k) d (omega (arith, less))),
)

pub all-free : (l : List ℕ) → IsFree l → All (λ byte. byte ≢ 47) l
all-free [] free k d less = absurd (omega (arith, less))
all-free (b ∷ rest) free zero d less = free.0
all-free (b ∷ rest) free (suc k) d less = all-free rest free.1 k d (omega (arith, less))

-- a segment of a path is what a parameter takes
pub piece-of : (l : List ℕ) → IsPathSegment l → IsPiece l
piece-of l h = (h.0, free-of l h.1)

pub segment-of : (l : List ℕ) → IsPiece l → IsUtf8 l → IsPathSegment l
segment-of l h utf8 = (h.0, all-free l h.1, utf8)

pub utf8-behind : (a b : List ℕ) → IsUtf8 (a ++ b) → IsUtf8 a → IsUtf8 b
utf8-behind a b whole front =
    let fits : length a ≤ length (a ++ b) = omega (arith, length-append a b) in
    subst IsUtf8 (drop_at a b (length a) refl) (IsUtf8-drop (a ++ b) (length a) whole
    (IsCharBoundary-from_take (a ++ b) (length a) whole fits
    (subst IsUtf8 (sym (take_at a b (length a) refl)) front)))

slash-at : (a b : List ℕ) → get_or (a ++ 47 ∷ b) (length a) 0 ≡ 47
slash-at [] b = refl
slash-at (x ∷ a) b = slash-at a b

-- a text may be cut before a slash
pub utf8-cut : (a b : List ℕ) → IsUtf8 (a ++ 47 ∷ b) → IsUtf8 a × IsUtf8 (47 ∷ b)
utf8-cut a b whole =
    let fits : length a < length (a ++ 47 ∷ b) = omega (arith, length-append a (47 ∷ b)) in
    let edge = IsCharBoundary-before_ascii (a ++ 47 ∷ b) (length a) fits
    (omega (arith, slash-at a b)) in (
      subst IsUtf8 (take_at a (47 ∷ b) (length a) refl) (IsUtf8-take (a ++ 47 ∷ b) (length a) whole
          edge),
      subst IsUtf8 (drop_at a (47 ∷ b) (length a) refl) (IsUtf8-drop (a ++ 47 ∷ b) (length a) whole
          edge),
    )

-- a path that follows literals begins with them
pub begins-with : (w t path : List ℕ) → IsText w → Follows (w ++ t) path → (rest : List ℕ)
    × (path ≡ w ++ rest) × Follows t rest
begins-with [] t path text f = (path, refl, f)
begins-with (x ∷ w) t path text (inl f) =
    let more = begins-with w t f.0 text.1 f.2 in
    (more.0, f.1 ∙ ap (λ (l : List ℕ). x ∷ l) more.1, more.2)
begins-with (x ∷ w) t path text (inr (inl f)) = absurd (omega (arith, text.0, f.0))
begins-with (x ∷ w) t path text (inr (inr f)) = absurd (omega (arith, text.0, f))

-- a path that follows a parameter begins with what it takes
pub takes-piece : (t path : List ℕ) → IsText path → Follows (256 ∷ t) path
    → (piece : List ℕ) × (rest : List ℕ) × (path ≡ piece ++ rest) × IsPiece piece × Follows t rest
takes-piece t path text (inl f) =
    let text : IsText (256 ∷ f.0) = subst IsText f.1 text in
    absurd (omega (arith, text.0))
takes-piece t path text (inr (inl f)) = (f.1, f.2, f.3, f.4, f.5)
takes-piece t path text (inr (inr f)) = absurd (omega (arith, f))
