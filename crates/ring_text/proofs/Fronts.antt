-- The first lines of a text, one after another.
use Rattle.std.proofs.Common.{◌≡◌, ◌≢◌, ℕ, ◌+◌, ◌<◌, false, List, [], ◌∷◌, ◌++◌, length, drop, get_or, map}
use Rattle.std.proofs.Common.{refl, sym, ap, ◌∙◌, append_assoc, Bor, arith}
use Rattle.std.specs.Prelude.{All, IsUtf8, ◌==◌}
use Rattle.std.specs.List.{slice_split}
use Rattle.std.proofs.lemmas.Bool.{ne_eqb}
use Rattle.std.proofs.lemmas.List.{drop_at, get_or_at, length-append, map_push}
use Rattle.std.proofs.lemmas.List.Elements.{All-from_get_or}
use Rattle.std.proofs.lemmas.List.Splits.{slice_split_at, slice_split_none}
use Rattle.std.proofs.lemmas.Str.{IsCharBoundary-after_ascii, IsUtf8-drop}
use Rattle.ring_text.specs.Inner.Reading.{HasLines}

abbrev Texts : Type 0
Texts = List (List ℕ)

abbrev lines_of : List ℕ → Texts
lines_of text = slice_split (λ b. b == 10) text

no_feeds : (line : List ℕ) → ((i : ℕ) → i < length line → get_or line i 0 ≢ 10) →
    All (λ b. (b == 10) ≡ false) line
no_feeds line none = All-from_get_or (λ b. (b == 10) ≡ false) line 0 (λ i lt. ne_eqb _ 10
    (none i lt))

-- one more line in front
pub line_more : (count : ℕ) (text rest next : List ℕ) (lines : List (Bor (List ℕ)))
    (line : Bor (List ℕ)) → HasLines count text (map (λ l. l.now) lines) rest →
    rest ≡ line.now ++ 10 ∷ next → ((i : ℕ) → i < length line.now → get_or line.now i 0 ≢ 10) →
    HasLines (count + 1) text (map (λ l. l.now) (lines ++ line ∷ [])) next
line_more count text rest next lines line has e none =
    let texts : Texts = map (λ (l : Bor (List ℕ)). l.now) lines in
    let first : lines_of rest ≡ line.now ∷ lines_of next = ap lines_of e ∙ slice_split_at
    (λ b. b == 10) line.now 10 next (no_feeds line.now none) refl in
    record {
      lines = has.lines ∙ ap (λ (x : Texts). texts ++ x) first ∙ rw (map_push
          (λ (l : Bor (List ℕ)). l.now) lines line) (sym (append_assoc texts (line.now ∷
          []) (lines_of next)));
      size = rw (map_push (λ (l : Bor (List ℕ)). l.now) lines line) (omega (
        arith,
        length-append texts (line.now ∷ []),
        has.size,
      ));
    }

-- without a line feed there is no further line but the last
pub line_last : (count : ℕ) (text rest : List ℕ) (lines texts more : Texts) →
    HasLines count text lines rest → ((i : ℕ) → i < length rest → get_or rest i 0 ≢ 10) →
    lines_of text ≡ texts ++ more → 0 < length more → count < length texts → ⊥
line_last count text rest lines texts more has none e some lt =
    let last : lines_of rest ≡ rest ∷ [] = slice_split_none (λ b. b == 10) rest
    (no_feeds rest none) in
    let long : length (lines ++ lines_of rest) ≡ length (texts ++ more) =
    ap (λ (t : Texts). length t) (sym has.lines ∙ e) in
    let one : length (lines_of rest) ≡ 1 = ap (λ (t : Texts). length t) last in
    omega (
      arith,
      long,
      one,
      has.size,
      length-append lines (lines_of rest),
      length-append texts more,
    )

pub no_line : (text : List ℕ) → HasLines 0 text [] text
no_line text = record { lines = refl; size = refl }

pub next_utf8 : (text line next : List ℕ) → IsUtf8 text → text ≡ line ++ 10 ∷ next → IsUtf8 next
next_utf8 text line next utf8 e =
    let size : ℕ = length line in
    let byte : get_or text size 0 ≡ 10 = ap (λ (t : List ℕ). get_or t size 0) e ∙ get_or_at line 10
    next 0 size refl in
    let inside : size < length text = omega (
      arith,
      ap (λ (t : List ℕ). length t) e,
      length-append line (10 ∷ next),
    ) in
    let after : drop (size + 1) text ≡ next = ap (drop (size + 1)) (e ∙ sym (append_assoc line (10 ∷
    []) next)) ∙ drop_at (line ++ 10 ∷ []) next (size + 1) (length-append line (10 ∷ [])) in
    rw after at (IsUtf8-drop text (size + 1) utf8 (IsCharBoundary-after_ascii text size utf8 inside
    (omega (arith, byte))))
