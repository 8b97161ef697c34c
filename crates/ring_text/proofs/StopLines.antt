-- The lines of bytes up to the one in which they stop.
use Rattle.std.proofs.Common.{◌≡◌, ℕ, zero, suc, ◌+◌, ◌-◌, ◌<◌, ◌≤◌, Bool, true, false, cond, List}
use Rattle.std.proofs.Common.{[]}
use Rattle.std.proofs.Common.{◌∷◌, ◌++◌, length, get_or, take, drop, refl, sym, ap, subst, ◌∙◌}
use Rattle.std.proofs.Common.{append_assoc, append-nil, ⊎_elim, arith}
use Rattle.std.specs.Prelude.{All, IsUtf8, ◌==◌}
use Rattle.std.specs.List.{flat_map, join_with_byte, onto_first, slice_split}
use Rattle.std.proofs.lemmas.Bool.{cases_lt}
use Rattle.std.proofs.lemmas.List.{drop_more, length-append, length-take-le, take-append-drop}
use Rattle.std.proofs.lemmas.List.{take-take, take_at}
use Rattle.std.proofs.lemmas.List.Elements.{All-cons, All-head, All-nil, All-tail, All-take}
use Rattle.std.proofs.lemmas.List.Splits.{join_with_byte-slice_split}
use Rattle.std.proofs.lemmas.List.Splits.{slice_split_at}
use Rattle.std.proofs.lemmas.Str.{IsUtf8-from_ascii}
use Rattle.std.proofs.lemmas.Str.Ascii.{IsAscii-from_all}
use Rattle.ring_text.specs.Stops.{BeginsNone, first_lines, line_count}
use Rattle.ring_text.specs.Inner.Reading.{AreRingLines}
use Rattle.ring_text.specs.Inner.Stopping.{CannotBegin}
use Rattle.ring_text.proofs.Cutting.{Lent, seen, seen-take}
use Rattle.ring_text.proofs.Graphic.{Lacks}
use Rattle.ring_text.proofs.LineCounts.{lines_of_front, some_line}
use Rattle.ring_text.proofs.Text.{lines_of_text, text_is_ascii}

abbrev Texts : Type 0
Texts = List (List ℕ)

abbrev parts_at_feeds : List ℕ → Texts
parts_at_feeds bytes = slice_split (λ b. b == 10) bytes

abbrev fed : List ℕ → List ℕ
fed line = line ++ 10 ∷ []

-- ---- the parts of bytes have no line feed

onto_lacks : (x : ℕ) (parts : Texts) → (x == 10) ≡ false → All (Lacks 10) parts →
    All (Lacks 10) (onto_first x parts)
onto_lacks x [] other h = All-cons (Lacks 10) (x ∷ []) [] (All-cons (λ b. (b == 10) ≡ false) x []
    other (All-nil (λ b. (b == 10) ≡ false))) (All-nil (Lacks 10))
onto_lacks x (part ∷ parts) other h = All-cons (Lacks 10) (x ∷ part) parts
    (All-cons (λ b. (b == 10) ≡ false) x part other (All-head (Lacks 10) part parts h))
    (All-tail (Lacks 10) part parts h)

one_more_lacks : (x : ℕ) (parts : Texts) (b : Bool) → (x == 10) ≡ b → All (Lacks 10) parts →
    All (Lacks 10) (cond b ([] ∷ parts) (onto_first x parts))
one_more_lacks x parts true e h = All-cons (Lacks 10) [] parts (All-nil (λ b. (b == 10) ≡ false)) h
one_more_lacks x parts false e h = onto_lacks x parts e h

parts_lack : (bytes : List ℕ) → All (Lacks 10) (parts_at_feeds bytes)
parts_lack [] = All-cons (Lacks 10) [] [] (All-nil (λ b. (b == 10) ≡ false)) (All-nil (Lacks 10))
parts_lack (x ∷ bytes) = one_more_lacks x (parts_at_feeds bytes) (x == 10) refl (parts_lack bytes)

-- ---- lines with their line feeds are cut into these lines

cut_fed : (lines : Texts) (more : List ℕ) → All (Lacks 10) lines →
    parts_at_feeds (flat_map fed lines ++ more) ≡ lines ++ parts_at_feeds more
cut_fed [] more h = refl
cut_fed (l ∷ ls) more h =
    let regrouped : flat_map fed (l ∷ ls) ++ more ≡ l ++ 10 ∷ (flat_map fed ls ++ more) =
    append_assoc (l ++ 10 ∷ []) (flat_map fed ls) more ∙ append_assoc l (10 ∷ [])
    (flat_map fed ls ++ more) in
    ap parts_at_feeds regrouped
    ∙ slice_split_at (λ b. b == 10) l 10 (flat_map fed ls ++ more) (All-head (Lacks 10) l ls h) refl
    ∙ ap (λ (x : Texts). l ∷ x) (cut_fed ls more (All-tail (Lacks 10) l ls h))

-- ---- the first lines of a front are those of the whole

take_none : (m : ℕ) → take {A = List ℕ} m [] ≡ []
take_none zero = refl
take_none (suc m) = refl

take_onto : (m x : ℕ) (parts : Texts) → take (suc m) (onto_first x parts) ≡ onto_first x
    (take (suc m) parts)
take_onto m x [] = ap (λ (t : Texts). (x ∷ []) ∷ t) (take_none m)
take_onto m x (part ∷ parts) = refl

length-onto : (x : ℕ) (parts : Texts) → 0 < length parts → length (onto_first x parts) ≡ length
    parts
length-onto x [] some = absurd (omega arith)
length-onto x (part ∷ parts) some = refl

one_more_front : (x : ℕ) (b : Bool) (front whole : Texts) (n : ℕ) → 0 < length front →
    n < length (cond b ([] ∷ front) (onto_first x front)) → ((k : ℕ) → k < length front →
    take k whole ≡ take k front) → take n (cond b ([] ∷ whole) (onto_first x whole)) ≡ take n
    (cond b ([] ∷ front) (onto_first x front))
one_more_front x b front whole zero some lt same = refl
one_more_front x true front whole (suc n) some lt same = ap (λ (t : Texts). [] ∷ t)
    (same n (omega arith))
one_more_front x false front whole (suc n) some lt same = take_onto n x whole ∙ ap (onto_first x)
    (same (suc n) (omega (arith, lt, length-onto x front some))) ∙ sym (take_onto n x front)

first_parts : (xs ys : List ℕ) (n : ℕ) → n < line_count xs →
    take n (parts_at_feeds (xs ++ ys)) ≡ take n (parts_at_feeds xs)
first_parts [] ys zero lt = refl
first_parts [] ys (suc n) lt = absurd (omega arith)
first_parts (x ∷ xs) ys n lt = one_more_front x (x == 10) (parts_at_feeds xs)
    (parts_at_feeds (xs ++ ys)) n (some_line xs) lt (λ k below. first_parts xs ys k below)

-- ---- no ring's text begins with lines that none begins with

some_part : (parts : Texts) → 0 < length parts → (next : List ℕ) × (more : Texts) ×
    (parts ≡ next ∷ more)
some_part [] some = absurd (omega arith)
some_part (part ∷ parts) some = (part, parts, refl)

none_begins : (bytes : List ℕ) (n : ℕ) → CannotBegin (take n (parts_at_feeds bytes)) →
    BeginsNone (first_lines n bytes)
none_begins bytes n cannot = λ s more spells.
    let lines : Texts = take n (parts_at_feeds bytes) in
    let cut : parts_at_feeds (first_lines n bytes ++ more) ≡ lines ++ parts_at_feeds more =
    cut_fed lines more (All-take (Lacks 10) n (parts_at_feeds bytes) (parts_lack bytes)) in
    let last = some_part (parts_at_feeds more) (some_line more) in
    let are : AreRingLines (parts_at_feeds (first_lines n bytes ++ more)) s =
    lines_of_text (first_lines n bytes ++ more) _ s refl spells in
    cannot s last.0 last.1 (subst (λ (t : Texts). AreRingLines t s) (cut ∙ ap
    (λ (t : Texts). lines ++ t) last.2) are)

-- ---- the first lines are a front

join_fed : (xs : Texts) (y : List ℕ) (ys : Texts) → join_with_byte 10 (xs ++ y ∷ ys) ≡ flat_map fed
    xs ++ join_with_byte 10 (y ∷ ys)
join_fed [] y ys = refl
join_fed (x ∷ []) y ys = sym (append_assoc x (10 ∷ []) (join_with_byte 10 (y ∷ ys))) ∙ ap
    (λ (t : List ℕ). t ++ join_with_byte 10 (y ∷ ys)) (sym (append-nil (fed x)))
join_fed (x ∷ z ∷ zs) y ys =
    ap (λ (t : List ℕ). x ++ 10 ∷ t) (join_fed (z ∷ zs) y ys)
    ∙ sym (append_assoc x (10 ∷ []) (flat_map fed (z ∷ zs) ++ join_with_byte 10 (y ∷ ys)))
    ∙ sym (append_assoc (fed x) (flat_map fed (z ∷ zs)) (join_with_byte 10 (y ∷ ys)))

first_lines_front : (bytes : List ℕ) (n : ℕ) → n < line_count bytes → (rest : List ℕ) ×
    (bytes ≡ first_lines n bytes ++ rest)
first_lines_front bytes n lt =
    let parts : Texts = parts_at_feeds bytes in
    let y : List ℕ = get_or parts n [] in
    let whole : parts ≡ take n parts ++ y ∷ drop (n + 1) parts =
    sym (take-append-drop n parts) ∙ ap (λ (t : Texts). take n parts ++ t)
    (drop_more parts n [] lt) in (
      join_with_byte 10 (y ∷ drop (n + 1) parts),
      sym (join_with_byte-slice_split 10 bytes) ∙ ap (join_with_byte 10) whole ∙ join_fed
          (take n parts) y (drop (n + 1) parts),
    )

count-first_lines : (bytes : List ℕ) (n : ℕ) → n < line_count bytes →
    line_count (first_lines n bytes) ≡ n + 1
count-first_lines bytes n lt =
    let parts : Texts = parts_at_feeds bytes in
    let cut : parts_at_feeds (first_lines n bytes ++ []) ≡ take n parts ++ [] ∷ [] =
    cut_fed (take n parts) [] (All-take (Lacks 10) n parts (parts_lack bytes)) in
    ap line_count (sym (append-nil (first_lines n bytes))) ∙ ap (λ (t : Texts). length t) cut ∙
    omega (arith, length-append (take n parts) ([] ∷ []), length-take-le n parts (omega arith))

-- the line of a byte that is no UTF-8
no_utf8 : (bytes text : List ℕ) → text ≡ take (length text) bytes → ((n : ℕ) →
    length text < n → n ≤ length bytes → IsUtf8 (take n bytes) → ⊥) →
    line_count text < line_count bytes → BeginsNone (first_lines (line_count text) bytes)
no_utf8 bytes text front longest lt = λ s more spells.
    let n : ℕ = line_count text in
    let first : List ℕ = first_lines n bytes in
    let m : ℕ = length first in
    let rest = first_lines_front bytes n lt in
    let is : take m bytes ≡ first = ap (take m) rest.1 ∙ take_at first rest.0 m refl in
    let within : m ≤ length bytes = omega (
      arith,
      ap (λ (t : List ℕ). length t) rest.1,
      length-append first rest.0,
    ) in
    let ascii : All (λ b. b < 128) first = subst (All (λ b. b < 128)) (take_at first more m refl)
    (All-take (λ b. b < 128) m (first ++ more) (text_is_ascii (first ++ more) s spells)) in
    let utf8 : IsUtf8 (take m bytes) = subst IsUtf8 (sym is) (IsUtf8-from_ascii first
    (IsAscii-from_all first ascii)) in
    ⊎_elim (λ long. longest m long within utf8) (λ short.
    let inside : first ≡ take m text = sym is ∙ sym (take-take m (length text) bytes short) ∙ ap
    (take m) (sym front) in
    omega (arith, count-first_lines bytes n lt, lines_of_front text first m inside))
    (cases_lt (length text) m)

-- where whole lines of the front stop, the bytes do
pub stops_there : (bytes text : List ℕ) (lines lent : Lent) (w good : ℕ) → lent ≡ lines →
    w ≡ length lines - 1 → text ≡ take (length text) bytes → ((n : ℕ) → length text < n →
    n ≤ length bytes → IsUtf8 (take n bytes) → ⊥) → seen lines ≡ parts_at_feeds text →
    length lines ≡ line_count text → good + 1 ≤ length lines → (good + 1 < length lines →
    CannotBegin (take (good + 1) (seen (take w lent)))) → good + 1 < line_count bytes →
    BeginsNone (first_lines (good + 1) bytes)
stops_there bytes text lines lent w good one all_but front longest are count le stop lt = ⊎_elim
    (λ inside. none_begins bytes (good + 1) (subst CannotBegin (same inside) (stop inside)))
    (λ last. let all : line_count text ≡ good + 1 = omega (arith, last, le, count) in
    subst (λ (n : ℕ). BeginsNone (first_lines n bytes)) all
    (no_utf8 bytes text front longest (omega (arith, all, lt))))
    (cases_lt (good + 1) (length lines))
  where
    whole : bytes ≡ text ++ drop (length text) bytes
    whole = sym (take-append-drop (length text) bytes) ∙ ap
        (λ (t : List ℕ). t ++ drop (length text) bytes) (sym front)

    same : good + 1 < length lines → take (good + 1) (seen (take w lent)) ≡ take (good + 1)
        (parts_at_feeds bytes)
    same inside =
        ap (λ (l : Lent). take (good + 1) (seen (take w l))) one
        ∙ ap (take (good + 1)) (seen-take w lines)
        ∙ take-take (good + 1) w (seen lines) (omega (arith, all_but, inside))
        ∙ ap (take (good + 1)) are
        ∙ sym (first_parts text (drop (length text) bytes) (good + 1) (omega (
          arith,
          inside,
          count,
        )))
        ∙ ap (λ (t : List ℕ). take (good + 1) (parts_at_feeds t)) (sym whole)
