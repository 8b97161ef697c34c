-- The lines that follow the first, and the first lines.
use Rattle.std.proofs.Common.{◌≡◌, ℕ, ◌+◌, List, [], ◌∷◌, ◌++◌, length, take, drop}
use Rattle.std.proofs.Common.{map, Bor, sym, ap, ◌∙◌, arith}
use Rattle.std.specs.Prelude.{codes}
use Rattle.std.proofs.lemmas.List.{length-append, take_at}
use Rattle.std.proofs.lemmas.List.{drop_at, take-map, drop-map}
use Rattle.ring_text.specs.Inner.Reading.{IsCut}

abbrev pub Texts : Type 0
Texts = List (List ℕ)

-- ---- what stands round the lines of devices and partitions

pub record HasMarks (d p : ℕ) (ts first second : Texts) : Type 0 where
  pub count : length ts ≡ d + p + 3
  pub front : take d ts ≡ first
  pub middle : take (p + 1) (drop d ts) ≡ codes "seats" ∷ second
  pub last : drop (p + 1) (drop d ts) ≡ codes "end" ∷ [] ∷ []

pub marks_of : (d p : ℕ) (ts : Texts) (x : Texts × Texts) → IsCut d p ts x → HasMarks d p ts x.0 x.1
marks_of d p ts x cut =
    let end : Texts = codes "end" ∷ [] ∷ [] in
    let rest : drop d ts ≡ (codes "seats" ∷ x.1) ++ end = ap (drop d) cut.is ∙ drop_at x.0
    (codes "seats" ∷ (x.1 ++ end)) d cut.devices in
    let long : length (codes "seats" ∷ x.1) ≡ p + 1 = omega (arith, cut.partitions) in
    record {
      count = ap (λ (t : Texts). length t) cut.is ∙ omega (
        arith,
        length-append x.0 (codes "seats" ∷
            (x.1 ++ end)),
        length-append x.1 end,
        cut.devices,
        cut.partitions,
      );
      front = ap (take d) cut.is ∙ take_at x.0 (codes "seats" ∷ (x.1 ++ end)) d cut.devices;
      middle = ap (take (p + 1)) rest ∙ take_at (codes "seats" ∷ x.1) end (p + 1) long;
      last = ap (drop (p + 1)) rest ∙ drop_at (codes "seats" ∷ x.1) end (p + 1) long;
    }

pub one_cut : (d p : ℕ) (ts : Texts) (x y : Texts × Texts) → IsCut d p ts x → IsCut d p ts y →
    (x.0 ≡ y.0) × (x.1 ≡ y.1)
one_cut d p ts x y h i =
    let m = marks_of d p ts x h in
    let n = marks_of d p ts y i in
    (sym m.front ∙ n.front, ap (drop 1) (sym m.middle ∙ n.middle))

-- ---- the same of lines that are borrowed

abbrev pub Lent : Type 0
Lent = List (Bor (List ℕ))

abbrev pub seen : Lent → Texts
seen lines = map (λ l. l.now) lines

pub seen-take : (n : ℕ) (lines : Lent) → seen (take n lines) ≡ take n (seen lines)
seen-take n lines = sym (take-map (λ (l : Bor (List ℕ)). l.now) n lines)

pub seen-drop : (n : ℕ) (lines : Lent) → seen (drop n lines) ≡ drop n (seen lines)
seen-drop n lines = sym (drop-map (λ (l : Bor (List ℕ)). l.now) n lines)
