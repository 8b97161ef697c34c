-- Lists that are gone through element by element, alone or two side by side.
use Rattle.std.proofs.Common.{◌≡◌, ℕ, ◌+◌, ◌<◌, ◌∙◌, List, [], ◌++◌, length, get_or, take, sym, ap}
use Rattle.std.proofs.Common.{arith}
use Rattle.std.specs.List.{flat_map, zip}
use Rattle.std.specs.Prelude.{slice_index}
use Rattle.std.proofs.lemmas.List.{flat_map_more, get_or_default, take_more}
use Rattle.std.proofs.lemmas.Slice.Zip.{get_or-zip, length-zip}

-- an element beside that at the same place of another list
pub pair_at : {X Y : Type 0} (xs : List X) (ys : List Y) (i : ℕ) (x : X) (y : Y) → i < length xs →
    i < length ys → x ≡ get_or xs i x → y ≡ get_or ys i y → (x, y) ≡ get_or (zip xs ys) i (x, y)
pair_at {X = X} {Y = Y} xs ys i x y below under first second =
    ap (λ (e : X). (e, y)) first ∙ ap (λ (e : Y). (get_or xs i x, e)) second ∙ sym
    (get_or-zip xs ys i (x, y) below under)

pub pair_below : {X Y : Type 0} (xs : List X) (ys : List Y) (i : ℕ) → i < length xs →
    i < length ys → i < length (zip xs ys)
pair_below xs ys i below under = let long = length-zip xs ys in omega (arith, long)

-- an element beside the number at the same place of another list
pub read_pair : {X : Type 0} (xs : List X) (ns : List ℕ) (i : ℕ) (x : X) → i < length xs →
    i < length ns → x ≡ get_or xs i x →
    (x, slice_index ns i) ≡ get_or (zip xs ns) i (x, slice_index ns i)
read_pair xs ns i x below under at =
    pair_at xs ns i x (slice_index ns i) below under at
    (get_or_default ns i 0 (slice_index ns i) under)

-- the parts of one more element
pub next_part : {X : Type 0} (f : X → List ℕ) (xs : List X) (i : ℕ) (d : X)
    (before after : List ℕ) → i < length xs → before ≡ flat_map f (take i xs) →
    after ≡ before ++ f (get_or xs i d) → after ≡ flat_map f (take (i + 1) xs)
next_part {X} f xs i d before after lt so_far more =
    more ∙ ap (λ (text : List ℕ). text ++ f (get_or xs i d)) so_far
    ∙ flat_map_more f [] (take i xs) (get_or xs i d)
    ∙ ap (flat_map f) (sym (take_more xs i d lt))
