-- Tables without rows.
use Rattle.std.proofs.Common.{◌≡◌, ◌∙◌, ◌∷◌, Bool, List, [], ap, arith, refl, sym}
use Rattle.std.specs.Prelude.{◌↔◌, ◌==◌, IsTrue, length, map}
use Rattle.std.specs.FinMap.{FinMap, empty, empty_of_len, entries, len, len-empty, len-entries}
use Rattle.std.specs.declared.cmp.Ordering.{Ordering}
use Rattle.std.proofs.lemmas.Bool.{eq-eqb, eqb-true}

mapped : {X Y : Type 0} (f : X → Y) (xs : List X) → length (map f xs) ≡ length xs
mapped f [] = refl
mapped f (x ∷ xs) = let rest = mapped f xs in omega (arith, rest)

-- a table is empty where the list of its rows is
pub table_empty : {X K V : Type 0} {R : K → K → Ordering} (items : List X) (f : X → K × V)
    (m : FinMap R V) (b : Bool) → map f items ≡ entries m → b ≡ (length items == 0) → IsTrue b ↔
    (m ≡ empty)
table_empty {R = R} items f m b is told =
    let count = len-entries m ∙ sym (ap length is) ∙ mapped f items in (
      λ h. empty_of_len m (count ∙ eqb-true (length items) 0 (sym told ∙ h)),
      λ none. told ∙ eq-eqb
          (length items) 0 (sym count ∙ ap len none ∙ len-empty R _),
    )
