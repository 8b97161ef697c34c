-- A row that is read as no text is one of those that are shown.
use Rattle.std.proofs.Common.{◌≡◌, ◌++◌, ◌∷◌, [], List, Result, Err, subst, sym, map}
use Rattle.std.specs.Prelude.{All, IfErr}
use Rattle.std.specs.List.{AllByRecursion}
use Rattle.std.proofs.lemmas.List.Elements.{recursion_from_All}
use Rattle.sqlite.specs.declared.error.Error.{Error}

module _ {R X : Type 0} (P : X → Type 0) (f : R → X) where
  in_front : (front rest : List R) (row : R) → AllByRecursion P (map f (front ++ row ∷ rest))
      → P (f row)
  in_front [] rest row all = all.0
  in_front (x ∷ front) rest row all = in_front front rest row all.1

  -- what holds of what each row stands for holds of what this one does
  pub of_row : (all front rest : List R) (row : R) → all ≡ front ++ row ∷ rest → All P (map f all)
      → P (f row)
  of_row all front rest row is each = in_front front rest row (recursion_from_All P _ (subst
      (λ rs. All P (map f rs)) is each))

  last_in_front : (front : List R) (row : R) (rest : List X)
      → AllByRecursion P (map f (front ++ row ∷ []) ++ rest) → P (f row)
  last_in_front [] row rest all = all.0
  last_in_front (x ∷ front) row rest all = last_in_front front row rest all.1

  -- so it is of the last one that is shown so far
  pub of_last : (front : List R) (row : R) (rest all : List X)
      → map f (front ++ row ∷ []) ++ rest ≡ all → All P all → P (f row)
  of_last front row rest all is each = last_in_front front row rest (recursion_from_All P _ (subst
      (All P) (sym is) each))

-- an error that is handed on is told of what it was told of
pub hands_error : {A B : Type 0} (Q : Error → Type 0) (first : Result A Error)
    (result : Result B Error) (e : Error) → first ≡ Err e → result ≡ Err e → IfErr first Q
    → IfErr result Q
hands_error Q first result e was is told = rw is (rw was at told)
