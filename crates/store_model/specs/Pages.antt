-- The decided requests from a place on.
use Rattle.std.specs.Prelude.{◌≡◌, ℕ, ℤ, Bool, List, filter, take}
use Rattle.std.specs.List.Sorted.{IsPermutation, IsSortedByKey}
use Rattle.std.specs.Ordering.{int_cmp, is_ge}
use Rattle.store_model.specs.Entries.{NameNumber, Request}

-- whether a request's place is this one or a greater one
abbrev pub stands_from : ℤ → NameNumber × Request → Bool
stands_from place e = is_ge (int_cmp e.1.place place)

-- Of all requests of a table these are shown: those from a place on, by rising place, and no more
-- than so many of them.
pub record IsPage (place : ℤ) (most : ℕ) (all shown : List (NameNumber × Request)) : Type 0 where
  pub ordered : List (NameNumber × Request)
  pub each : IsPermutation (filter (stands_from place) all) ordered
  pub rise : IsSortedByKey (λ (e : NameNumber × Request). e.1.place) int_cmp ordered
  pub first : shown ≡ take most ordered
