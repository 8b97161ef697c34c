-- What is gone through in an order.
use Rattle.std.specs.Prelude.{ℕ, ◌==◌, Bool, List}
use Rattle.std.specs.List.{list_any}

-- whether a number is among those that were gone through
abbrev pub is_among : List ℕ → ℕ → Bool
is_among done number = list_any (λ other. other == number) done
