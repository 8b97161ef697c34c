-- What steps come to, one after another, and the first number that passes a test.
use Rattle.std.specs.Prelude.{ℕ, zero, suc, ◌+◌, Bool, if◌then◌else◌, Option, Some, None}

-- what so many steps make of something
unfoldable pub after_steps : {S : Type 0} → (ℕ → S → S) → ℕ → S → S
after_steps step zero first = first
after_steps step (suc n) first = step n (after_steps step n first)

-- the first number from one on, of so many, that passes a test
unfoldable pub first_from : (ℕ → Bool) → ℕ → ℕ → Option ℕ
first_from test zero at = None
first_from test (suc left) at = if test at then Some at else first_from test left (at + 1)

-- the first below a number
abbrev pub first_below : (ℕ → Bool) → ℕ → Option ℕ
first_below test count = first_from test count 0

-- the number, 0 where there is none
abbrev pub or_zero : Option ℕ → ℕ
or_zero None = 0
or_zero (Some place) = place
