-- Texts of digits.
use Rattle.std.specs.Prelude.{ℕ, ◌&&◌, ◌||◌, ◌==◌, List, length}
use Rattle.std.specs.Prelude.{slice_index, Bool, not, nat_lt, nat_le}
use Rattle.ring_words.specs.Texts.{is_digit}

-- a digit first, and no 0 before another digit
abbrev pub is_decimal : List ℕ → Bool
is_decimal t = nat_lt 0 (length t) && is_digit (slice_index t 0) && (nat_le (length t) 1 ||
    not (slice_index t 0 == 48))
