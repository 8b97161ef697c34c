-- From which number on callers have used none.
use Rattle.std.specs.Prelude.{◌≡◌, ◌≤◌, ◌+◌, ℕ, List, None, Option, Some, cond, max, nat_eq}
use Rattle.std.specs.Cmp.Lexicographic.{pointwise, slice_cmp}
use Rattle.std.specs.BTreeMap.{is_at}
use Rattle.std.specs.Map.{lookup}
use Rattle.std.specs.Ordering.{nat_cmp}
use Rattle.ring_words.specs.declared.request.Key.{Key}
use Rattle.request_book.specs.Content.{entry_of}
use Rattle.store_rows.specs.Stands.{DecidedRequest}

-- Callers, each with the greatest number that it has used.
abbrev pub UsedNumbers : Type 0
UsedNumbers = List (List ℕ × ℕ)

-- The least number behind a greatest one, which is None where there is none.
abbrev pub behind_greatest : Option ℕ → ℕ
behind_greatest None = 0
behind_greatest (Some greatest) = greatest + 1

-- The number from which on a caller has used none.
abbrev pub next_number : UsedNumbers → List ℕ → ℕ
next_number used caller = behind_greatest (lookup (is_at (slice_cmp nat_cmp caller)) used)

-- The same once this key is used, too.
abbrev pub next_with : Key → UsedNumbers → List ℕ → ℕ
next_with key used caller = cond (pointwise nat_eq key.caller caller)
    (max (next_number used caller) (key.number + 1)) (next_number used caller)

-- The number of the key is beyond all that its caller has used.
abbrev pub IsBeyond : Key → UsedNumbers → Type 0
IsBeyond key used = next_number used key.caller ≤ key.number

-- A book has no key that is beyond what callers have used.
abbrev pub Bounds : UsedNumbers → List DecidedRequest → Type 0
Bounds used book = (key : Key) → IsBeyond key used → entry_of key book ≡ None
