use Rattle.std.proofs.Common.{◌≡◌, ◌++◌, ◌<◌, ◌^◌, All, List, ℕ, take}
use Rattle.std.specs.List.{flat_map}
use Rattle.store_rows.specs.RingRows.{two_bytes}
use Rattle.store_rows.proofs.ring_reading.push_seats.Given as goal

abbrev pub invariant-loop-place : goal.invariant-loop-place
invariant-loop-place l = (ids : List ℕ) → l.bytes ≡ flat_map two_bytes ids →
    All (λ id. id < 2 ^ 16) ids → l.into.items ≡ l.fn.into.items ++ take l.place ids
