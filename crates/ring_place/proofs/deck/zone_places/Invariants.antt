use Rattle.std.proofs.Common.{◌≡◌, filter}
use Rattle.std.specs.List.{range_with_len}
use Rattle.ring_place.specs.Made.{is_first}
use Rattle.ring_place.proofs.deck.zone_places.Given as goal

-- the first places so far
abbrev pub invariant-loop-place : goal.invariant-loop-place
invariant-loop-place l = l.places.items ≡ filter (is_first l.room) (range_with_len 0 l.place)
