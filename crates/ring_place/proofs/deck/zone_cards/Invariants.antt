use Rattle.std.proofs.Common.{◌≡◌}
use Rattle.std.specs.List.{flat_map, range_with_len}
use Rattle.ring_place.specs.Made.{cards_at}
use Rattle.ring_place.proofs.deck.zone_cards.Given as goal

-- the devices before this one have their cards
abbrev pub invariant-loop-place : goal.invariant-loop-place
invariant-loop-place l = l.cards.items ≡ flat_map (cards_at l.room l.zone) (range_with_len 0 l.place)
