use Rattle.std.proofs.Common.{◌≡◌, []}
use Rattle.ring_room.specs.Steps.{after_steps}
use Rattle.ring_place.specs.Made.{pile_at, zone_places}
use Rattle.ring_place.proofs.deck.Deck.of.Given as goal

-- the piles of the zones so far
abbrev pub invariant-loop-zone : goal.invariant-loop-zone
invariant-loop-zone l = l.deck ≡ after_steps (pile_at l.room (zone_places l.room)) l.zone-index
    (record { piles = []; draws = l.fn.draws })
