use Rattle.std.proofs.Common.{◌≡◌, ◌<◌, ℕ, false}
use Rattle.ring_room.specs.Cards.{shares_zone}
use Rattle.ring_place.proofs.deck.is_first.Given as goal

-- none so far shares the zone
abbrev pub invariant-loop-other : goal.invariant-loop-other
invariant-loop-other l = (k : ℕ) → k < l.other → shares_zone l.room l.place k ≡ false
