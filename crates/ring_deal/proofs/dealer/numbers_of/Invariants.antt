use Rattle.std.proofs.Common.{◌≡◌, map, take}
use Rattle.ring_room.specs.Places.{id_at}
use Rattle.ring_deal.proofs.dealer.numbers_of.Given as goal

abbrev pub invariant-loop-place : goal.invariant-loop-place
invariant-loop-place l = l.ids.items ≡ map (id_at l.devices) (take l.place-index l.places)
