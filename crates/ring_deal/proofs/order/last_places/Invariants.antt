use Rattle.std.proofs.Common.{◌≡◌, ◌%◌, map, take}
use Rattle.ring_words.specs.Limits.{most_devices}
use Rattle.ring_deal.proofs.order.last_places.Given as goal

-- the places in the keys so far
abbrev pub invariant-loop-key : goal.invariant-loop-key
invariant-loop-key l = l.places.items ≡ map (λ key. key % most_devices) (take l.key-index l.keys)
