use Rattle.std.proofs.Common.{◌≡◌, map}
use Rattle.std.specs.List.{range_with_len}
use Rattle.ring_deal.specs.Order.{order_key}
use Rattle.ring_deal.proofs.order.order_keys.Given as goal

-- the keys of the devices so far
abbrev pub invariant-loop-place : goal.invariant-loop-place
invariant-loop-place l = l.keys.items ≡ map (order_key l.devices l.ranks) (range_with_len 0 l.place)
