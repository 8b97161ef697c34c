use Rattle.std.proofs.Common.{◌≡◌, take, fold, map, max}
use Rattle.ring_share.specs.Figures.{device_balance}
use Rattle.ring_share.proofs.figures.balance.Given as goal

abbrev pub invariant-loop-place : goal.invariant-loop-place
invariant-loop-place l = l.greatest ≡ fold max 0 (map (device_balance l.ring)
    (take l.place l.devices))
