use Rattle.std.proofs.Common.{◌≡◌, take, map, if◌then◌else◌}
use Rattle.ring_share.specs.Want.{is_open, whole_share}
use Rattle.ring_share.proofs.wants.whole_shares.Given as goal

abbrev pub invariant-loop-device : goal.invariant-loop-device
invariant-loop-device l = l.shares.items ≡ map (λ device. if is_open device then
    whole_share l.ring device else 0) (take l.device-index l.devices)
