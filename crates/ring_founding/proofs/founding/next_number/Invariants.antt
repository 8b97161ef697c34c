use Rattle.std.proofs.Common.{◌≡◌, ◌+◌, ◌<◌, take}
use Rattle.std.specs.Prelude.{All, Any}
use Rattle.ring_founding.proofs.founding.next_number.Given as goal

-- the number is beyond each device so far, and one beyond one of them
abbrev pub invariant-loop-device : goal.invariant-loop-device
invariant-loop-device l = record {
  beyond : All (λ device. device.id < l.next) (take l.device-index l.devices);
  reached : 0 < l.device-index →
      Any (λ device. device.id + 1 ≡ l.next) (take l.device-index l.devices);
  none : l.device-index ≡ 0 → l.next ≡ 0;
}
