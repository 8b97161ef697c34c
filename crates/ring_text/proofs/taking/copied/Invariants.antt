use Rattle.std.proofs.Common.{◌≡◌, take}
use Rattle.ring_text.proofs.taking.copied.Given as goal

abbrev pub invariant-loop-device : goal.invariant-loop-device
invariant-loop-device l = record {
  same : l.copy.items ≡ take l.device-index l.devices;
}
