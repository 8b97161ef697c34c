use Rattle.std.proofs.Common.{◌≡◌, ◌≤◌, ◌*◌, ◌^◌, take, sum_by}
use Rattle.ring_share.specs.Want.{open_weight}
use Rattle.ring_share.proofs.wants.total_weight.Given as goal

abbrev pub invariant-loop-device : goal.invariant-loop-device
invariant-loop-device l = record {
  total : l.total ≡ sum_by open_weight (take l.device-index l.devices);
  small : l.total ≤ l.device-index * 2 ^ 27;
}
