use Rattle.std.proofs.Common.{◌≡◌, ◌≤◌, ◌*◌, ◌^◌, take, sum}
use Rattle.ring_share.proofs.wants.sum_of.Given as goal

abbrev pub invariant-loop-share : goal.invariant-loop-share
invariant-loop-share l = record {
  sum : l.sum ≡ sum (take l.share-index l.shares);
  small : l.sum ≤ l.share-index * 2 ^ 32;
}
