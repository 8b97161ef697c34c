use Rattle.std.proofs.Common.{◌≡◌, ◌+◌, sum}
use Rattle.ring_share.specs.Want.{AreShares, seat_count}
use Rattle.ring_share.proofs.wants.wanted.Given as goal

-- the shares so far; what is left is still to be given
abbrev pub invariant-loop-given : goal.invariant-loop-given
invariant-loop-given l = record {
  shares : AreShares l.ring l.wanted.items;
  sum : sum l.wanted.items + l.left ≡ seat_count l.ring + l._given;
}
