use Rattle.std.proofs.Common.{◌≡◌, length}
use Rattle.std.specs.List.Sorted.{IsPermutation}
use Rattle.ring_deal.specs.Draws.{swap_at}
use Rattle.ring_room.specs.Steps.{after_steps}
use Rattle.ring_deal.proofs.draws.shuffle.Given as goal

abbrev pub invariant-loop-place : goal.invariant-loop-place
invariant-loop-place g l = record {
  long : length l.items ≡ length l.fn.items;
  moved : IsPermutation l.fn.items l.items;
  by_name : (l.items, l.draws) ≡ after_steps swap_at l.place (l.fn.items, l.fn.draws);
}
