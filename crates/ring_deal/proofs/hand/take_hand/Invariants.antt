use Rattle.std.proofs.Common.{◌≡◌, ◌<◌, ◌≤◌, [], All, length}
use Rattle.ring_words.specs.Limits.{most_seats}
use Rattle.ring_room.specs.Steps.{after_steps}
use Rattle.ring_deal.specs.Hand.{Taking, take_at}
use Rattle.ring_deal.proofs.hand.take_hand.Given as goal

abbrev pub invariant-loop-n : goal.invariant-loop-n
invariant-loop-n l = record {
  long : length l.left ≡ length l.fn.left;
  small : All (λ cards. cards ≤ most_seats) l.left;
  passed : l.passed < l.hands;
  by_name : ◌≡◌ {A = Taking} (record { hand = l.hand.items; left = l.left; passed = l.passed })
      (after_steps (take_at l.hands l.order) l.n (record { hand = []; left = l.fn.left; passed = 0 }));
}
