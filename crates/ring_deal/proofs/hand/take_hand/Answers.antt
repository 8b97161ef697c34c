use Rattle.std.proofs.Common.{◌+◌, ◌-◌, ◌/◌, ◌%◌, [], ap, arith, get_or, set, ◌∙◌}
use Rattle.std.proofs.lemmas.List.{length-set}
use Rattle.ring_words.specs.Limits.{most_seats}
use Rattle.ring_deal.specs.Hand.{Taking, take_at}
use Rattle.ring_deal.proofs.Taken.{small_set}
use Rattle.ring_room.proofs.Steps.{steps_more}
use Rattle.ring_deal.proofs.hand.take_hand.Goals as goal

pub loop-n-preserved : goal.loop-n-preserved
loop-n-preserved c =
    let n = c.loop-n.n in
    let first : Taking = record { hand = []; left = c.args.left.now; passed = 0 } in
    let now : Taking = record { hand = c.loop-n.hand.items; left = c.loop-n.left; passed = c.loop-n.passed } in
    let place = get_or c.args.order.now n 0 in
    let reached = c.loop-n.passed + get_or c.loop-n.left place 0 in
    let count = reached / c.args.hands in
    record {
      long = length-set c.loop-n.left place (get_or c.loop-n.left place 0 - count) ∙ c.loop-n.invariant.long;
      small = small_set most_seats c.loop-n.left place count c.loop-n.invariant.small;
      passed = omega arith;
      by_name = steps_more (take_at c.args.hands c.args.order.now) n first now _ c.loop-n.invariant.by_name
          (ap (λ cards. record {
            hand = cards;
            left = set c.loop-n.left place (get_or c.loop-n.left place 0 - count);
            passed = reached % c.args.hands;
          }) c.in_ok-add_cards.ensures);
    }
