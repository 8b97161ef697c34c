use Rattle.std.specs.Vec.{with_items}
use Rattle.std.proofs.lemmas.List.{with_items_is}
use Rattle.std.proofs.Common.{◌≡◌, ◌++◌, ◌+◌, ◌-◌, ◌*◌, ◌≤◌, ℕ, List, OnOk, Ok, Err, Result, ap, arith, get_or, length}
use Rattle.std.proofs.Common.{subst, sym, ◌∙◌}
use Rattle.std.specs.List.{range_with_len}
use Rattle.std.specs.List.Sorted.{IsPermutation}
use Rattle.std.proofs.lemmas.List.FromFn.{length-range_with_len}
use Rattle.std.proofs.lemmas.List.Sorted.{length_permutation}
use Rattle.rand_pcg.specs.Lcg.{Lcg}
use Rattle.ring_deal.specs.Deal.{Dealing, deal_hand}
use Rattle.ring_deal.specs.Draws.{shuffled}
use Rattle.ring_deal.specs.Hand.{dealt_round, taken_of}
use Rattle.ring_deal.specs.Order.{tier_order}
use Rattle.ring_deal.proofs.Ordered.{order_permutes}
use Rattle.ring_deal.proofs.Orders.{all_below}
use Rattle.ring_deal.proofs.Taken.{hand_taken}
use Rattle.ring_deal.proofs.dealer.deal_hand.Goals as goal

pub tier_order-requires-clause-ranks : goal.tier_order-requires-clause-ranks
tier_order-requires-clause-ranks c = ap length c.as_slice.ensures.value
    ∙ length_permutation (range_with_len 0 (length c.args.devices.now)) c.in_ok-ranks.ranks.items
    c.in_ok-ranks.ensures.permutation ∙ length-range_with_len 0 (length c.args.devices.now)

pub tier_order-requires-clause-small : goal.tier_order-requires-clause-small
tier_order-requires-clause-small c k d lt =
    let same = c.as_slice.ensures.value in
    let long = ap length same in
    let below = all_below (length c.args.devices.now) c.in_ok-ranks.ranks.items
    c.in_ok-ranks.ensures.permutation k d (omega (arith, lt, long)) in
    let here : get_or c.as_slice.result.now k d ≡ get_or c.in_ok-ranks.ranks.items k d =
    ap (λ (xs : List ℕ). get_or xs k d) same in
    let few = c.requires.few in
    omega (arith, below, here, few)

pub take_hand-requires-clause-within : goal.take_hand-requires-clause-within
take_hand-requires-clause-within c k d lt =
    let ranks = c.as_slice.result.now in
    let same = c.as_slice-2.ensures.value ∙ c.in_ok-order.ensures.by_name in
    let long = ap length same in
    let below = all_below (length c.args.devices.now) (tier_order c.args.devices.now ranks)
    (order_permutes c.args.devices.now ranks c.requires.few) k d (omega (arith, lt, long)) in
    let here : get_or c.as_slice-2.result.now k d ≡ get_or (tier_order c.args.devices.now ranks) k d =
    ap (λ (xs : List ℕ). get_or xs k d) same in
    let left = ap length (c.as_mut_slice.ensures.value ∙ ap (λ (d : Dealing). d.left) c.dealer.view_is) in
    let many = c.requires.long in
    omega (arith, below, here, left, many)

pub add_round-requires : goal.add_round-requires
add_round-requires c = record {
  whole =
      let ranks = c.as_slice.result.now in
      let order = c.as_slice-2.result.now in
      let same = c.as_slice-2.ensures.value ∙ c.in_ok-order.ensures.by_name in
      let left = c.args.dealer.now.left in
      let hands : c.args.hands ≡ (c.args.hands - 1) + 1 = (let some = c.requires.some in omega (arith, some)) in
      let permutes : IsPermutation (range_with_len 0 (length left)) order =
      subst (λ n. IsPermutation (range_with_len 0 n) order) (sym c.requires.long)
      (subst (IsPermutation (range_with_len 0 (length c.args.devices.now))) (sym same)
      (order_permutes c.args.devices.now ranks c.requires.few)) in
      let taken = hand_taken (c.args.hands - 1) c.args.size order left permutes
      (λ k d lt. subst (λ h. get_or left k d ≤ h * c.args.size) hands (c.requires.left.each k d lt))
      c.args.replicas (c.requires.left.all ∙ ap (λ h. h * c.args.size * c.args.replicas) hands) in
      ap length (c.as_slice-3.ensures.value ∙ c.in_ok-hand.ensures.hand)
      ∙ ap (λ (xs : List ℕ). length (taken_of c.args.hands order xs).hand) (c.as_mut_slice.ensures.value
      ∙ ap (λ (d : Dealing). d.left) c.dealer.view_is)
      ∙ ap (λ h. length (taken_of h order left).hand) hands ∙ taken.count;
}

same_dealing : (places also : List ℕ) (left rest : List ℕ) (draws later : Lcg) → places ≡ also →
    left ≡ rest → draws ≡ later → ◌≡◌ {A = Dealing} (record { places = places; left = left; draws = draws })
    (record { places = also; left = rest; draws = later })
same_dealing places also left rest draws later one two three =
    ap (λ (p : List ℕ). record { places = p; left = left; draws = draws }) one
    ∙ ap (λ (l : List ℕ). record { places = also; left = l; draws = draws }) two
    ∙ ap (λ (d : Lcg). record { places = also; left = rest; draws = d }) three

on_ok : {T E : Type 0} (r : Result T E) (P Q : Type 0) → OnOk r P → (P → Q) → OnOk r Q
on_ok (Ok x) P Q p all = all p
on_ok (Err e) P Q p all = tt

pub returns : goal.returns
returns c =
    let devices = c.args.devices.now in
    let all = range_with_len 0 (length devices) in
    let draws = c.dealer.inside.draws in
    let left = c.dealer.inside.left.items in
    let drawn : ◌≡◌ {A = List ℕ × Lcg} (c.in_ok-ranks.ranks.items, c.shuffled_order.new.draws)
    (shuffled all draws) = c.in_ok-ranks.ensures.by_name in
    let ranks : c.as_slice.result.now ≡ (shuffled all draws).0 = c.as_slice.ensures.value ∙ ap (λ p. p.0) drawn in
    let order : c.as_slice-2.result.now ≡ tier_order devices (shuffled all draws).0 =
    c.as_slice-2.ensures.value ∙ c.in_ok-order.ensures.by_name ∙ ap (tier_order devices) ranks in
    let hand = c.as_slice-3.ensures.value ∙ c.in_ok-hand.ensures.hand
    ∙ ap (λ (xs : List ℕ). (taken_of c.args.hands c.as_slice-2.result.now xs).hand) c.as_mut_slice.ensures.value
    ∙ ap (λ o. (taken_of c.args.hands o left).hand) order in
    let rest = c.in_ok-hand.ensures.left
    ∙ ap (λ (xs : List ℕ). (taken_of c.args.hands c.as_slice-2.result.now xs).left) c.as_mut_slice.ensures.value
    ∙ ap (λ o. (taken_of c.args.hands o left).left) order in
    let kept : (with_items c.dealer.inside.left c.take_hand.new.left).items ≡ c.take_hand.new.left =
    with_items_is c.dealer.inside.left c.take_hand.new.left (c.take_hand.ensures.long
    ∙ c.as_mut_slice.ensures.len) in
    on_ok c.add_round.result _ _ c.add_round.ensures (λ is.
    same_dealing _ _ _ _ _ _ (is ∙ ap (λ h. c.dealer.inside.places.items ++ dealt_round h c.args.size
    c.args.replicas) hand) (kept ∙ rest) (ap (λ (p : List ℕ × Lcg). p.1) drawn)
    ∙ ap (deal_hand devices c.args.size c.args.replicas c.args.hands) c.dealer.view_is)
