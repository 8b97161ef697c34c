use Rattle.std.proofs.Common.{◌≡◌, ◌%◌, ◌∙◌, IfOk, ap, map, subst}
use Rattle.std.proofs.lemmas.List.Sorted.{IsNonDecreasingBy-from_sort}
use Rattle.ring_words.specs.Limits.{most_devices}
use Rattle.ring_deal.specs.Order.{ascending}
use Rattle.ring_deal.proofs.Ordered.{ascending_is}
use Rattle.ring_deal.proofs.order.tier_order.Goals as goal

pub returns : goal.returns
returns c =
    let sorted = c.sort_unstable.new.self.items in
    let same = c.as_slice.ensures.value ∙ ascending_is c.in_ok-keys.keys.items sorted
    c.sort_unstable.ensures.permutation
    (IsNonDecreasingBy-from_sort (λ k. k) sorted c.sort_unstable.ensures.sorted)
    ∙ ap ascending c.in_ok-keys.ensures in record {
      by_name = subst (λ keys. IfOk c.last_places.result (λ order. order.items ≡ map
          (λ key. key % most_devices) keys)) same c.last_places.ensures;
    }
