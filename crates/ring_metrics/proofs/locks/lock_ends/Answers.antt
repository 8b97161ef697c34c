use Rattle.std.proofs.Common.{ℕ, List, IsPermutation, subst, sym}
use Rattle.std.specs.List.Sorted.{IsNonDecreasing}
use Rattle.std.proofs.lemmas.List.Sorted.{IsNonDecreasingBy-from_sort}
use Rattle.std.proofs.lemmas.Result.{IfOk-weaker}
use Rattle.ring_metrics.specs.Inner.Ends.{left_hours}
use Rattle.ring_metrics.proofs.Locking.{are_lock_ends, is_rest}
use Rattle.ring_metrics.proofs.locks.lock_ends.Goals as goal

pub ends_of-requires : goal.ends_of-requires
ends_of-requires c = subst IsNonDecreasing (sym c.deref.ensures.value)
    (IsNonDecreasingBy-from_sort (λ (k : ℕ). k) c.sort_unstable.new.self.items
    c.sort_unstable.ensures.sorted)

pub returns-clause-ends : goal.returns-clause-ends
returns-clause-ends c =
    let sorted = c.deref.result.now in
    let same : IsPermutation (left_hours c.args.ring.now c.args.hour) sorted =
    subst (IsPermutation (left_hours c.args.ring.now c.args.hour)) (sym c.deref.ensures.value)
    (subst (λ (left : List ℕ). IsPermutation left c.sort_unstable.new.self.items)
    c.in_ok-left.ensures c.sort_unstable.ensures.permutation) in
    IfOk-weaker c.ends_of.result _ _
    (λ ends told. are_lock_ends c.args.ring.now c.args.hour sorted ends.items same told)
    c.ends_of.ensures

pub returns-clause-rest : goal.returns-clause-rest
returns-clause-rest c =
    let sorted = c.deref.result.now in
    let same : IsPermutation (left_hours c.args.ring.now c.args.hour) sorted =
    subst (IsPermutation (left_hours c.args.ring.now c.args.hour)) (sym c.deref.ensures.value)
    (subst (λ (left : List ℕ). IsPermutation left c.sort_unstable.new.self.items)
    c.in_ok-left.ensures c.sort_unstable.ensures.permutation) in
    IfOk-weaker c.ends_of.result _ _
    (λ ends told. is_rest c.args.ring.now c.args.hour sorted ends.items same told)
    c.ends_of.ensures
