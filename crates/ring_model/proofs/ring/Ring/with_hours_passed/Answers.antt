use Rattle.std.proofs.Common.{arith}
use Rattle.std.proofs.lemmas.Grind.{common_steps}
use Rattle.std.proofs.Common.{◌≡◌, replicate, None, ap, ◌∙◌, rules}
use Rattle.ring_model.specs.Ring.{with_hours_passed}
use Rattle.ring_model.proofs.ring.Ring.with_hours_passed.Goals as goal

pub returns : goal.returns
returns c =
    let never : c.in_ok-parts-2.field-0.items ≡ replicate c.partition_count-partitions.result None
    = c.in_ok-parts-2.ensures.items_if_clones_equal (λ y k. search rules) in
    rw (c.risen.ensures, never, c.partition_count-partitions.ensures.value)
    (ap with_hours_passed (c.in_ok-parts.ensures ∙ c.self.view_is))

pub invariant_of-result : goal.invariant_of-result
invariant_of-result c = grind (arith, common_steps)
