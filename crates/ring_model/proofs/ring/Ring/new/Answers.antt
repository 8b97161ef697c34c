use Rattle.std.proofs.Common.{◌≡◌, replicate, None, refl, rules}
use Rattle.ring_model.proofs.ring.Ring.new.Goals as goal

pub returns : goal.returns
returns c =
    let never : c.in_ok-vec.field-0.items ≡ replicate c.partition_count-partitions.result None =
    c.in_ok-vec.ensures.items_if_clones_equal (λ y k. search rules) in
    rw (
      c.new.ensures.items,
      c.new-2.ensures.items,
      never,
      c.partition_count-partitions.ensures.value,
      c.new-3.ensures.items,
    ) refl
