use Rattle.std.proofs.Common.{◌≡◌, ◌∙◌, ◌^◌, ℕ, Bool, ap, arith, cond, count_by, sym}
use Rattle.std.specs.List.{range_with_len}
use Rattle.ring_model.specs.Ring.{partition_count}
use Rattle.ring_place.specs.Rebalance.{has_changed}
use Rattle.ring_place.proofs.Rows.IndexRanges.{count_more}
use Rattle.ring_reads.proofs.moves.changed_partitions.Goals as goal
use Rattle.ring_reads.proofs.moves.changed_partitions.Goals.{then-has_changed, else-has_changed}

pub has_changed-requires-clause-after : goal.has_changed-requires-clause-after
has_changed-requires-clause-after c =
    let count : c.partition_count-partition-end.result ≡ partition_count c.args.new.now =
    c.partition_count-partition-end.ensures.value
    ∙ ap (λ (n : ℕ). 2 ^ n) (c.power.ensures.value ∙ sym c.requires.power) in
    omega (arith, count)

pub loop-partition-preserved : goal.loop-partition-preserved
loop-partition-preserved c =
    let test : ℕ → Bool = has_changed c.args.old.now c.args.new.now in
    let partition = c.loop-partition.partition in
    let so_far = c.loop-partition.invariant.changed in
    let more = count_more test partition in
    elim c.if-has_changed.branch [
      | then-has_changed w ↦
          let one : ◌≡◌ {A = ℕ} (cond (test partition) 1 0) 1 =
          ap (λ (b : Bool). cond b 1 0) (sym c.has_changed.ensures ∙ w.if-has_changed.true) in
          record {
            changed = omega (arith, more, one, w.changed-is, so_far);
            few = omega arith;
          }
      | else-has_changed w ↦
          let none : ◌≡◌ {A = ℕ} (cond (test partition) 1 0) 0 =
          ap (λ (b : Bool). cond b 1 0) (sym c.has_changed.ensures ∙ w.if-has_changed.false) in
          record {
            changed = omega (arith, more, none, w.changed-is, so_far);
            few = omega arith;
          }
    ]

pub returns : goal.returns
returns c =
    let count : c.partition_count-partition-end.result ≡ partition_count c.args.old.now =
    c.partition_count-partition-end.ensures.value ∙ ap (λ (n : ℕ). 2 ^ n) c.power.ensures.value in
    let all : c.loop-partition.partition ≡ partition_count c.args.old.now = omega (arith, count) in
    c.loop-partition.invariant.changed
    ∙ ap (λ (n : ℕ). count_by (has_changed c.args.old.now c.args.new.now) (range_with_len 0 n)) all
