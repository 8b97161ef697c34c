use Rattle.std.proofs.Common.{◌≡◌, ◌∙◌, ℕ, Bool, ap, arith, cond, count_by, sym}
use Rattle.std.specs.List.{range_with_len}
use Rattle.ring_model.specs.Ring.{seat}
use Rattle.ring_place.specs.Rebalance.{differs}
use Rattle.ring_place.proofs.Rows.IndexRanges.{count_more}
use Rattle.ring_reads.proofs.moves.differing_count.Goals as goal
use Rattle.ring_reads.proofs.moves.differing_count.Goals.{then-differ, else-differ}

pub loop-replica-preserved : goal.loop-replica-preserved
loop-replica-preserved c =
    let old = c.args.old.now in
    let partition = c.args.partition in
    let replica = c.loop-replica.replica in
    let test : ℕ → Bool = λ r. differs (seat old partition r) (seat c.args.new.now partition r) in
    let so_far = c.loop-replica.invariant.differing in
    let more = count_more test replica in
    let is : c.differ.result ≡ test replica = c.differ.ensures
    ∙ ap (λ before. differs before c.seat-to.result) c.seat-from.ensures
    ∙ ap (differs (seat old partition replica)) c.seat-to.ensures in
    elim c.if-differ.branch [
      | then-differ w ↦
          let one : ◌≡◌ {A = ℕ} (cond (test replica) 1 0) 1 =
          ap (λ (b : Bool). cond b 1 0) (sym is ∙ w.if-differ.true) in
          record {
            differing = omega (arith, more, one, w.differing-is, so_far);
            few = omega arith;
          }
      | else-differ w ↦
          let none : ◌≡◌ {A = ℕ} (cond (test replica) 1 0) 0 =
          ap (λ (b : Bool). cond b 1 0) (sym is ∙ w.if-differ.false) in
          record {
            differing = omega (arith, more, none, w.differing-is, so_far);
            few = omega arith;
          }
    ]

pub returns : goal.returns
returns c =
    let all : c.loop-replica.replica ≡ c.args.old.now.replicas =
    omega (arith, c.replicas.ensures.value, c.get-replica-end.ensures.value) in
    c.loop-replica.invariant.differing
    ∙ ap (λ (n : ℕ). count_by (λ replica. differs (seat c.args.old.now c.args.partition replica)
    (seat c.args.new.now c.args.partition replica)) (range_with_len 0 n)) all
