use Rattle.std.proofs.Common.{◌≡◌, ◌∙◌, ◌^◌, ℕ, Bool, ap, arith, cond, count_by, length}
use Rattle.std.specs.Prelude.{nat_lt}
use Rattle.std.specs.List.{flat_map, range_with_len}
use Rattle.ring_place.proofs.Rows.IndexRanges.{count_more}
use Rattle.ring_reads.specs.SeatMoves.{moved_partitions, partition_moves, seat_moves}
use Rattle.ring_reads.proofs.SeatMoving.{has_grown, has_stayed, parts_more}
use Rattle.ring_reads.proofs.seat_moves.moves_between.Goals as goal
use Rattle.ring_reads.proofs.seat_moves.moves_between.Goals.{else-len-before, then-len-before}

pub loop-partition-preserved : goal.loop-partition-preserved
loop-partition-preserved c =
    let old = c.args.old.now in
    let new = c.args.new.now in
    let power = c.common_power-power.result in
    let partition = c.loop-partition.partition in
    let start = c.loop-partition.list.items in
    let all = c.push_moves.new.into.items in
    let more = partition_moves old new power partition in
    let test : ℕ → Bool = λ p. nat_lt 0 (length (partition_moves old new power p)) in
    let so_far = c.loop-partition.invariant.partitions in
    let counted = count_more test partition in
    let was : c.len-before.result ≡ length start = omega arith in
    let is : c.len.result ≡ length all = omega arith in
    let list = parts_more (partition_moves old new power) partition start all
    c.loop-partition.invariant.list c.in_ok-push_moves.ensures in
    elim c.if-len-before.branch [
      | then-len-before w ↦
          let one : ◌≡◌ {A = ℕ} (cond (test partition) 1 0) 1 = ap (λ (b : Bool). cond b 1 0)
          (has_grown start more all c.len-before.result c.len.result was is
          c.in_ok-push_moves.ensures w.if-len-before.true) in
          record {
            list = list;
            partitions = omega (arith, counted, one, w.partitions-is, so_far);
            few = omega arith;
          }
      | else-len-before w ↦
          let none : ◌≡◌ {A = ℕ} (cond (test partition) 1 0) 0 = ap (λ (b : Bool). cond b 1 0)
          (has_stayed start more all c.len-before.result c.len.result was is
          c.in_ok-push_moves.ensures w.if-len-before.false) in
          record {
            list = list;
            partitions = omega (arith, counted, none, w.partitions-is, so_far);
            few = omega arith;
          }
    ]

pub returns-clause-list : goal.returns-clause-list
unfolding seat_moves
returns-clause-list c =
    let old = c.args.old.now in
    let new = c.args.new.now in
    let all : c.loop-partition.partition ≡ 2 ^ c.common_power-power.result =
    omega (arith, c.partition_count-partition-end.ensures.value) in
    c.loop-partition.invariant.list
    ∙ ap (λ (n : ℕ). flat_map (partition_moves old new c.common_power-power.result)
    (range_with_len 0 n)) all
    ∙ ap (λ (power : ℕ). flat_map (partition_moves old new power) (range_with_len 0 (2 ^ power)))
    c.common_power-power.ensures

pub returns-clause-partitions : goal.returns-clause-partitions
unfolding moved_partitions
returns-clause-partitions c =
    let old = c.args.old.now in
    let new = c.args.new.now in
    let all : c.loop-partition.partition ≡ 2 ^ c.common_power-power.result =
    omega (arith, c.partition_count-partition-end.ensures.value) in
    c.loop-partition.invariant.partitions
    ∙ ap (λ (n : ℕ). count_by (λ partition. nat_lt 0 (length (partition_moves old new
    c.common_power-power.result partition))) (range_with_len 0 n)) all
    ∙ ap (λ (power : ℕ). count_by (λ partition. nat_lt 0 (length (partition_moves old new power
    partition))) (range_with_len 0 (2 ^ power))) c.common_power-power.ensures
