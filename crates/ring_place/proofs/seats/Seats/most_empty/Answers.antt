use Rattle.std.proofs.Common.{◌∙◌, ℕ, ◌≤◌, length, max, count_by, ap, below_more, arith}
use Rattle.ring_room.specs.Rows.{is_empty}
use Rattle.ring_room.proofs.Steps.{steps_end, steps_more, steps_none}
use Rattle.ring_place.specs.Made.{more_empty}
use Rattle.ring_place.specs.Made.{row_at}
use Rattle.ring_place.proofs.Rows.SeatRows.{length-rows_in}
use Rattle.ring_place.proofs.seats.Seats.most_empty.Goals as goal

pub loop-partition-init : goal.loop-partition-init
loop-partition-init c = record {
  most = λ p lt. absurd (omega (arith, lt));
  by_name = steps_none (more_empty c.args.self.now) 0;
}

pub row-requires : goal.row-requires
row-requires c =
    let s = c.self.inside in
    let long = ap length c.self.view_is in
    let count = length-rows_in s.seats.items s.partitions s.replicas in
    omega (arith, long, count)

pub loop-partition-preserved : goal.loop-partition-preserved
loop-partition-preserved c =
    let rows = c.args.self.now in
    let n = c.loop-partition.partition in
    let most = c.loop-partition.most in
    let counted = c.count_empty.ensures ∙ ap (count_by is_empty) c.row.ensures in
    let is = c.max-most.ensures in
    record {
      most = below_more (λ p. count_by is_empty (row_at rows p) ≤ c.max-most.result) n
          (λ p lt. let was = c.loop-partition.invariant.most p lt in omega (arith, was, is))
          (omega (arith, counted, is));
      by_name = steps_more (more_empty rows) n 0 most c.max-most.result
          c.loop-partition.invariant.by_name (is ∙ ap (λ (k : ℕ). max k most) counted);
    }

pub returns-clause-most : goal.returns-clause-most
returns-clause-most c p lt =
    let s = c.self.inside in
    let long = ap length c.self.view_is in
    let count = length-rows_in s.seats.items s.partitions s.replicas in
    c.loop-partition.invariant.most p (omega (arith, lt, long, count))

pub returns-clause-by_name : goal.returns-clause-by_name
returns-clause-by_name c =
    let s = c.self.inside in
    let long = ap length c.self.view_is in
    let count = length-rows_in s.seats.items s.partitions s.replicas in
    steps_end (more_empty c.args.self.now) c.loop-partition.partition (length c.args.self.now) 0
    c.loop-partition.most c.loop-partition.invariant.by_name (omega (arith, long, count))
