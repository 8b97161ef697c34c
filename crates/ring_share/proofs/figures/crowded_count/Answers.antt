use Rattle.std.proofs.Common.{◌≡◌, ◌^◌, ℕ, List, ap, count_by, map, Some, sym, ◌∙◌, arith}
use Rattle.ring_words.specs.declared.device.Device.{Device}
use Rattle.ring_model.specs.Ring.{partition_count}
use Rattle.ring_share.specs.Crowd.{row_of}
use Rattle.ring_share.specs.Figures.{has_crowded}
use Rattle.ring_share.proofs.Rows.{rows_more_yes, rows_more_no, all_rows}
use Rattle.ring_share.proofs.figures.crowded_count.Goals as goal
use Rattle.ring_share.proofs.figures.crowded_count.Goals.{then-has_crowded, else-has_crowded}

pub returns-then-all_stand_apart-clause-value : goal.returns-then-all_stand_apart-clause-value
returns-then-all_stand_apart-clause-value c =
    sym (c.all_stand_apart.ensures c.if-all_stand_apart.true)

pub loop-partition-preserved : goal.loop-partition-preserved
loop-partition-preserved c =
    let p = c.loop-partition.partition in
    let count : c.partition_count-partition-end.result ≡ partition_count c.args.ring.now =
    c.partition_count-partition-end.ensures.value ∙ ap (λ (n : ℕ). 2 ^ n) c.power.ensures.value in
    let is : c.has_crowded.result ≡ has_crowded c.args.ring.now.devices (row_of c.args.ring.now p) =
    c.has_crowded.ensures
    ∙ ap (λ (devices : List Device). has_crowded devices (map Some c.row_in-row.result.now))
    c.devices-devices.ensures.value
    ∙ ap (has_crowded c.args.ring.now.devices) c.row_in-row.ensures.row in
    elim c.if-has_crowded.branch [
      | then-has_crowded w ↦
          let more = rows_more_yes (has_crowded c.args.ring.now.devices) c.args.ring.now p
          (omega (arith, count)) (sym is ∙ w.if-has_crowded.true) in
          record {
            crowded = omega (arith, more, w.crowded-is, c.loop-partition.invariant.crowded);
            few = omega arith;
          }
      | else-has_crowded w ↦
          let more = rows_more_no (has_crowded c.args.ring.now.devices) c.args.ring.now p
          (omega (arith, count)) (sym is ∙ w.if-has_crowded.false) in
          record {
            crowded = omega (arith, more, w.crowded-is, c.loop-partition.invariant.crowded);
            few = omega arith;
          }
    ]

pub returns-clause-value : goal.returns-clause-value
returns-clause-value c =
    let count : c.partition_count-partition-end.result ≡ partition_count c.args.ring.now =
    c.partition_count-partition-end.ensures.value ∙ ap (λ (n : ℕ). 2 ^ n) c.power.ensures.value in
    c.loop-partition.invariant.crowded ∙ ap (count_by (has_crowded c.args.ring.now.devices))
    (all_rows c.args.ring.now c.loop-partition.partition (omega (arith, count)))
