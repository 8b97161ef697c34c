use Rattle.std.proofs.Common.{◌≡◌, ◌^◌, ℕ, List, Some, ap, count_by, map, sym, ◌∙◌, arith, false}
use Rattle.ring_words.specs.declared.device.Device.{Device}
use Rattle.ring_model.specs.Ring.{partition_count}
use Rattle.ring_share.specs.Crowd.{row_of}
use Rattle.ring_share.specs.Figures.{has_crowded}
use Rattle.ring_share.proofs.Rows.{rows_more_no, all_rows}
use Rattle.ring_share.proofs.figures.all_stand_apart.Goals as goal

pub loop-partition-preserved : goal.loop-partition-preserved
loop-partition-preserved c =
    let p = c.loop-partition.partition in
    let count : c.partition_count-partition-end.result ≡ partition_count c.args.ring.now =
    c.partition_count-partition-end.ensures.value ∙ ap (λ (n : ℕ). 2 ^ n) c.power.ensures.value in
    let none : has_crowded c.args.ring.now.devices (row_of c.args.ring.now p) ≡ false =
    ap (has_crowded c.args.ring.now.devices) (sym c.row_in-row.ensures.row)
    ∙ ap (λ (devices : List Device). has_crowded devices (map Some c.row_in-row.result.now))
    (sym c.devices.ensures.value)
    ∙ c.stand_apart.ensures c.if-not-stand_apart.false in
    rows_more_no (has_crowded c.args.ring.now.devices) c.args.ring.now p (omega (arith, count)) none
    ∙ c.loop-partition.invariant

pub returns : goal.returns
returns c apart =
    let count : c.partition_count-partition-end.result ≡ partition_count c.args.ring.now =
    c.partition_count-partition-end.ensures.value ∙ ap (λ (n : ℕ). 2 ^ n) c.power.ensures.value in
    ap (count_by (has_crowded c.args.ring.now.devices)) (sym (all_rows c.args.ring.now
    c.loop-partition.partition (omega (arith, count)))) ∙ c.loop-partition.invariant
