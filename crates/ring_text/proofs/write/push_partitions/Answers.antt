use Rattle.std.proofs.Common.{arith}
use Rattle.std.proofs.lemmas.List.{flat_map_more}
use Rattle.std.specs.List.{range_with_len}
use Rattle.std.proofs.Common.{map}
use Rattle.std.proofs.lemmas.List.FromFn.{map-range_with_len_more}
use Rattle.ring_text.specs.Spelling.{line, partition_line}
use Rattle.ring_text.proofs.write.push_partitions.Goals as goal

pub loop-partition-preserved : goal.loop-partition-preserved
loop-partition-preserved c =
    let row = partition_line c.args.replicas c.args.seats.now in
    let partition = c.loop-partition.partition in
    rw (
      map-range_with_len_more row 0 partition partition (omega arith),
      c.in_ok-push_partition.ensures,
      c.loop-partition.invariant,
    )
    (flat_map_more line _ (map row (range_with_len 0 partition)) (row partition))
