use Rattle.std.proofs.Common.{◌≤◌, drop, length}
use Rattle.ring_text.specs.Inner.Reading.{HasPartitions}
use Rattle.ring_text.proofs.partition.seats_of.Given as goal

abbrev pub invariant-loop-partition : goal.invariant-loop-partition
invariant-loop-partition l = record {
  lines : HasPartitions l._partition l.replicas l.text l.seats.items (drop l.place l.text);
  within : l.place ≤ length l.text;
}
