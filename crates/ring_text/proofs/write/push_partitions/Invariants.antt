use Rattle.std.proofs.Common.{◌≡◌, ◌++◌}
use Rattle.std.specs.Prelude.{string_bytes}
use Rattle.std.specs.List.{flat_map}
use Rattle.ring_text.specs.Spelling.{line, partition_lines}
use Rattle.ring_text.proofs.write.push_partitions.Given as goal

abbrev pub invariant-loop-partition : goal.invariant-loop-partition
invariant-loop-partition l = string_bytes l.text ≡ string_bytes l.initial.text ++
    flat_map line (partition_lines l.partition l.replicas l.seats)
