use Rattle.std.proofs.Common.{◌≡◌, ◌++◌}
use Rattle.std.specs.List.{flat_map, range_with_len}
use Rattle.swift_ring.specs.SwiftFile.{replica_bytes}
use Rattle.swift_ring.proofs.seats.push_seats.Given as goal

abbrev pub invariant-loop-replica : goal.invariant-loop-replica
invariant-loop-replica l = l.bytes.items ≡ l.initial.bytes.items ++
    flat_map (replica_bytes l.partitions l.replicas l.seats) (range_with_len 0 l.replica)
