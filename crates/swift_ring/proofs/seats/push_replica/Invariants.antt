use Rattle.std.proofs.Common.{◌≡◌, ◌++◌}
use Rattle.swift_ring.specs.SwiftFile.{replica_bytes}
use Rattle.swift_ring.proofs.seats.push_replica.Given as goal

abbrev pub invariant-loop-partition : goal.invariant-loop-partition
invariant-loop-partition l = l.bytes.items ≡ l.initial.bytes.items ++
    replica_bytes l.partition l.replicas l.seats l.replica
