use Rattle.swift_ring.specs.SwiftFile.{replica_bytes}
use Rattle.swift_ring.proofs.Written.{pieces_more}
use Rattle.swift_ring.proofs.seats.push_seats.Goals as goal

pub loop-replica-preserved : goal.loop-replica-preserved
loop-replica-preserved c =
    let a = c.args in
    rw (c.in_ok-push_replica.ensures, c.loop-replica.invariant)
    (pieces_more (replica_bytes a.partitions a.replicas a.seats.now) a.bytes.now.items
    c.loop-replica.replica)
