use Rattle.swift_ring.specs.SwiftFile.{seat_bytes}
use Rattle.swift_ring.proofs.Written.{pieces_more}
use Rattle.swift_ring.proofs.seats.push_replica.Goals as goal

pub loop-partition-preserved : goal.loop-partition-preserved
loop-partition-preserved c =
    let a = c.args in
    rw (
      c.in_ok-extend_from_slice.ensures.items,
      c.loop-partition.invariant,
      c.to_le_bytes.ensures,
    )
    (pieces_more (seat_bytes a.replicas a.seats.now a.replica) a.bytes.now.items
    c.loop-partition.partition)
