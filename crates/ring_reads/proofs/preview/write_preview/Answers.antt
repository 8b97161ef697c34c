use Rattle.std.proofs.Common.{ap}
use Rattle.ring_messages.proofs.Putting.{same_data}
use Rattle.ring_model.specs.Ring.{RingRecord}
use Rattle.ring_reads.proofs.Listing.{one_list}
use Rattle.ring_reads.proofs.preview.write_preview.Goals as goal

pub end_preview-requires-clause-power : goal.end_preview-requires-clause-power
end_preview-requires-clause-power c =
    ap (λ (ring : RingRecord). ring.power) c.requires.rebalance.after.rest

pub end_preview-requires-clause-replicas : goal.end_preview-requires-clause-replicas
end_preview-requires-clause-replicas c =
    ap (λ (ring : RingRecord). ring.replicas) c.requires.rebalance.after.rest

pub returns : goal.returns
returns c =
    same_data
    (one_list c.in_ok-begin_list.ensures c.in_ok-write_moving_devices.ensures
    c.end_preview.ensures)
    (rw (c.balance.ensures, c.requires.changed))
