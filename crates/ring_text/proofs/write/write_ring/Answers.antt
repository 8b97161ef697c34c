use Rattle.std.proofs.Common.{◌∙◌}
use Rattle.ring_text.proofs.Written.{text_written}
use Rattle.ring_text.proofs.write.write_ring.Goals as goal

pub returns : goal.returns
returns c =
    let replicas = c.from-replicas.ensures ∙ c.get.ensures.value ∙ c.replicas.ensures in
    text_written _ _ _ _ _ c.args.snapshot.now
    (rw c.new-text.ensures.bytes at c.in_ok-push_head.ensures)
    (rw c.devices.ensures.value at c.in_ok-push_devices.ensures)
    c.in_ok-push_str.ensures.bytes
    (rw (
      c.partition_count-partitions.ensures.value,
      c.power.ensures,
      replicas,
      c.seats.ensures.value,
    ) at c.in_ok-push_partitions.ensures)
    c.in_ok-push_str-2.ensures.bytes
