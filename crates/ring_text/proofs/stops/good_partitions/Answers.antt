use Rattle.std.proofs.Common.{Vec, ℕ, sym, ◌∙◌, true≢false}
use Rattle.std.specs.declared.alloc.Global.{Global}
use Rattle.ring_text.specs.Inner.Reading.{IsPartitionLine}
use Rattle.ring_text.proofs.Stopped.{found_reads_as, no_partition_there}
use Rattle.ring_text.proofs.stops.good_partitions.Goals as goal

pub returns-then-not-are_devices-clause-stop : goal.returns-then-not-are_devices-clause-stop
returns-then-not-are_devices-clause-stop c = λ within.
    no_partition_there c.args.lines.now c.loop-place.place _ c.args.replicas c.args.devices.now
    c.in-Some.numbers.items within
    (found_reads_as (λ (v : Vec ℕ Global). v.items) (IsPartitionLine c.args.replicas _)
    c.partition_at.result c.in_ok-numbers.field-0 c.in-Some.numbers c.partition_at.ensures
    c.in_ok-numbers.ensures c.in-Some.is)
    (λ seats. true≢false (sym (c.are_devices.ensures (rw c.deref.ensures.value seats)) ∙
    c.if-not-are_devices.true))
