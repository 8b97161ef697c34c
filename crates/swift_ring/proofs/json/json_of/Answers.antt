use Rattle.std.proofs.Common.{◌-◌}
use Rattle.std.specs.Prelude.{decimal}
use Rattle.swift_ring.specs.SwiftFile.{entries}
use Rattle.swift_ring.proofs.Written.{json_written}
use Rattle.swift_ring.proofs.json.json_of.Goals as goal

pub returns : goal.returns
returns c =
    let s = c.args.snapshot.now in
    json_written (entries s.devices) (decimal (32 - s.power)) (decimal s.replicas)
    (decimal s.version) _ _ _
    (rw c.new-text.ensures.bytes at c.in_ok-push_str.ensures.bytes)
    (rw c.devices.ensures.value at c.in_ok-push_entries.ensures)
    (rw (c.get.ensures.value, c.power.ensures, c.replicas.ensures, c.version.ensures)
    at c.in_ok-write.ensures.bytes)
