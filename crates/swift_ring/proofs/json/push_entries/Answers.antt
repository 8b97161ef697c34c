use Rattle.std.specs.Prelude.{string_bytes}
use Rattle.swift_ring.specs.SwiftFile.{number_entry}
use Rattle.swift_ring.proofs.Written.{entries_more}
use Rattle.swift_ring.proofs.json.push_entries.Goals as goal

pub loop-id-preserved : goal.loop-id-preserved
loop-id-preserved c =
    rw (c.in_ok-push_numbered.ensures, c.loop-id.invariant)
    (entries_more (number_entry c.args.devices.now) (string_bytes c.args.text.now) c.loop-id.id)
