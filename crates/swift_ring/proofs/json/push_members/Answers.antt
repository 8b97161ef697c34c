use Rattle.std.specs.Prelude.{decimal}
use Rattle.ring_words.specs.Texts.{address_text}
use Rattle.swift_ring.specs.Json.{hundredths}
use Rattle.swift_ring.proofs.Written.{members_written}
use Rattle.swift_ring.proofs.json.push_members.Goals as goal

pub returns : goal.returns
returns c =
    let d = c.args.device.now in
    members_written d.row.name (decimal d.id) (address_text d.row.address) (decimal d.row.port)
    (decimal d.row.region) (hundredths d.row.weight) (decimal d.row.zone) _ _ _ _ _ _
    c.in_ok-write.ensures.bytes
    c.in_ok-write-2.ensures.bytes
    c.in_ok-push_str.ensures.bytes
    c.in_ok-push_weight.ensures
    c.in_ok-write-3.ensures.bytes
