use Rattle.std.proofs.Common.{subst, sym}
use Rattle.ring_messages.proofs.Putting.{alone}
use Rattle.ring_share.specs.Want.{AreWanted}
use Rattle.ring_reads.specs.RingJson.{ring_data}
use Rattle.ring_reads.proofs.whole_ring.ring_json.Goals as goal

pub returns : goal.returns
returns c =
    let ring = c.args.ring.now in
    let wants = c.deref.result.now in
    let rest = c.rest-rest.result in
    let d = ring_data c.args.name.now ring c.args.hour wants rest in (
      wants,
      subst (AreWanted ring) (sym c.deref.ensures.value) c.in_ok-wants.ensures,
      rest,
      c.rest-rest.ensures,
      c.text_of.ensures d
          (alone d _ _ c.in_ok-writer.ensures.tokens c.in_ok-write_ring.ensures.adds.0),
    )
