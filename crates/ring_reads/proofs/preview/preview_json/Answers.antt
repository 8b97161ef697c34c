use Rattle.std.proofs.Common.{subst, sym}
use Rattle.ring_messages.proofs.Putting.{alone}
use Rattle.ring_share.specs.Want.{AreWanted}
use Rattle.ring_reads.specs.Preview.{preview_data}
use Rattle.ring_reads.proofs.preview.preview_json.Goals as goal

pub returns : goal.returns
returns c =
    let ring = c.args.ring.now in
    let new = c.args.done.now.ring in
    let wants = c.deref.result.now in
    let d = preview_data c.args.name.now c.args.hour c.args.seed ring wants new in
    record {
      enough = c.requires.enough;
      new = new;
      seeded = c.requires.seeded;
      tells = (
        wants,
        subst (AreWanted ring) (sym c.deref.ensures.value) c.in_ok-wants.ensures,
        c.text_of.ensures d
            (alone d _ _ c.in_ok-writer.ensures.tokens c.in_ok-write_preview.ensures.adds.0),
      );
    }
