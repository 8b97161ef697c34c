use Rattle.std.proofs.Common.{◌∙◌, ap}
use Rattle.ring_reads.specs.Inner.Lists.{told_tokens}
use Rattle.ring_reads.proofs.Listing.{told_all}
use Rattle.ring_reads.proofs.RingData.{version_data, versions_of}
use Rattle.ring_reads.proofs.whole_ring.write_versions.Goals as goal

pub returns : goal.returns
returns c =
    let published = c.published_list-published.result.now in
    record {
      adds = (
        told_all version_data published version_data _ c.loop-text.text-index
            c.args.writer.now.tokens _ c.loop-text-test.false
            (versions_of published ∙ ap (told_tokens version_data) c.published_list-published.ensures)
            c.loop-text.invariant.0,
        c.loop-text.invariant.1,
      );
    }
