use Rattle.std.proofs.Common.{◌∙◌, ap}
use Rattle.ring_reads.specs.Inner.Lists.{told_tokens}
use Rattle.ring_reads.specs.StoreJson.{listed_data}
use Rattle.ring_reads.proofs.Listing.{told_all}
use Rattle.ring_reads.proofs.StoreData.{shared_data, told_seen}
use Rattle.ring_reads.proofs.whole_store.write_each_ring.Goals as goal

pub returns : goal.returns
returns c =
    let entries = c.list-entries.result.now in
    record {
      adds = (
        told_all shared_data entries listed_data _ c.loop-entry.entry-index c.args.writer.now.tokens
            _ c.loop-entry-test.false
            (told_seen entries ∙ ap (told_tokens listed_data) c.list-entries.ensures.value)
            c.loop-entry.invariant.0,
        c.loop-entry.invariant.1,
      );
    }
