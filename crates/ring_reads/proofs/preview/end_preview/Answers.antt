use Rattle.ring_reads.proofs.Listing.{same_end}
use Rattle.ring_reads.proofs.preview.end_preview.Goals as goal

pub returns : goal.returns
returns c = same_end c.end_list.ensures
    (rw (c.dispersion.ensures, c.locked_count.ensures, c.changed_partitions.ensures, c.as_str.ensures.text, c.version.ensures))
