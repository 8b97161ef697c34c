use Rattle.std.proofs.Common.{map, pos, ap, sym, ◌∙◌}
use Rattle.store_model.specs.Contents.{device_of}
use Rattle.store_model.specs.Entries.{name_cmp, name_number_cmp}
use Rattle.store_rows.specs.Differences.{is_same_device, is_same_part, is_same_ring, is_same_text}
use Rattle.store_rows.specs.Inner.Written.{parts_from}
use Rattle.store_rows.specs.RingRows.{device_entries, part_entries, published_entries}
use Rattle.store_rows.specs.RingRows.{ring_entries}
use Rattle.store_rows.proofs.NewParts.{new_of_all}
use Rattle.store_rows.proofs.Steps.{lacking_nothing}
use Rattle.store_rows.proofs.written.WrittenRows.of_all.Goals as goal

pub returns : goal.returns
returns c =
    let rings = c.args.rings.now in
    record {
      dropped = ap (map device_of) c.new.ensures.items;
      rings = c.in_ok-ring_rows.ensures ∙ sym (lacking_nothing name_cmp is_same_ring
          (ring_entries rings));
      devices = c.in_ok-device_rows.ensures ∙ sym (lacking_nothing name_number_cmp is_same_device
          (device_entries rings));
      parts = c.in_ok-part_rows.ensures ∙ sym (lacking_nothing name_number_cmp is_same_part
          (part_entries rings));
      added = ap (parts_from (pos 0)) c.in_ok-part_rows.ensures ∙ new_of_all rings;
      texts = c.in_ok-published_rows.ensures ∙ sym (lacking_nothing name_number_cmp is_same_text
          (published_entries rings));
    }
