use Rattle.std.proofs.Common.{map, ap, ◌∙◌, ◌++◌, List}
use Rattle.ring_model.specs.Ring.{RingRecord}
use Rattle.store_model.specs.Contents.{part_of}
use Rattle.store_model.specs.Entries as rows
use Rattle.store_model.specs.Entries.{NameNumber, name_number_cmp}
use Rattle.store_rows.specs.Differences.{is_same_part}
use Rattle.store_rows.specs.RingRows.{part_entries_of}
use Rattle.store_rows.proofs.Steps.{lacking_nothing, seen_step}
use Rattle.store_rows.proofs.all_rows.part_rows.Goals as goal

pub loop-entry-preserved : goal.loop-entry-preserved
loop-entry-preserved c =
    let name = c.entry-item.result.0 in
    let all = λ (es : List (NameNumber × rows.Part)). map part_of c.loop-entry.rows.items ++ es in
    seen_step part_entries_of c.list-entry-items.result.now c.loop-entry.entry-index
    c.entry-item.result c.loop-entry-test.true c.entry-item.is
    (map part_of c.loop-entry.rows.items) (map part_of c.push_parts.new.into.items)
    c.loop-entry.invariant
    (c.in_ok-push_parts.ensures
    ∙ ap all (lacking_nothing name_number_cmp is_same_part (part_entries_of
    (name, c.as_ref.result.now)))
    ∙ ap (λ (r : RingRecord). all (part_entries_of (name, r))) c.as_ref.ensures)
