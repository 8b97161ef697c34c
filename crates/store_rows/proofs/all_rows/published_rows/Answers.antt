use Rattle.std.proofs.Common.{map, ap, ◌∙◌, ◌++◌, List, ℕ}
use Rattle.ring_model.specs.Ring.{RingRecord}
use Rattle.store_model.specs.Contents.{published_of}
use Rattle.store_model.specs.Entries.{NameNumber, name_number_cmp}
use Rattle.store_rows.specs.Differences.{is_same_text}
use Rattle.store_rows.specs.Inner.Lacking.{text_entries_of}
use Rattle.store_rows.proofs.Steps.{lacking_nothing, seen_step}
use Rattle.store_rows.proofs.all_rows.published_rows.Goals as goal

pub loop-entry-preserved : goal.loop-entry-preserved
loop-entry-preserved c =
    let name = c.entry-item.result.0 in
    let all = λ (es : List (NameNumber × List ℕ)). map published_of c.loop-entry.rows.items ++ es in
    seen_step text_entries_of c.list-entry-items.result.now c.loop-entry.entry-index
    c.entry-item.result c.loop-entry-test.true c.entry-item.is
    (map published_of c.loop-entry.rows.items) (map published_of c.push_texts.new.into.items)
    c.loop-entry.invariant
    (c.in_ok-push_texts.ensures tt
    ∙ ap all (lacking_nothing name_number_cmp is_same_text (text_entries_of
    (name, c.as_ref.result.now)))
    ∙ ap (λ (r : RingRecord). all (text_entries_of (name, r))) c.as_ref.ensures)
