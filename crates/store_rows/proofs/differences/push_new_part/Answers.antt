use Rattle.std.proofs.Common.{map, sym, ◌∙◌, None, slice_index_or}
use Rattle.std.specs.Option.{option_map}
use Rattle.store_model.specs.Contents.{part_of}
use Rattle.store_model.specs.Entries.{name_number_cmp}
use Rattle.store_rows.specs.Differences.{is_same_part}
use Rattle.store_rows.specs.RingRows.{part_entry, part_entries_of}
use Rattle.store_rows.specs.Inner.Lacking.{rows_at, part_in}
use Rattle.store_rows.proofs.Steps.{lacking_none, pushed_one, find_part}
use Rattle.store_rows.proofs.differences.push_new_part.Goals as goal

pub returns-then-has_part : goal.returns-then-has_part
returns-then-has_part c =
    lacking_none name_number_cmp is_same_part (rows_at part_entries_of c.args.name.now
    (option_map (λ ring. ring.now) c.args.old)) (part_entry c.args.name.now
    c.args.ring.now.replicas c.args.ring.now.seats (
      c.args.partition,
      slice_index_or c.args.ring.now.moved c.args.partition None,
    ))
    (map part_of c.args.into.now.items) (part_in (option_map (λ ring. ring.now) c.args.old)
    c.args.partition)
    (find_part c.args.name.now (option_map (λ ring. ring.now) c.args.old) c.args.partition)
    (sym c.if-has_part.true ∙ c.has_part.ensures)

pub returns : goal.returns
returns c =
    pushed_one name_number_cmp is_same_part (rows_at part_entries_of c.args.name.now
    (option_map (λ ring. ring.now) c.args.old)) part_of c.args.into.now.items
    c.push.new.self.items c.in_ok-part_row.field-0 (part_entry c.args.name.now
    c.args.ring.now.replicas c.args.ring.now.seats (
      c.args.partition,
      slice_index_or c.args.ring.now.moved c.args.partition None,
    ))
    (part_in (option_map (λ ring. ring.now) c.args.old) c.args.partition)
    c.in_ok-push.ensures.items c.in_ok-part_row.ensures (find_part c.args.name.now
    (option_map (λ ring. ring.now) c.args.old) c.args.partition) (sym c.if-has_part.false ∙
    c.has_part.ensures)
