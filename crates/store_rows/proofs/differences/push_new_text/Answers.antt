use Rattle.std.proofs.Common.{map, sym, ◌∙◌}
use Rattle.std.specs.Option.{option_map}
use Rattle.std.specs.Rc.{rc_str_bytes}
use Rattle.store_model.specs.Contents.{published_of}
use Rattle.store_model.specs.Entries.{name_number_cmp}
use Rattle.store_rows.specs.RingRows.{published_entry}
use Rattle.store_rows.specs.Inner.Lacking.{is_kept_text, rows_at, text_in, text_entries_of}
use Rattle.store_rows.proofs.Steps.{lacking_none, pushed_one, find_text}
use Rattle.store_rows.proofs.differences.push_new_text.Goals as goal

pub returns-then-has_text : goal.returns-then-has_text
returns-then-has_text c =
    lacking_none name_number_cmp is_kept_text (rows_at text_entries_of c.args.name.now
    (option_map (λ ring. ring.now) c.args.old)) (published_entry c.args.name.now
    (c.args.text.now.0, rc_str_bytes c.args.text.now.1))
    (map published_of c.args.into.now.items) (text_in (option_map (λ ring. ring.now) c.args.old)
    c.args.text.now.0)
    (find_text c.args.name.now (option_map (λ ring. ring.now) c.args.old) c.args.text.now.0)
    (sym c.if-has_text.true ∙ c.has_text.ensures (rc_str_bytes c.args.text.now.1))

pub returns : goal.returns
returns c =
    pushed_one name_number_cmp is_kept_text (rows_at text_entries_of c.args.name.now
    (option_map (λ ring. ring.now) c.args.old)) published_of c.args.into.now.items
    c.push.new.self.items c.in_ok-published_row.field-0 (published_entry c.args.name.now
    (c.args.text.now.0, rc_str_bytes c.args.text.now.1))
    (text_in (option_map (λ ring. ring.now) c.args.old) c.args.text.now.0)
    c.in_ok-push.ensures.items c.in_ok-published_row.ensures (find_text c.args.name.now
    (option_map (λ ring. ring.now) c.args.old) c.args.text.now.0) (sym c.if-has_text.false ∙
    c.has_text.ensures (rc_str_bytes c.args.text.now.1))
