use Rattle.std.proofs.Common.{◌≡◌, ◌++◌, ℕ, map, take}
use Rattle.std.specs.Option.{option_map}
use Rattle.std.specs.Rc.{rc_str_bytes}
use Rattle.std.specs.declared.rc.RcStr.{RcStr}
use Rattle.std.specs.declared.alloc.Global.{Global}
use Rattle.store_model.specs.Entries.{name_number_cmp}
use Rattle.store_model.specs.Contents.{published_of}
use Rattle.store_rows.specs.RingRows.{published_entry}
use Rattle.store_rows.specs.Inner.Lacking.{is_kept_text, lacking, rows_at, text_entries_of}
use Rattle.store_rows.proofs.differences.push_texts.Given as goal

abbrev pub invariant-loop-text : goal.invariant-loop-text
invariant-loop-text l = map published_of l.into.items ≡ map published_of l.fn.into.items ++
    lacking name_number_cmp is_kept_text (rows_at text_entries_of l.name
    (option_map (λ ring. ring.now) l.old)) (map (λ (t : ℕ × RcStr Global). published_entry l.name
    (t.0, rc_str_bytes t.1)) (take l.text-index l.text-items))
