use Rattle.std.proofs.Common.{map, ap, ◌∙◌, ◌++◌, ◌∷◌, [], ℕ}
use Rattle.std.specs.Option.{option_map}
use Rattle.std.specs.Rc.{rc_str_bytes}
use Rattle.std.specs.declared.rc.RcStr.{RcStr}
use Rattle.std.specs.declared.alloc.Global.{Global}
use Rattle.store_model.specs.Contents.{published_of}
use Rattle.store_model.specs.Entries.{name_number_cmp}
use Rattle.store_rows.specs.RingRows.{published_entry}
use Rattle.store_rows.specs.Inner.Lacking.{is_kept_text, lacking, rows_at, text_entries_of}
use Rattle.std.proofs.lemmas.List.{take_all}
use Rattle.store_rows.proofs.Steps.{step_more, entries_more, texts_are}
use Rattle.store_rows.proofs.KeptTexts.{adds_no_text, new_versions}
use Rattle.store_rows.proofs.differences.push_texts.Goals as goal

pub loop-text-preserved : goal.loop-text-preserved
loop-text-preserved c =
    let old = rows_at text_entries_of c.args.name.now (option_map (λ ring. ring.now) c.args.old) in
    step_more {X = ℕ × RcStr Global} (λ ts. lacking name_number_cmp is_kept_text old
    (map (λ (t : ℕ × RcStr Global). published_entry c.args.name.now (t.0, rc_str_bytes t.1))
    ts))
    (λ t. lacking name_number_cmp is_kept_text old (published_entry c.args.name.now (
      t.0,
      rc_str_bytes t.1,
    ) ∷ []))
    (entries_more name_number_cmp is_kept_text old (λ (t : ℕ × RcStr Global). published_entry
    c.args.name.now (t.0, rc_str_bytes t.1)))
    c.published_list-text-items.result.now c.loop-text.text-index c.text-item.result
    c.loop-text-test.true c.text-item.is
    (map published_of c.args.into.now.items) (map published_of c.loop-text.into.items)
    (map published_of c.push_new_text.new.into.items) c.loop-text.invariant
    c.in_ok-push_new_text.ensures

pub returns : goal.returns
returns c = λ succeeds.
    let n = c.args.name.now in
    let before = option_map (λ ring. ring.now) c.args.old in
    let old = rows_at text_entries_of n before in
    let items = c.published_list-text-items.result.now in
    c.loop-text.invariant
    ∙ ap (λ ts. map published_of c.args.into.now.items ++ lacking name_number_cmp is_kept_text old
    (map (λ (t : ℕ × RcStr Global). published_entry n (t.0, rc_str_bytes t.1)) ts))
    (take_all c.loop-text.text-index items c.loop-text-test.false)
    ∙ ap (λ es. map published_of c.args.into.now.items ++ lacking name_number_cmp is_kept_text old
    es) (texts_are n items ∙ ap (map (published_entry n)) c.published_list-text-items.ensures)
    ∙ ap (λ es. map published_of c.args.into.now.items ++ es) (new_versions n before
    c.args.ring.now succeeds)

pub returns-then-has_as_many_texts : goal.returns-then-has_as_many_texts
returns-then-has_as_many_texts c = λ succeeds.
    adds_no_text (map published_of c.args.into.now.items) c.args.name.now
    (option_map (λ ring. ring.now) c.args.old) c.args.ring.now succeeds
    (c.has_as_many_texts.ensures c.if-has_as_many_texts.true)
