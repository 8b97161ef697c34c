use Rattle.std.proofs.Common.{◌∙◌, All, Err, List, ℕ, ap, subst}
use Rattle.std.specs.declared.rc.Rc.{Rc}
use Rattle.std.specs.declared.alloc.Global.{Global}
use Rattle.std.proofs.lemmas.List.Elements.{All-more}
use Rattle.std.proofs.lemmas.Result.{err_from_is_err_and}
use Rattle.ring_words.specs.Spelling.{Reads}
use Rattle.ring_model.specs.Ring.{RingRecord}
use Rattle.ring_model.specs.declared.ring.Ring.{Ring}
use Rattle.store_rows.specs.OwnTexts.{HavePublishedOwn, IsOwnText, PublishedOwn}
use Rattle.store_rows.proofs.OwnTexts.{none_bad, one_bad}
use Rattle.store_rows.proofs.texts.judge_texts.Goals as goal

abbrev told : List ℕ × Rc Ring Global → List ℕ × RingRecord
told e = (e.0, e.1.value)

pub loop-entry-preserved : goal.loop-entry-preserved
loop-entry-preserved c =
    let name = c.entry-item.result.0 in
    let texts = c.published_list.ensures ∙ ap (λ (r : RingRecord). r.published) c.as_ref.ensures in
    All-more (λ e. PublishedOwn (told e)) c.list-entry-items.result.now c.loop-entry.entry-index
    c.entry-item.result c.loop-entry-test.true c.loop-entry.invariant
    (subst (λ e. PublishedOwn (told e)) c.entry-item.is
    (subst (All (IsOwnText name)) texts c.in_ok-judge_texts_of.ensures))

pub returns : goal.returns
returns c = subst HavePublishedOwn c.list-entry-items.ensures.value
    (none_bad PublishedOwn told c.list-entry-items.result.now c.loop-entry.entry-index
    c.loop-entry-test.false c.loop-entry.invariant)

pub returns-in_err-judge_texts_of : goal.returns-in_err-judge_texts_of
returns-in_err-judge_texts_of c =
    let p = err_from_is_err_and c.from_residual.result c.from_residual.ensures.1 in
    let name = c.entry-item.result.0 in
    let texts = c.published_list.ensures ∙ ap (λ (r : RingRecord). r.published) c.as_ref.ensures in
    let fault = c.in_err-judge_texts_of.field-0.0 in
    let bad = subst (λ ts. Reads {X = Unit {0}} (λ _. All (IsOwnText name) ts) (Err fault)) texts
    c.in_err-judge_texts_of.ensures in
    rw (p.1, p.2) (subst (λ rings. Reads {X = Unit {0}} (λ _. HavePublishedOwn rings) (Err fault))
    c.list-entry-items.ensures.value
    (one_bad PublishedOwn told c.list-entry-items.result.now c.loop-entry.entry-index
    c.entry-item.result fault c.loop-entry-test.true c.entry-item.is
    bad))
