use Rattle.std.proofs.Common.{List, ℕ, subst}
use Rattle.std.specs.Rc.{rc_str_bytes}
use Rattle.std.specs.declared.rc.RcStr.{RcStr}
use Rattle.std.specs.declared.alloc.Global.{Global}
use Rattle.std.proofs.lemmas.List.Elements.{All-more}
use Rattle.std.proofs.lemmas.Result.{err_from_is_err_and}
use Rattle.store_rows.specs.OwnTexts.{IsOwnText}
use Rattle.store_rows.proofs.OwnTexts.{none_bad, one_bad}
use Rattle.store_rows.proofs.texts.judge_texts_of.Goals as goal

abbrev told : ℕ × RcStr Global → ℕ × List ℕ
told e = (e.0, rc_str_bytes e.1)

pub loop-entry-preserved : goal.loop-entry-preserved
loop-entry-preserved c = All-more (λ e. IsOwnText c.args.name.now (told e)) c.args.published.now
    c.loop-entry.entry-index c.entry-item.result c.loop-entry-test.true c.loop-entry.invariant
    (subst (λ e. IsOwnText c.args.name.now (told e)) c.entry-item.is c.in_ok-judge_text.ensures)

pub returns : goal.returns
returns c = none_bad (IsOwnText c.args.name.now) told c.args.published.now c.loop-entry.entry-index
    c.loop-entry-test.false c.loop-entry.invariant

pub returns-in_err-judge_text : goal.returns-in_err-judge_text
returns-in_err-judge_text c =
    let p = err_from_is_err_and c.from_residual.result c.from_residual.ensures.1 in
    rw (p.1, p.2) (one_bad (IsOwnText c.args.name.now) told c.args.published.now
    c.loop-entry.entry-index c.entry-item.result c.in_err-judge_text.field-0.0
    c.loop-entry-test.true c.entry-item.is c.in_err-judge_text.ensures)
