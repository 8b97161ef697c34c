use Rattle.std.proofs.Common.{refl, [], ◌∷◌, ◌++◌, ◌∙◌, arith, subst, sym}
use Rattle.std.proofs.lemmas.List.{take_all}
use Rattle.std.proofs.lemmas.Result.{err_from_is_err_and}
use Rattle.store_rows.specs.Inner.Books.{IsSaid, SaysRequest}
use Rattle.store_rows.proofs.BookGains.{last-more}
use Rattle.store_rows.proofs.BookOpens.{said_at, same_hour, spells_likewise}
use Rattle.store_rows.proofs.BookRows.{none_said, said_more}
use Rattle.store_rows.proofs.Used.{bounds_more, bounds_none}
use Rattle.store_rows.proofs.books.judge_in_order.Goals as goal

pub loop-place-init : goal.loop-place-init
loop-place-init c = ([], none_said, refl, bounds_none c.new-callers.result)

pub loop-place-preserved : goal.loop-place-preserved
loop-place-preserved c =
    let inv = c.loop-place.invariant in
    let e = c.in_ok-entry.entry in (
      inv.0 ++ e ∷ [],
      said_more c.args.rows.now c.loop-place.place c.index-rows-place.result inv.0 e
          c.loop-place.hour c.loop-place-test.true c.index-rows-place.is inv.1 inv.2
          c.if-entry-hour.false c.in_ok-entry.ensures,
      last-more 0 inv.0 e,
      bounds_more c.loop-place.callers c.note.new.self inv.0 e c.in_ok-note.ensures.ok inv.3,
    )

pub returns : goal.returns
returns c = (
  c.loop-place.invariant.0,
  subst (λ rs. IsSaid rs c.loop-place.invariant.0)
      (take_all c.loop-place.place c.args.rows.now (omega arith)) c.loop-place.invariant.1,
  c.loop-place.invariant.2,
  c.loop-place.invariant.3,
)

pub returns-in_err-entry : goal.returns-in_err-entry
returns-in_err-entry c =
    let inv = c.loop-place.invariant in
    let p = err_from_is_err_and c.from_residual.result c.from_residual.ensures.1 in
    rw (p.1, p.2) (spells_likewise (SaysRequest c.loop-place.place c.index-rows-place.result) _
    c.in_err-entry.field-0.0 c.in_err-entry.ensures (λ hour said. let at = said_at c.args.rows.now
    said.0 inv.0 c.loop-place.place c.index-rows-place.result said.1 inv.1 c.loop-place-test.true
    c.index-rows-place.is in (at.0, at.1)))

pub returns-then-entry-hour : goal.returns-then-entry-hour
returns-then-entry-hour c = λ hour said.
    let inv = c.loop-place.invariant in
    let e = c.in_ok-entry.entry in
    let at = said_at c.args.rows.now said.0 inv.0 c.loop-place.place c.index-rows-place.result said.1
    inv.1 c.loop-place-test.true c.index-rows-place.is in
    let hours = same_hour c.loop-place.place c.loop-place.place e at.0 (sym c.in_ok-entry.ensures.0 ∙
    at.1.0) in
    absurd (omega (arith, hours, inv.2, at.2, c.if-entry-hour.true))
