use Rattle.std.proofs.Common.{arith, inl, inr, subst, sym}
use Rattle.sqlite.specs.Held.{state}
use Rattle.sqlite.specs.State.{HasCleanDisk}
use Rattle.builder_store.specs.Keepers.{content_of_keeper}
use Rattle.builder_store.specs.Opening.{AreDeclared, HasBadTexts, IsMadeOf, IsOpenedAs, JudgesTables}
use Rattle.builder_store.proofs.Taking.{met_before}
use Rattle.builder_store.proofs.keeper.SqlKeeper.adopt.Goals as goal

pub returns-in-Ok-over-clause-limit : goal.returns-in-Ok-over-clause-limit
returns-in-Ok-over-clause-limit g c = c.in-Ok-over.ensures.begins.limit

pub returns-in-Ok-over-clause-faults : goal.returns-in-Ok-over-clause-faults
returns-in-Ok-over-clause-faults g c = c.in-Ok-over.ensures.begins.faults

pub returns-in-Ok-over-clause-clean : goal.returns-in-Ok-over-clause-clean
returns-in-Ok-over-clause-clean g c = omega
    (arith, c.in-Ok.ensures.clean, c.in-Ok-over.ensures.begins.clean)

pub returns-in-Ok-over-clause-found : goal.returns-in-Ok-over-clause-found
returns-in-Ok-over-clause-found g c = λ clean.
    let before : HasCleanDisk (state g.S.Store c.in-Ok.conn) = omega
    (arith, c.in-Ok-over.ensures.begins.clean, clean) in
    subst (λ db. IsOpenedAs db (content_of_keeper c.in-Ok-over.keeper)) (c.in-Ok.ensures.same before)
    (c.in-Ok-over.ensures.begins.found clean)

pub returns-in-Err-over-clause-rows : goal.returns-in-Err-over-clause-rows
returns-in-Err-over-clause-rows g c = λ failed clean db left.
    let mid = state g.S.Store c.in-Ok.conn in
    let before : HasCleanDisk mid = omega (arith, c.in-Err-over.ensures.refused.clean, clean) in
    let is = c.in-Err-over.ensures.refused.kept failed clean db left in
    c.in-Ok.ensures.crash before db (subst (λ t. mid.may_leave t) (sym is)
    (g.met.S.Store.stays c.in-Ok.conn.store (c.in-Ok.ensures.fresh before).is_open))

pub returns-in-Err-over-clause-crash : goal.returns-in-Err-over-clause-crash
returns-in-Err-over-clause-crash g c = λ clean db left.
    let mid = state g.S.Store c.in-Ok.conn in
    let before : HasCleanDisk mid = omega (arith, c.in-Err-over.ensures.refused.clean, clean) in
    elim (c.in-Err-over.ensures.refused.crash clean db left) [
      | inl is ↦ inl (c.in-Ok.ensures.crash before db (subst (λ t. mid.may_leave t) (sym is)
          (g.met.S.Store.stays c.in-Ok.conn.store (c.in-Ok.ensures.fresh before).is_open)))
      | inr made ↦ inr (subst (λ t. IsMadeOf t db) (c.in-Ok.ensures.same before) made)
    ]

pub returns-in-Err-over-clause-bad : goal.returns-in-Err-over-clause-bad
returns-in-Err-over-clause-bad g c = λ failed clean content it.
    let mid = state g.S.Store c.in-Ok.conn in
    let before : HasCleanDisk mid = omega (arith, c.in-Err-over.ensures.refused.clean, clean) in
    c.in-Err-over.ensures.refused.rows failed clean content (subst (λ t. IsOpenedAs t content)
    (sym (c.in-Ok.ensures.same before)) it)

pub returns-in-Err-over-clause-missing : goal.returns-in-Err-over-clause-missing
returns-in-Err-over-clause-missing g c = λ failed clean made declared.
    let mid = state g.S.Store c.in-Ok.conn in
    let before : HasCleanDisk mid = omega (arith, c.in-Err-over.ensures.refused.clean, clean) in
    c.in-Err-over.ensures.refused.tables failed clean made (subst (AreDeclared made)
    (sym (c.in-Ok.ensures.same before)) declared)

pub returns-in-Err-clause-failed : goal.returns-in-Err-clause-failed
returns-in-Err-clause-failed g c = λ told clean. met_before (state g.S.Store c.args.conn) _
    c.in-Err.error _ c.fault_of.ensures.which (c.in-Err.ensures.cause clean) told

pub returns-in-Err-over-clause-failed : goal.returns-in-Err-over-clause-failed
returns-in-Err-over-clause-failed g c = λ told clean.
    inl (omega (arith, c.in-Err-over.ensures.refused.failed told clean))

pub returns-in-Err-over-clause-texts : goal.returns-in-Err-over-clause-texts
returns-in-Err-over-clause-texts g c = λ failed clean.
    let mid = state g.S.Store c.in-Ok.conn in
    let before : HasCleanDisk mid = omega (arith, c.in-Err-over.ensures.refused.clean, clean) in
    subst HasBadTexts (c.in-Ok.ensures.same before)
    (c.in-Err-over.ensures.refused.texts failed clean)

pub returns-in-Err-clause-rows : goal.returns-in-Err-clause-rows
returns-in-Err-clause-rows g c = λ failed clean db left. c.in-Err.ensures.left db left

pub returns-in-Err-clause-crash : goal.returns-in-Err-clause-crash
returns-in-Err-clause-crash g c = λ clean db left. inl (c.in-Err.ensures.left db left)

pub returns-in-Err-clause-bad : goal.returns-in-Err-clause-bad
returns-in-Err-clause-bad g c = λ is. absurd (c.fault_of.ensures.unjudged
    (subst JudgesTables (sym is) tt))

pub returns-in-Err-clause-texts : goal.returns-in-Err-clause-texts
returns-in-Err-clause-texts g c = λ is. absurd (c.fault_of.ensures.unjudged
    (subst JudgesTables (sym is) tt))

pub returns-in-Err-clause-missing : goal.returns-in-Err-clause-missing
returns-in-Err-clause-missing g c = λ is. absurd (c.fault_of.ensures.unjudged
    (subst JudgesTables (sym is) tt))
