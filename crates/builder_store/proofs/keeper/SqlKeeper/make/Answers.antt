use Rattle.std.proofs.Common.{arith, inl, inr, subst, sym}
use Rattle.sqlite.specs.Held.{state}
use Rattle.sqlite.specs.State.{HasCleanDisk}
use Rattle.builder_store.specs.Left.{IsMadeOfConnection}
use Rattle.builder_store.specs.Opening.{AreDeclared}
use Rattle.builder_store.proofs.Rests.{failure_of_connection, judged_of_connection, no_foreign, only_taken}
use Rattle.builder_store.proofs.Taking.{met_before}
use Rattle.builder_store.proofs.keeper.SqlKeeper.make.Goals as goal

pub returns-in-Ok-make_over-clause-limit : goal.returns-in-Ok-make_over-clause-limit
returns-in-Ok-make_over-clause-limit g c = c.in-Ok-make_over.ensures.begins.limit

pub returns-in-Ok-make_over-clause-faults : goal.returns-in-Ok-make_over-clause-faults
returns-in-Ok-make_over-clause-faults g c = c.in-Ok-make_over.ensures.begins.faults

pub returns-in-Ok-make_over-clause-clean : goal.returns-in-Ok-make_over-clause-clean
returns-in-Ok-make_over-clause-clean g c = omega
    (arith, c.in-Ok.ensures.clean, c.in-Ok-make_over.ensures.begins.clean)

pub returns-in-Ok-make_over-clause-made : goal.returns-in-Ok-make_over-clause-made
returns-in-Ok-make_over-clause-made g c = c.in-Ok-make_over.ensures.begins.made

pub returns-in-Ok-make_over-clause-nothing : goal.returns-in-Ok-make_over-clause-nothing
returns-in-Ok-make_over-clause-nothing g c = λ clean.
    let before : HasCleanDisk (state g.S.Store c.in-Ok.conn) = omega
    (arith, c.in-Ok-make_over.ensures.begins.clean, clean) in
    subst (AreDeclared 0) (c.in-Ok.ensures.same before)
    (c.in-Ok-make_over.ensures.begins.nothing clean)

pub returns-in-Err-make_over-clause-unjudged : goal.returns-in-Err-make_over-clause-unjudged
returns-in-Err-make_over-clause-unjudged g c = c.in-Err-make_over.ensures.refused.unjudged

pub returns-in-Err-make_over-clause-taken : goal.returns-in-Err-make_over-clause-taken
returns-in-Err-make_over-clause-taken g c = λ failed clean declared.
    let mid = state g.S.Store c.in-Ok.conn in
    let before : HasCleanDisk mid = omega (arith, c.in-Err-make_over.ensures.refused.clean, clean) in
    c.in-Err-make_over.ensures.refused.taken failed clean (subst (AreDeclared 0)
    (sym (c.in-Ok.ensures.same before)) declared)

pub returns-in-Err-make_over-clause-stays : goal.returns-in-Err-make_over-clause-stays
returns-in-Err-make_over-clause-stays g c = λ failed clean db left.
    let mid = state g.S.Store c.in-Ok.conn in
    let before : HasCleanDisk mid = omega (arith, c.in-Err-make_over.ensures.refused.clean, clean) in
    let taken = only_taken c.in-Err-make_over.fault failed
    c.in-Err-make_over.ensures.refused.of_connection in
    c.in-Ok.ensures.crash before db (subst (λ t. mid.may_leave t) (sym
    (c.in-Err-make_over.ensures.refused.stays taken clean db left))
    (g.met.S.Store.stays c.in-Ok.conn.store (c.in-Ok.ensures.fresh before).is_open))

pub returns-in-Err-make_over-clause-crash : goal.returns-in-Err-make_over-clause-crash
returns-in-Err-make_over-clause-crash g c = λ clean db left.
    let mid = state g.S.Store c.in-Ok.conn in
    let before : HasCleanDisk mid = omega (arith, c.in-Err-make_over.ensures.refused.clean, clean) in
    elim (c.in-Err-make_over.ensures.refused.crash clean db left) [
      | inl is ↦ inl (c.in-Ok.ensures.crash before db (subst (λ t. mid.may_leave t) (sym is)
          (g.met.S.Store.stays c.in-Ok.conn.store (c.in-Ok.ensures.fresh before).is_open)))
      | inr made ↦ inr made
    ]

pub returns-in-Err-take_over-clause-failed : goal.returns-in-Err-take_over-clause-failed
returns-in-Err-take_over-clause-failed g c = λ told clean. met_before (state g.S.Store c.args.conn) _
    c.in-Err-take_over.error _ c.fault_of.ensures.which (c.in-Err-take_over.ensures.cause clean) told

pub returns-in-Err-make_over-clause-failed : goal.returns-in-Err-make_over-clause-failed
returns-in-Err-make_over-clause-failed g c = λ told clean.
    inl (omega (arith, c.in-Err-make_over.ensures.refused.failed told clean))

pub returns-in-Err-make_over-clause-foreign : goal.returns-in-Err-make_over-clause-foreign
returns-in-Err-make_over-clause-foreign g c = no_foreign _ c.in-Err-make_over.fault
    c.in-Err-make_over.ensures.refused.of_connection

pub returns-in-Err-clause-failed : goal.returns-in-Err-clause-failed
returns-in-Err-clause-failed g c = λ told. absurd (c.in-Err.ensures.other
    (failure_of_connection c.in-Err.fault told))

pub returns-in-Err-clause-taken : goal.returns-in-Err-clause-taken
returns-in-Err-clause-taken g c = λ is. absurd (c.in-Err.ensures.other
    (subst IsMadeOfConnection (sym is) tt))

pub returns-in-Err-clause-unjudged : goal.returns-in-Err-clause-unjudged
returns-in-Err-clause-unjudged g c = λ is. c.in-Err.ensures.other
    (judged_of_connection c.in-Err.fault is)

pub returns-in-Err-clause-stays : goal.returns-in-Err-clause-stays
returns-in-Err-clause-stays g c = λ failed clean db left. left

pub returns-in-Err-clause-crash : goal.returns-in-Err-clause-crash
returns-in-Err-clause-crash g c = λ clean db left. inl left

pub returns-in-Err-take_over-clause-stays : goal.returns-in-Err-take_over-clause-stays
returns-in-Err-take_over-clause-stays g c = λ failed clean db left. c.in-Err-take_over.ensures.left
    db left

pub returns-in-Err-take_over-clause-crash : goal.returns-in-Err-take_over-clause-crash
returns-in-Err-take_over-clause-crash g c = λ clean db left. inl
    (c.in-Err-take_over.ensures.left db left)

pub returns-in-Err-take_over-clause-unjudged : goal.returns-in-Err-take_over-clause-unjudged
returns-in-Err-take_over-clause-unjudged g c = c.fault_of.ensures.unjudged
