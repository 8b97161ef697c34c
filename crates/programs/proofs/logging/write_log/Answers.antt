use Rattle.std.proofs.Common.{inl, inr, refl, subst}
use Rattle.std.proofs.lemmas.Result.{IfErr-weaker, err_from_is_err_and, on_ok_weaker}
use Rattle.ring_log.specs.declared.text.LogForm.{LogForm}
use Rattle.programs.specs.Begun.{IsClosedWhole}
use Rattle.programs.specs.Left.{Closes, RefusesToOpen}
use Rattle.programs.specs.Logging.{FailsToLog, WritesLog}
use Rattle.programs.proofs.logging.write_log.Goals as goal

pub returns-in_err-place-clause-fault : goal.returns-in_err-place-clause-fault
returns-in_err-place-clause-fault g c =
    let p = err_from_is_err_and c.from_residual.result c.from_residual.ensures.1 in
    rw (p.1, p.2) (inl (c.in_err-place.ensures.fault, refl, refl))

pub returns-clause-written : goal.returns-clause-written
returns-clause-written g c = on_ok_weaker c.log_store.result
    (λ wrote. (
      c.in_ok-place.place,
      c.in_ok-place.ensures.begins,
      subst (λ (form : LogForm). WritesLog g.S.Kept.Keeper (g.S.Stores.begins c.args.file.now)
          (IsClosedWhole g.S.Kept.Keeper (Closes g.S.Stores)) g.W.Write.contents c.args.writer.now
          c.log_store.new.writer form c.in_ok-place.place) c.form_asked.ensures wrote,
    )) c.log_store.ensures.written

pub returns-clause-fault : goal.returns-clause-fault
returns-clause-fault g c = IfErr-weaker c.log_store.result _ _
    (λ why failed. inr (
      (
        c.in_ok-place.place,
        c.in_ok-place.ensures.begins,
        subst (λ (form : LogForm). FailsToLog g.S.Kept.Keeper
            (g.S.Stores.begins c.args.file.now) (Closes g.S.Stores) g.W.Write.contents
            c.args.writer.now c.log_store.new.writer (RefusesToOpen g.S.Stores c.args.file.now) form
            c.in_ok-place.place why) c.form_asked.ensures failed,
      ),
      c.log_store.ensures.opened,
    )) c.log_store.ensures.fault
