use Rattle.std.proofs.lemmas.Result.{err_from_is_err_and}
use Rattle.std.proofs.Common.{inl, inr, refl}
use Rattle.programs.specs.Begun.{FailedToClose, IsClosedWhole}
use Rattle.programs.specs.Left.{Closes, RefusesToOpen}
use Rattle.programs.proofs.Kept.{on_closed, on_unclosed}
use Rattle.programs.proofs.Logs.{fails_closed, writes_closed}
use Rattle.programs.proofs.Runs.{at_err, at_ok}
use Rattle.programs.proofs.logging.log_store.Goals as goal

pub returns-clause-written : goal.returns-clause-written
returns-clause-written g c =
    let kept = c.log_kept-written in
    on_closed c.close_store-closed.result (Closes g.S.Stores kept.result.1) _
    (λ ended. writes_closed g.S.Kept.Keeper (g.S.Stores.begins c.args.file.now) (Closes g.S.Stores)
    g.W.Write.contents c.args.writer.now kept.new.writer c.in_ok-keeper.keeper kept.result.1
    c.in_ok-keeper.ensures.begins c.close_store-closed.result c.close_store-closed.ensures.ends
    c.args.form c.args.from (IsClosedWhole g.S.Kept.Keeper (Closes g.S.Stores))
    (ended, at_ok kept.result.0 _ _ c.in_ok-written.was kept.ensures.whole)
    (at_ok kept.result.0 _ _ c.in_ok-written.was kept.ensures.written))
    c.close_store-closed.ensures.ends

pub returns-clause-fault : goal.returns-clause-fault
returns-clause-fault g c =
    let kept = c.log_kept-written in
    on_unclosed c.close_store-closed.result (Closes g.S.Stores kept.result.1) _
    (λ why is ended. inr (inr (inl (
      is,
      writes_closed g.S.Kept.Keeper (g.S.Stores.begins c.args.file.now) (Closes g.S.Stores)
          g.W.Write.contents c.args.writer.now kept.new.writer c.in_ok-keeper.keeper kept.result.1
          c.in_ok-keeper.ensures.begins c.close_store-closed.result
          c.close_store-closed.ensures.ends c.args.form c.args.from
          (FailedToClose (Closes g.S.Stores) why) ended
          (at_ok kept.result.0 _ _ c.in_ok-written.was kept.ensures.written),
    ))))
    c.close_store-closed.ensures.ends c.close_store-closed.ensures.fault

pub returns-in_err-written-clause-fault : goal.returns-in_err-written-clause-fault
returns-in_err-written-clause-fault g c =
    let kept = c.log_kept-written in
    let p = err_from_is_err_and c.from_residual-in_err-written.result
    c.from_residual-in_err-written.ensures.1 in
    rw (p.1, p.2) (fails_closed g.S.Kept.Keeper (g.S.Stores.begins c.args.file.now)
    (Closes g.S.Stores) g.W.Write.contents c.args.writer.now kept.new.writer c.in_ok-keeper.keeper
    kept.result.1 c.in_ok-keeper.ensures.begins c.close_store-closed.result
    c.close_store-closed.ensures.ends c.args.form c.args.from
    (RefusesToOpen g.S.Stores c.args.file.now) c.in_err-written.field-0.0
    (at_err kept.result.0 c.in_err-written.field-0.0 _ c.in_err-written.was kept.ensures.broken))

pub returns-in_err-keeper-clause-fault : goal.returns-in_err-keeper-clause-fault
returns-in_err-keeper-clause-fault g c =
    let p = err_from_is_err_and c.from_residual.result c.from_residual.ensures.1 in
    rw (p.1, p.2) (inl (c.in_err-keeper.ensures.refused, c.in_err-keeper.ensures.fault, refl))
