use Rattle.std.proofs.Common.{◌∙◌, ap, inl, inr}
use Rattle.std.proofs.lemmas.Result.{IfErr-at_err, err_from_is_err_and}
use Rattle.programs.specs.Begun.{FailedToClose, IsClosed, WasClosed}
use Rattle.programs.specs.Faults.{serve_fault}
use Rattle.programs.proofs.Kept.{on_closed, on_unclosed}
use Rattle.programs.proofs.Services.{kept_served, on_ok_at}
use Rattle.programs.specs.Left.{Closes}
use Rattle.programs.proofs.serving.serve_store.Goals as goal

pub returns-clause-served : goal.returns-clause-served
returns-clause-served g c = let ran = c.serve_port-served in
    on_closed c.close_store-closed.result (Closes g.S.Stores ran.result.1) _
    (λ ended. kept_served g.S.Kept.Keeper _ (IsClosed (Closes g.S.Stores)) c.in_ok-keeper.keeper
    ran.result.1
    c.in_ok-keeper.ensures.begins ended c.args.given c.args.names _
    (on_ok_at ran.result.0 _ _ c.in-Ok.is ran.ensures.served))
    c.close_store-closed.ensures.ends

pub returns-clause-failed : goal.returns-clause-failed
returns-clause-failed g c = let ran = c.serve_port-served in
    on_unclosed c.close_store-closed.result (Closes g.S.Stores ran.result.1) _
    (λ why is ended. inr (inl (
      is,
      kept_served g.S.Kept.Keeper _ (FailedToClose (Closes g.S.Stores) why) c.in_ok-keeper.keeper
          ran.result.1 c.in_ok-keeper.ensures.begins ended c.args.given c.args.names _
          (on_ok_at ran.result.0 _ _ c.in-Ok.is ran.ensures.served),
    )))
    c.close_store-closed.ensures.ends c.close_store-closed.ensures.fault

pub returns-in-Err-clause-failed : goal.returns-in-Err-clause-failed
returns-in-Err-clause-failed g c =
    let ran = c.serve_port-served in
    let failed = IfErr-at_err _ c.in-Err.is ran.ensures.failed in
    inr (inr (
      c.serve_fault.ensures ∙ ap serve_fault failed.0,
      kept_served g.S.Kept.Keeper _ (WasClosed (Closes g.S.Stores)) c.in_ok-keeper.keeper ran.result.1
          c.in_ok-keeper.ensures.begins (c.close_store-closed.result, c.close_store-closed.ensures.ends)
          c.args.given c.args.names _ failed.1,
    ))

pub returns-in_err-keeper-clause-failed : goal.returns-in_err-keeper-clause-failed
returns-in_err-keeper-clause-failed g c =
    let p = err_from_is_err_and c.from_residual.result c.from_residual.ensures.1 in
    rw (p.1, p.2) (inl (c.in_err-keeper.ensures.refused, c.in_err-keeper.ensures.fault))
