use Rattle.std.proofs.Common.{inl, inr, refl}
use Rattle.std.proofs.lemmas.Result.{err_from_is_err_and}
use Rattle.programs.specs.Begun.{FailedToClose, IsClosed, WasClosed}
use Rattle.programs.proofs.Kept.{on_closed, on_unclosed}
use Rattle.programs.proofs.Services.{kept_loops, kept_stops, match_err, match_ok}
use Rattle.programs.specs.Left.{Closes}
use Rattle.programs.proofs.serving.loop_store.Goals as goal

pub returns-clause-looped : goal.returns-clause-looped
returns-clause-looped g c = let ran = c.loop_input-looped in
    on_closed c.close_store-closed.result (Closes g.S.Stores ran.result.1) _
    (λ ended. kept_loops g.S.Kept.Keeper _ (IsClosed (Closes g.S.Stores)) c.in_ok-keeper.keeper ran.result.1
    c.in_ok-keeper.ensures.begins ended c.args.given c.args.names g.W.Write.contents
    c.args.writer.now ran.new.writer
    (match_ok ran.result.0 _ _ _ c.in-Ok.is ran.ensures))
    c.close_store-closed.ensures.ends

pub returns-clause-failed : goal.returns-clause-failed
returns-clause-failed g c = let ran = c.loop_input-looped in
    on_unclosed c.close_store-closed.result (Closes g.S.Stores ran.result.1) _
    (λ why is ended. inr (inr (
      is,
      kept_loops g.S.Kept.Keeper _ (FailedToClose (Closes g.S.Stores) why) c.in_ok-keeper.keeper
          ran.result.1 c.in_ok-keeper.ensures.begins ended c.args.given c.args.names g.W.Write.contents
          c.args.writer.now ran.new.writer
          (match_ok ran.result.0 _ _ _ c.in-Ok.is ran.ensures),
    )))
    c.close_store-closed.ensures.ends c.close_store-closed.ensures.fault

pub returns-in-Err-clause-failed : goal.returns-in-Err-clause-failed
returns-in-Err-clause-failed g c =
    let ran = c.loop_input-looped in
    inr (inl (
      c.in-Err.fault,
      c.serve_fault.ensures,
      kept_stops g.S.Kept.Keeper _ (WasClosed (Closes g.S.Stores)) c.in_ok-keeper.keeper ran.result.1
          c.in_ok-keeper.ensures.begins (c.close_store-closed.result, c.close_store-closed.ensures.ends)
          c.args.given c.args.names g.W.Write.contents
          c.args.writer.now ran.new.writer c.in-Err.fault
          (match_err ran.result.0 _ _ _ c.in-Err.is ran.ensures),
    ))

pub returns-in_err-keeper-clause-failed : goal.returns-in_err-keeper-clause-failed
returns-in_err-keeper-clause-failed g c =
    let p = err_from_is_err_and c.from_residual.result c.from_residual.ensures.1 in
    rw (p.1, p.2) (inl (c.in_err-keeper.ensures.refused, c.in_err-keeper.ensures.fault, refl))
