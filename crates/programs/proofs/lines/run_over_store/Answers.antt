use Rattle.std.proofs.Common.{inl, inr, refl}
use Rattle.std.proofs.lemmas.Result.{err_from_is_err_and}
use Rattle.programs.specs.Begun.{FailedToClose, IsClosed, WasClosed}
use Rattle.programs.proofs.Runs.{at_err, at_ok}
use Rattle.programs.proofs.Kept.{answers_kept, on_closed, on_unclosed, stops_kept}
use Rattle.programs.specs.Left.{Closes}
use Rattle.programs.proofs.lines.run_over_store.Goals as goal

pub returns-clause-answered : goal.returns-clause-answered
returns-clause-answered g c = let ran = c.answer_lines-answered in
    on_closed c.close_store-closed.result (Closes g.S.Stores ran.result.1) _
    (λ ended. answers_kept g.S.Kept.Keeper _ (IsClosed (Closes g.S.Stores)) c.in_ok-keeper.keeper
    ran.result.1
    c.in_ok-keeper.ensures.begins ended g.R.Read.remaining g.W.Write.contents
    c.args.reader.now ran.new.reader c.args.writer.now ran.new.writer
    (at_ok ran.result.0 _ _ c.in_ok-answered.was ran.ensures.answered))
    c.close_store-closed.ensures.ends

pub returns-clause-failed : goal.returns-clause-failed
returns-clause-failed g c = let ran = c.answer_lines-answered in
    on_unclosed c.close_store-closed.result (Closes g.S.Stores ran.result.1) _
    (λ why is ended. inr (inr (
      is,
      answers_kept g.S.Kept.Keeper _ (FailedToClose (Closes g.S.Stores) why) c.in_ok-keeper.keeper
          ran.result.1 c.in_ok-keeper.ensures.begins ended
          g.R.Read.remaining g.W.Write.contents
          c.args.reader.now ran.new.reader c.args.writer.now ran.new.writer
          (at_ok ran.result.0 _ _ c.in_ok-answered.was ran.ensures.answered),
    )))
    c.close_store-closed.ensures.ends c.close_store-closed.ensures.fault

pub returns-in_err-answered-clause-failed : goal.returns-in_err-answered-clause-failed
returns-in_err-answered-clause-failed g c =
    let ran = c.answer_lines-answered in
    let p = err_from_is_err_and c.from_residual-in_err-answered.result
    c.from_residual-in_err-answered.ensures.1 in
    rw (p.1) (inl (
      c.in_err-answered.field-0.0,
      p.2,
      stops_kept g.S.Kept.Keeper _ (WasClosed (Closes g.S.Stores)) c.in_ok-keeper.keeper ran.result.1
          c.in_ok-keeper.ensures.begins (c.close_store-closed.result, c.close_store-closed.ensures.ends)
          g.R.Read.remaining g.W.Write.contents
          c.args.reader.now ran.new.reader c.args.writer.now ran.new.writer
          c.in_err-answered.field-0.0
          (at_err ran.result.0 c.in_err-answered.field-0.0 _ c.in_err-answered.was ran.ensures.stopped),
    ))

pub returns-in_err-keeper-clause-failed : goal.returns-in_err-keeper-clause-failed
returns-in_err-keeper-clause-failed g c =
    let p = err_from_is_err_and c.from_residual.result c.from_residual.ensures.1 in
    rw (p.1, p.2) (inr (inl (c.in_err-keeper.ensures.refused, c.in_err-keeper.ensures.fault, refl, refl)))
