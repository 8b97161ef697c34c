use Rattle.std.proofs.Common.{inl, inr, refl}
use Rattle.std.proofs.lemmas.Result.{err_from_is_err_and}
use Rattle.programs.proofs.performing.show_asked.Goals as goal

pub returns-in_err-question-clause-failed : goal.returns-in_err-question-clause-failed
returns-in_err-question-clause-failed g c =
    let p = err_from_is_err_and c.from_residual.result c.from_residual.ensures.1 in
    rw (p.1, p.2) (inl (c.in_err-question.was, refl, refl))

pub returns-in_err-show-clause-failed : goal.returns-in_err-show-clause-failed
returns-in_err-show-clause-failed g c =
    let r = c.from_residual-in_err-show in
    let p = err_from_is_err_and r.result r.ensures.1 in
    rw (p.1, p.2) (inr (
      (c.in_ok-question.question, c.in_ok-question.was, c.in_err-show.ensures.fault),
      c.in_err-show.ensures.opened,
    ))
