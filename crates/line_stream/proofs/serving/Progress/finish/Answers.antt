use Rattle.std.proofs.lemmas.Result.{err_from_is_err_and}
use Rattle.line_stream.specs.Answers.{Answered}
use Rattle.line_stream.proofs.MidwayLemmas.{served_ended, in_part_ended}
use Rattle.line_stream.proofs.serving.Progress.finish.Goals as goal

pub returns-in_err-answer_rest-clause-answered : goal.returns-in_err-answer_rest-clause-answered
returns-in_err-answer_rest-clause-answered g c = λ origin before came m.
    let p = err_from_is_err_and c.from_residual.result c.from_residual.ensures.1 in
    rw (p.1, p.2) (c.in_err-answer_rest.ensures.answered origin before came m)

pub returns-in_err-flush-clause-answered : goal.returns-in_err-flush-clause-answered
returns-in_err-flush-clause-answered g c = λ origin before came m.
    let gives = Answered g.H.Handler in
    let f = c.in_err-flush.ensures.failed in
    let r = c.from_residual-in_err-flush in
    let p = err_from_is_err_and r.result r.ensures.1 in
    rw (p.1, p.2) (
      f.0,
      in_part_ended gives came before _ origin _
          (c.in_ok-answer_rest.ensures.answered origin before came m) f.1,
    )

pub returns-clause-answered : goal.returns-clause-answered
returns-clause-answered g c = λ origin before came m.
    let gives = Answered g.H.Handler in
    served_ended gives came before _ origin _ (c.in_ok-answer_rest.ensures.answered origin before
    came m) c.in_ok-flush.ensures.ok.1
