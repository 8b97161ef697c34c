use Rattle.std.proofs.lemmas.Result.{err_from_is_err_and}
use Rattle.http_messages.specs.Requests.{ask_at}
use Rattle.http_stream.specs.Answers.{ItemAnswered}
use Rattle.http_stream.proofs.Midstreams.{answered_more, answered_last, broken_answer}
use Rattle.http_stream.proofs.serving.StreamProgress.answer.Goals as goal

pub returns-in_err-answer_request-clause-answered :
    goal.returns-in_err-answer_request-clause-answered
returns-in_err-answer_request-clause-answered g c = λ origin before came m.
    let gives = ItemAnswered g.H.Service c.args.service.now in
    let e = c.in_err-answer_request.ensures.answered in
    let p = err_from_is_err_and c.from_residual.result c.from_residual.ensures.1 in
    rw (p.1, p.2) (
      e.2.0,
      broken_answer c.args.audience gives came before origin _ _ _ e.0
          (ask_at c.args.self.now.buffer c.args.parts) m c.requires.asks e.1 e.2.1,
    )

pub returns-clause-answered : goal.returns-clause-answered
returns-clause-answered g c = λ origin before came m.
    let gives = ItemAnswered g.H.Service c.args.service.now in
    let ask = ask_at c.args.self.now.buffer c.args.parts in
    let e = c.in_ok-answer_request.ensures.answered in
    let asks = rw (← c.consume.ensures) at c.requires.asks in (
      λ more. answered_more c.args.audience gives came before origin _ _ e.0 ask m asks more e.1 e.2
          c.saturating_add-self.ensures,
      λ last. answered_last c.args.audience gives came before origin _ _ _ e.0 ask m asks last e.1 e.2
          c.saturating_add-self.ensures,
    )

pub returns-clause-shorter : goal.returns-clause-shorter
returns-clause-shorter g c = c.consume.ensures
