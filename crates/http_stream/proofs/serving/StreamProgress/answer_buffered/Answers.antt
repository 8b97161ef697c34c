use Rattle.std.proofs.Common.{◌∙◌, length, drop, ap, arith, refl}
use Rattle.std.proofs.lemmas.Result.{err_from_is_err_and}
use Rattle.http_messages.specs.Requests.{ask_at}
use Rattle.http_stream.specs.Answers.{ItemAnswered}
use Rattle.http_stream.proofs.Follows.{HasAsk-shorter}
use Rattle.http_stream.proofs.Midstreams.{refused_last, broken_refusal}
use Rattle.http_stream.proofs.serving.StreamProgress.answer_buffered.Goals as goal

pub returns-in_err-refuse-in-Faulty-clause-answered :
    goal.returns-in_err-refuse-in-Faulty-clause-answered
returns-in_err-refuse-in-Faulty-clause-answered g c = λ origin before came m.
    let gives = ItemAnswered g.H.Service c.args.service.now in
    let mid = c.loop-wanted.invariant.midway origin before came m in
    let f = c.in_err-refuse-in-Faulty.ensures.told in
    let p = err_from_is_err_and c.from_residual.result c.from_residual.ensures.1 in
    rw (p.1, p.2) (
      f.0,
      broken_refusal c.args.audience gives came before origin _ _ _ c.in-Faulty.why mid
          c.in-Faulty.ensures (refl, refl) f.1,
    )

pub returns-in-Faulty-clause-answered : goal.returns-in-Faulty-clause-answered
returns-in-Faulty-clause-answered g c = λ origin before came m.
    let gives = ItemAnswered g.H.Service c.args.service.now in
    let mid = c.loop-wanted.invariant.midway origin before came m in
    let k = c.in_ok-refuse-in-Faulty.ensures in
    refused_last c.args.audience gives came before origin _ _ _ c.in-Faulty.why mid c.in-Faulty.ensures (refl, refl)
    k.told k.count

pub returns-in_err-answer-in-Whole-clause-answered :
    goal.returns-in_err-answer-in-Whole-clause-answered
returns-in_err-answer-in-Whole-clause-answered g c = λ origin before came m.
    let mid = c.loop-wanted.invariant.midway origin before came m in
    let f = c.in_err-answer-in-Whole.ensures.answered origin before came mid in
    let r = c.from_residual-in_err-answer-in-Whole in
    let p = err_from_is_err_and r.result r.ensures.1 in
    rw (p.1, p.2) f

pub returns-then-parts-clause-answered : goal.returns-then-parts-clause-answered
returns-then-parts-clause-answered g c = λ origin before came m.
    let mid = c.loop-wanted.invariant.midway origin before came m in
    (c.in_ok-answer-in-Whole.ensures.answered origin before came mid).1 c.if-parts.true

pub loop-wanted-smaller : goal.loop-wanted-smaller
loop-wanted-smaller g c =
    let buffer = c.loop-wanted.self.buffer in
    let parts = c.in-Whole.parts in
    omega (
      arith,
      HasAsk-shorter c.args.audience buffer (ask_at buffer parts) (drop parts.body.end buffer)
          c.in-Whole.ensures.2,
      ap length c.in_ok-answer-in-Whole.ensures.shorter,
    )

pub loop-wanted-preserved : goal.loop-wanted-preserved
loop-wanted-preserved g c = record {
  midway = λ origin before came m.
      (c.in_ok-answer-in-Whole.ensures.answered origin before came
      (c.loop-wanted.invariant.midway origin before came m)).0 c.if-parts.false;
  same = c.in_ok-answer-in-Whole.ensures.cause ∙ c.loop-wanted.invariant.same;
}
