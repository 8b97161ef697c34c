use Rattle.std.proofs.Common.{inl, inr, rules}
use Rattle.std.proofs.lemmas.Result.{IfOk-weaker}
use Rattle.http_api.proofs.reads.answer_read.Goals as goal

pub returns-in-Ok : goal.returns-in-Ok
returns-in-Ok g c =
    let told = c.in-Ok.ensures.told in (
      told.0,
      told.1,
      IfOk-weaker c.shown_answer.result _ _
          (λ text is. (
            c.now.result,
            c.now.ensures,
            inl (c.in-Ok.bytes.items, told.2, rw (c.kind_of.ensures, c.deref.ensures.value) at is),
          ))
          c.shown_answer.ensures,
    )

pub returns-in-Err : goal.returns-in-Err
returns-in-Err g c =
    let told = c.in-Err.ensures.told in (
      told.0,
      told.1,
      IfOk-weaker c.told_answer.result _ _
          (λ text is. (c.now.result, c.now.ensures, inr (c.in-Err.told, told.2, is)))
          c.told_answer.ensures,
    )
