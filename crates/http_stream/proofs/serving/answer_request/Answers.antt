use Rattle.std.proofs.Common.{◌∙◌, inr, Result, Ok, Err}
use Rattle.std.specs.Prelude.{OnOk, IfErr, MatchResult}
use Rattle.http_stream.proofs.serving.answer_request.Goals as goal

both : {A E : Type 0} (P : Type 0) (Q : E → Type 0) (result : Result A E) → OnOk result P →
    IfErr result Q → MatchResult result (λ _. P) Q
both P Q (Ok x) ok err = ok
both P Q (Err e) ok err = err

pub returns-in-Err-clause-answered : goal.returns-in-Err-clause-answered
returns-in-Err-clause-answered g c =
    let lost = rw (c.part-target.ensures, c.part-body.ensures) at c.in-Err.ensures in (
      c.as_bytes.result.now,
      inr (lost, c.as_bytes.ensures.value ∙ c.no_memory_text.ensures),
      both _ _ c.push-in-Err.result c.push-in-Err.ensures.ok c.push-in-Err.ensures.failed,
    )
