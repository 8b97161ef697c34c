use Rattle.std.proofs.Common.{inl, inr, refl, sym, ◌∙◌}
use Rattle.std.proofs.lemmas.Result.{MatchResult-from_both}
use Rattle.line_stream.proofs.LineLemmas.{kept_whole, kept_none}
use Rattle.line_stream.proofs.serving.answer_line.Goals as goal

pub returns-in_default-clause-answered : goal.returns-in_default-clause-answered
returns-in_default-clause-answered g c = (
  c.as_bytes.result.now,
  λ whole is. inr (
    kept_none whole (sym c.in_default.ensures ∙ is),
    c.as_bytes.ensures.value ∙ c.too_long.ensures,
    refl,
  ),
  MatchResult-from_both c.push_line.result _ _ c.push_line.ensures.ok c.push_line.ensures.failed,
)

pub returns-in-Ok-clause-answered : goal.returns-in-Ok-clause-answered
returns-in-Ok-clause-answered g c = (
  c.as_bytes-in-Ok.result.now,
  λ whole is.
      let kept = kept_whole whole c.in-Some.bytes.now (sym c.in-Some.ensures ∙ is) in
      inl (kept.1, inl (rw (← kept.0, c.as_bytes-in-Ok.ensures.value) c.in-Ok.ensures)),
  MatchResult-from_both c.push_line-in-Ok.result _ _ c.push_line-in-Ok.ensures.ok
      c.push_line-in-Ok.ensures.failed,
)

pub returns-in-Err-clause-answered : goal.returns-in-Err-clause-answered
returns-in-Err-clause-answered g c = (
  c.as_bytes-in-Err.result.now,
  λ whole is.
      let kept = kept_whole whole c.in-Some.bytes.now (sym c.in-Some.ensures ∙ is) in
      inl (
        kept.1,
        inr (
          rw (← kept.0) c.in-Err.ensures,
          c.as_bytes-in-Err.ensures.value ∙
              c.no_memory.ensures,
        ),
      ),
  MatchResult-from_both c.push_line-in-Err.result _ _ c.push_line-in-Err.ensures.ok
      c.push_line-in-Err.ensures.failed,
)
