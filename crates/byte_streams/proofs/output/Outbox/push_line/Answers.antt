use Rattle.std.proofs.Common.{◌∷◌, ◌++◌, [], append_assoc}
use Rattle.std.proofs.lemmas.Result.{err_from_is_err_and, on_ok_weaker, IfErr-weaker}
use Rattle.byte_streams.proofs.KnownLemmas.{Forwards-then, beginning_longer, beginning_then}
use Rattle.byte_streams.proofs.output.Outbox.push_line.Goals as goal

pub returns-in_err-push-clause-failed : goal.returns-in_err-push-clause-failed
returns-in_err-push-clause-failed g c =
    let p = err_from_is_err_and c.from_residual.result c.from_residual.ensures.1 in
    let f = c.in_err-push.ensures.failed in
    rw (p.1, p.2, ← append_assoc c.args.self.now c.args.text.now (10 ∷ [])) (
      f.0,
      beginning_longer _ _ (c.args.self.now ++ c.args.text.now) (10 ∷ []) f.1,
    )

pub returns-clause-ok : goal.returns-clause-ok
returns-clause-ok g c =
    rw (← append_assoc c.args.self.now c.args.text.now (10 ∷ []))
    (on_ok_weaker c.push-2.result (λ more. Forwards-then _ _ _ (c.args.self.now ++ c.args.text.now)
    (10 ∷ []) _ _ c.in_ok-push.ensures.ok more) c.push-2.ensures.ok)

pub returns-clause-failed : goal.returns-clause-failed
returns-clause-failed g c =
    rw (← append_assoc c.args.self.now c.args.text.now (10 ∷ []))
    (IfErr-weaker c.push-2.result _ _ (λ fault f. (
      f.0,
      beginning_then _ _ _ (c.args.self.now ++
          c.args.text.now) (10 ∷ []) _ c.in_ok-push.ensures.ok f.1,
    )) c.push-2.ensures.failed)
