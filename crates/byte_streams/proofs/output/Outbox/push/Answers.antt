use Rattle.std.proofs.Common.{[]}
use Rattle.std.proofs.lemmas.Result.{err_from_is_err_and, on_ok_weaker, IfErr-weaker}
use Rattle.byte_streams.proofs.KnownLemmas.{Appends-then, Forwards-all, beginning_longer}
use Rattle.byte_streams.proofs.KnownLemmas.{beginning_then}
use Rattle.byte_streams.proofs.output.Outbox.push.Goals as goal

pub returns-in_err-write_out-clause-failed : goal.returns-in_err-write_out-clause-failed
returns-in_err-write_out-clause-failed g c =
    let p = err_from_is_err_and c.from_residual.result c.from_residual.ensures.1 in
    let f = c.in_err-write_out.ensures.failed in
    rw (p.1, p.2) (f.0, beginning_longer _ _ c.args.self.now c.args.text.now f.1)

pub returns-then-text-gt-ROOM-clause-ok : goal.returns-then-text-gt-ROOM-clause-ok
returns-then-text-gt-ROOM-clause-ok g c =
    let o = c.in_ok-write_out.ensures.ok in
    on_ok_weaker c.write_whole.result
    (λ wrote. rw o.0 (Forwards-all _ _ _ (Appends-then _ _ _ c.args.self.now c.args.text.now o.1
    wrote))) c.write_whole.ensures.ok

pub returns-then-text-gt-ROOM-clause-failed : goal.returns-then-text-gt-ROOM-clause-failed
returns-then-text-gt-ROOM-clause-failed g c =
    let o = c.in_ok-write_out.ensures.ok in
    IfErr-weaker c.write_whole.result _ _ (λ fault f. (
      f.0,
      beginning_then _ _ _ c.args.self.now
          c.args.text.now [] (Forwards-all _ _ c.args.self.now o.1) f.1,
    )) c.write_whole.ensures.failed
