use Rattle.std.proofs.Common.{[], sym, append-nil}
use Rattle.std.proofs.lemmas.Result.{IfErr-weaker}
use Rattle.byte_streams.proofs.KnownLemmas.{Appends-kept}
use Rattle.byte_streams.proofs.output.Outbox.flush.Goals as goal

pub returns-clause-failed : goal.returns-clause-failed
returns-clause-failed g c =
    let o = c.in_ok-write_out.ensures.ok in
    IfErr-weaker c.flush_writer.result _ _ (λ fault is. (
      is,
      (
        c.args.self.now,
        [],
        sym (append-nil c.args.self.now),
        Appends-kept _ _ _ c.args.self.now
            o.1 c.flush_writer.ensures.kept,
      ),
    )) c.flush_writer.ensures.failed
