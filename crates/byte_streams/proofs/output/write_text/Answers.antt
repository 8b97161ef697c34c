use Rattle.std.proofs.Common.{[], sym, append-nil}
use Rattle.std.proofs.lemmas.Result.{IfErr-weaker, on_ok_weaker}
use Rattle.byte_streams.proofs.KnownLemmas.{Appends-kept}
use Rattle.byte_streams.proofs.output.write_text.Goals as goal

pub returns-clause-failed : goal.returns-clause-failed
returns-clause-failed g c =
    let text = c.args.text.now in
    IfErr-weaker c.flush_writer.result _ _ (λ fault is. (
      is,
      (
        text,
        [],
        sym (append-nil text),
        Appends-kept _ _ _ text c.in_ok-write_whole.ensures.ok c.flush_writer.ensures.kept,
      ),
    ))
    c.flush_writer.ensures.failed
