use Rattle.std.proofs.lemmas.Result.{on_ok_weaker}
use Rattle.programs.proofs.serving.loop_file.Goals as goal

pub returns-clause-looped : goal.returns-clause-looped
returns-clause-looped g c = on_ok_weaker c.loop_store.result
    (λ once. (
      c.in_ok-bytes.bytes.items,
      (c.in_ok-bytes.ensures.text, c.in_ok-bytes.ensures.short),
      once,
    )) c.loop_store.ensures.looped
