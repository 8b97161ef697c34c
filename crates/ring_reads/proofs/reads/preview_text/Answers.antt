use Rattle.std.proofs.Common.{IfOk, subst}
use Rattle.std.specs.Prelude.{string_bytes}
use Rattle.ring_reads.specs.Preview.{IsPreviewJson}
use Rattle.ring_reads.proofs.reads.preview_text.Goals as goal

pub returns-clause-told : goal.returns-clause-told
returns-clause-told c = subst
    (λ hour. IfOk c.preview_at.result (λ text. IsPreviewJson c.args.name.now c.args.ring.now hour
    c.args.seed (string_bytes text)))
    c.later.ensures c.preview_at.ensures.told
