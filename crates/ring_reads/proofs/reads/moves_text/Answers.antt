use Rattle.std.proofs.lemmas.Result.{err_from_is_err_and}
use Rattle.ring_reads.proofs.Hiding.{moves_hidden}
use Rattle.ring_reads.proofs.reads.moves_text.Goals as goal

pub returns-in_err-both-clause-hidden : goal.returns-in_err-both-clause-hidden
returns-in_err-both-clause-hidden c =
    let p = err_from_is_err_and c.from_residual.result c.from_residual.ensures.1 in
    rw (p.1, p.2) (moves_hidden c.args.ring.now c.args.from c.args.to c.in_err-both.field-0.0
    c.in_err-both.ensures.hidden)

pub returns-in-Ok-clause-told : goal.returns-in-Ok-clause-told
returns-in-Ok-clause-told c = (
  c.in_ok-both.both.0,
  c.in_ok-both.ensures.published.0,
  (c.in_ok-both.both.1, c.in_ok-both.ensures.published.1, c.in-Ok.ensures),
)
