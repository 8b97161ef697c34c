use Rattle.std.proofs.lemmas.Grind.{common_steps}
use Rattle.std.proofs.Common.{◌≤◌, length, [], arith}
use Rattle.std.proofs.lemmas.Result.{err_from_is_err_and}
use Rattle.byte_streams.proofs.KnownLemmas.{Consumes-none}
use Rattle.http_stream.proofs.serving.StreamProgress.read_up_to.Goals as goal

pub returns-in_err-flush-clause-read : goal.returns-in_err-flush-clause-read
returns-in_err-flush-clause-read g c =
    let f = c.in_err-flush.ensures.failed in
    let p = err_from_is_err_and c.from_residual.result c.from_residual.ensures.1 in
    ([], Consumes-none _, rw (p.1, p.2, f.0) f.1)

pub returns-clause-fewer : goal.returns-clause-fewer
returns-clause-fewer g c =
    let enough : c.args.wanted ≤ length c.loop-reader.self.buffer =
    c.has.ensures.0 c.loop-reader-test.false in
    c.loop-reader.invariant.some (omega (arith, enough, c.requires.short))

pub loop-reader-preserved : goal.loop-reader-preserved
loop-reader-preserved g c = grind (arith, common_steps)
