use Rattle.std.proofs.Common.{[], ◌++◌, ◌∙◌, ap, refl}
use Rattle.std.proofs.lemmas.Result.{err_from_is_err_and}
use Rattle.byte_streams.specs.Counted.{one_more}
use Rattle.byte_streams.proofs.KnownLemmas.{Consumes-then, Consumes-none}
use Rattle.http_stream.specs.Answers.{ItemAnswered}
use Rattle.http_stream.proofs.Midstreams.{starts, more_came, flushed, broken_end, served_end}
use Rattle.http_stream.proofs.Midstreams.{served_over, in_part, failed_to_read}
use Rattle.http_stream.proofs.serving.serve_requests.Goals as goal

pub loop-chunk-init : goal.loop-chunk-init
loop-chunk-init g c =
    let gives = ItemAnswered g.H.Service c.args.service.now in
    let p = c.in_ok-progress.ensures in
    record {
      room = c.in_ok-chunk.ensures;
      came = ([], Consumes-none _, starts c.args.audience gives _ p.0 p.1 p.2);
      reads = refl;
      writes = refl;
    }

pub returns-in_err-wanted-clause-stopped : goal.returns-in_err-wanted-clause-stopped
returns-in_err-wanted-clause-stopped g c =
    let gives = ItemAnswered g.H.Service c.args.service.now in
    let i = c.loop-chunk.invariant in
    let f = c.in_err-wanted.ensures.answered _ _ i.came.0 i.came.2 in
    let p = err_from_is_err_and c.from_residual-in_err-wanted.result
    c.from_residual-in_err-wanted.ensures.1 in
    rw (p.1, p.2, f.0) (in_part c.args.audience gives _ _ i.came.0 _ _ _ i.came.1 f.1)

pub returns-in_err-wanted-clause-cause : goal.returns-in_err-wanted-clause-cause
returns-in_err-wanted-clause-cause g c =
    let i = c.loop-chunk.invariant in
    let f = c.in_err-wanted.ensures.answered _ _ i.came.0 i.came.2 in
    let p = err_from_is_err_and c.from_residual-in_err-wanted.result
    c.from_residual-in_err-wanted.ensures.1 in
    rw (p.1, p.2, f.0) (i.reads, c.in_err-wanted.ensures.cause ∙ ap one_more i.writes)

pub returns-in_err-wanted-clause-flushed : goal.returns-in_err-wanted-clause-flushed
returns-in_err-wanted-clause-flushed g c =
    let i = c.loop-chunk.invariant in
    let f = c.in_err-wanted.ensures.answered _ _ i.came.0 i.came.2 in
    let p = err_from_is_err_and c.from_residual-in_err-wanted.result
    c.from_residual-in_err-wanted.ensures.1 in
    rw (p.1, p.2, f.0) (λ read. cc)

pub returns-in_err-read_up_to-clause-stopped : goal.returns-in_err-read_up_to-clause-stopped
returns-in_err-read_up_to-clause-stopped g c =
    let gives = ItemAnswered g.H.Service c.args.service.now in
    let i = c.loop-chunk.invariant in
    let m = rw c.in-Some.is at (c.in_ok-wanted.ensures.answered _ _ i.came.0 i.came.2) in
    let look = rw c.in-Some.is at c.in_ok-wanted.ensures.wanted in
    let f = c.in_err-read_up_to.ensures.read in
    let p = err_from_is_err_and c.from_residual-in_err-read_up_to.result
    c.from_residual-in_err-read_up_to.ensures.1 in
    rw (p.1, p.2) (failed_to_read c.args.audience gives _ _ i.came.0 f.0 _ _ _ _ _ _ _
    (Consumes-then _ _ _ i.came.0 f.0 i.came.1 f.1) m look.2 f.2)

pub returns-then-not-branch-clause-served : goal.returns-then-not-branch-clause-served
returns-then-not-branch-clause-served g c =
    let gives = ItemAnswered g.H.Service c.args.service.now in
    let i = c.loop-chunk.invariant in
    let m = rw c.in-Some.is at (c.in_ok-wanted.ensures.answered _ _ i.came.0 i.came.2) in
    let look = rw c.in-Some.is at c.in_ok-wanted.ensures.wanted in
    let f = c.in_ok-read_up_to.ensures.read in
    let filled = rw (c.if-not-branch.true, f.2.0) at f.2.3 in
    let n = more_came c.args.audience gives i.came.0 f.0 _ _ _ (flushed c.args.audience gives i.came.0 _ _ _ _ m f.2.2) in
    rw c.in_ok-read_up_to.ensures.count (served_end c.args.audience gives _ _ (i.came.0 ++ f.0) _ _ _
    (Consumes-then _ _ _ i.came.0 f.0 i.came.1 f.1) filled.1 n refl (look.2 f.0 filled.0))

pub loop-chunk-preserved : goal.loop-chunk-preserved
loop-chunk-preserved g c =
    let gives = ItemAnswered g.H.Service c.args.service.now in
    let i = c.loop-chunk.invariant in
    let m = rw c.in-Some.is at (c.in_ok-wanted.ensures.answered _ _ i.came.0 i.came.2) in
    let f = c.in_ok-read_up_to.ensures.read in
    let n = more_came c.args.audience gives i.came.0 f.0 _ _ _ (flushed c.args.audience gives i.came.0 _ _ _ _ m f.2.2) in
    record {
      room = i.room;
      came = (
        i.came.0 ++ f.0,
        Consumes-then _ _ _ i.came.0 f.0 i.came.1 f.1,
        rw (f.2.0, f.2.1, c.in_ok-read_up_to.ensures.count) n,
      );
      reads = c.in_ok-read_up_to.ensures.cause.0 ∙ i.reads;
      writes = c.in_ok-read_up_to.ensures.cause.1 ∙ c.in_ok-wanted.ensures.cause ∙ i.writes;
    }

pub returns-in_err-flush-clause-stopped : goal.returns-in_err-flush-clause-stopped
returns-in_err-flush-clause-stopped g c =
    let gives = ItemAnswered g.H.Service c.args.service.now in
    let i = c.loop-chunk.invariant in
    let over = rw c.in_default.is at (c.in_ok-wanted.ensures.answered _ _ i.came.0 i.came.2) in
    let f = c.in_err-flush.ensures.failed in
    let p = err_from_is_err_and c.from_residual-in_err-flush.result
    c.from_residual-in_err-flush.ensures.1 in
    rw (p.1, p.2, f.0) (in_part c.args.audience gives _ _ i.came.0 _ _ _ i.came.1 (broken_end c.args.audience gives i.came.0 _ _ _ _
    over f.1))

pub returns-clause-served : goal.returns-clause-served
returns-clause-served g c =
    let gives = ItemAnswered g.H.Service c.args.service.now in
    let i = c.loop-chunk.invariant in
    let over = rw c.in_default.is at (c.in_ok-wanted.ensures.answered _ _ i.came.0 i.came.2) in
    served_over c.args.audience gives _ _ i.came.0 _ _ _ _ i.came.1 over c.in_ok-flush.ensures.ok.1
