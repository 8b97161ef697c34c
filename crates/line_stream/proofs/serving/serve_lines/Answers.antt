use Rattle.std.proofs.Common.{◌++◌, [], take, append-nil, ◌∙◌, ap, refl}
use Rattle.std.proofs.lemmas.Result.{err_from_is_err_and, MatchResult-weaker}
use Rattle.std.specs.Io.KnownBytes.{Consumes}
use Rattle.line_stream.specs.Answers.{Answered}
use Rattle.byte_streams.specs.Counted.{one_more, reader_of}
use Rattle.byte_streams.proofs.CountLemmas.{write_cause, write_flushed}
use Rattle.byte_streams.proofs.KnownLemmas.{OnOk-always, Consumes-then, Consumes-kept}
use Rattle.byte_streams.proofs.KnownLemmas.{Consumes-none}
use Rattle.line_stream.proofs.MidwayLemmas.{piece_of_chunk, midway_starts, midway_flushed}
use Rattle.line_stream.proofs.MidwayLemmas.{cut_at_flush, so_far_midway, in_part_cut, served_told}
use Rattle.line_stream.proofs.MidwayLemmas.{in_part_told}
use Rattle.line_stream.proofs.serving.serve_lines.Goals as goal

pub loop-chunk-init : goal.loop-chunk-init
loop-chunk-init g c =
    let gives = Answered g.H.Handler in
    let p = c.in_ok-progress.ensures in
    record {
      room = c.in_ok-chunk.ensures;
      came = ([], Consumes-none _, midway_starts gives _ p.0 p.1 p.2);
      reads = refl;
      writes = refl;
    }

pub returns-in_err-count-clause-stopped : goal.returns-in_err-count-clause-stopped
returns-in_err-count-clause-stopped g c =
    let gives = Answered g.H.Handler in
    let i = c.loop-chunk.invariant in
    let o = c.in_ok-flush.ensures.ok in
    let m = midway_flushed gives _ _ _ _ _ _ i.came.2 o.0 o.1 in
    let f = c.in_err-count.ensures.failed in
    let p = err_from_is_err_and c.from_residual-in_err-count.result
    c.from_residual-in_err-count.ensures.1 in
    rw (p.1, p.2, f.0) (so_far_midway gives _ _ i.came.0 _ _ _
    (Consumes-kept _ _ _ i.came.0 i.came.1 f.1) m o.0)

pub returns-then-count-eq0-clause-served : goal.returns-then-count-eq0-clause-served
returns-then-count-eq0-clause-served g c =
    let gives = Answered g.H.Handler in
    let i = c.loop-chunk.invariant in
    let o = c.in_ok-flush.ensures.ok in
    let m = midway_flushed gives _ _ _ _ _ _ i.came.2 o.0 o.1 in
    let none : Consumes (g.R.Read.remaining (reader_of c.loop-chunk.reader))
    (g.R.Read.remaining (reader_of c.read_some.new.reader)) [] =
    rw c.if-count-eq0.true at c.in_ok-count.ensures.came in
    let came = rw append-nil at (Consumes-then _ _ _ i.came.0 [] i.came.1 none) in
    let end = c.in_ok-count.ensures.end c.if-count-eq0.true in
    MatchResult-weaker c.finish.result (c.finish.ensures.answered _ _ i.came.0 m)
    (λ count s. served_told gives _ _ i.came.0 _ _ _ _ count came end s) (λ _ _. tt)

pub returns-then-count-eq0-clause-at_end : goal.returns-then-count-eq0-clause-at_end
returns-then-count-eq0-clause-at_end g c = OnOk-always c.finish.result (c.in_ok-count.ensures.end
    c.if-count-eq0.true)

pub returns-then-count-eq0-clause-stopped : goal.returns-then-count-eq0-clause-stopped
returns-then-count-eq0-clause-stopped g c =
    let gives = Answered g.H.Handler in
    let i = c.loop-chunk.invariant in
    let o = c.in_ok-flush.ensures.ok in
    let m = midway_flushed gives _ _ _ _ _ _ i.came.2 o.0 o.1 in
    let none : Consumes (g.R.Read.remaining (reader_of c.loop-chunk.reader))
    (g.R.Read.remaining (reader_of c.read_some.new.reader)) [] =
    rw c.if-count-eq0.true at c.in_ok-count.ensures.came in
    let came = rw append-nil at (Consumes-then _ _ _ i.came.0 [] i.came.1 none) in
    let end = c.in_ok-count.ensures.end c.if-count-eq0.true in
    MatchResult-weaker c.finish.result (c.finish.ensures.answered _ _ i.came.0 m) (λ _ _. tt)
    (λ fault f. rw f.0 (in_part_told gives _ _ i.came.0 _ _ _ _ came end f.1))

pub returns-in_err-take-clause-stopped : goal.returns-in_err-take-clause-stopped
returns-in_err-take-clause-stopped g c =
    let gives = Answered g.H.Handler in
    let i = c.loop-chunk.invariant in
    let o = c.in_ok-flush.ensures.ok in
    let m = midway_flushed gives _ _ _ _ _ _ i.came.2 o.0 o.1 in
    let count = c.in_ok-count.count in
    let piece = piece_of_chunk c.deref.result.now c.read_some.new.chunk _ _ count
    c.deref.ensures.value (c.read_some.auto.chunk ∙ c.deref_mut.ensures.len) in
    let came = Consumes-then _ _ _ i.came.0 (take count c.read_some.new.chunk) i.came.1
    c.in_ok-count.ensures.came in
    let f = c.in_err-take.ensures.answered _ _ i.came.0 m in
    let p = err_from_is_err_and c.from_residual-in_err-take.result
    c.from_residual-in_err-take.ensures.1 in
    rw (p.1, p.2, f.0) (in_part_cut gives _ _ _ _ _ _ came (rw piece at f.1))

pub returns-in_err-flush-clause-stopped : goal.returns-in_err-flush-clause-stopped
returns-in_err-flush-clause-stopped g c =
    let gives = Answered g.H.Handler in
    let i = c.loop-chunk.invariant in
    let f = c.in_err-flush.ensures.failed in
    let p = err_from_is_err_and c.from_residual-in_err-flush.result
    c.from_residual-in_err-flush.ensures.1 in
    rw (p.1, p.2, f.0) (in_part_cut gives _ _ _ _ _ _ i.came.1
    (cut_at_flush gives _ _ _ _ _ i.came.2 f.1))

pub loop-chunk-preserved : goal.loop-chunk-preserved
loop-chunk-preserved g c =
    let gives = Answered g.H.Handler in
    let i = c.loop-chunk.invariant in
    let o = c.in_ok-flush.ensures.ok in
    let m = midway_flushed gives _ _ _ _ _ _ i.came.2 o.0 o.1 in
    let count = c.in_ok-count.count in
    let piece = piece_of_chunk c.deref.result.now c.read_some.new.chunk _ _ count
    c.deref.ensures.value (c.read_some.auto.chunk ∙ c.deref_mut.ensures.len) in
    let came = Consumes-then _ _ _ i.came.0 (take count c.read_some.new.chunk) i.came.1
    c.in_ok-count.ensures.came in
    record {
      room = i.room;
      came = (
        i.came.0 ++ take count c.read_some.new.chunk,
        came,
        rw piece at c.in_ok-take.ensures.answered _ _ i.came.0 m,
      );
      reads = c.in_ok-count.ensures.cause ∙ i.reads;
      writes = c.in_ok-take.ensures.cause ∙ c.in_ok-flush.ensures.cause ∙ i.writes;
    }

pub returns-then-count-eq0-clause-cause : goal.returns-then-count-eq0-clause-cause
returns-then-count-eq0-clause-cause g c =
    let gives = Answered g.H.Handler in
    let i = c.loop-chunk.invariant in
    let o = c.in_ok-flush.ensures.ok in
    let m = midway_flushed gives _ _ _ _ _ _ i.came.2 o.0 o.1 in
    let writes = c.in_ok-flush.ensures.cause ∙ i.writes in
    write_cause c.args.reader.now c.read_some.new.reader c.args.writer.now c.finish.new.writer
    c.finish.result (c.in_ok-count.ensures.cause ∙ i.reads)
    (rw writes at c.finish.ensures.cause)
    (MatchResult-weaker c.finish.result (c.finish.ensures.answered _ _ i.came.0 m) (λ _ _. tt)
    (λ fault f. f.0))

pub returns-then-count-eq0-clause-flushed : goal.returns-then-count-eq0-clause-flushed
returns-then-count-eq0-clause-flushed g c =
    let gives = Answered g.H.Handler in
    let i = c.loop-chunk.invariant in
    let o = c.in_ok-flush.ensures.ok in
    let m = midway_flushed gives _ _ _ _ _ _ i.came.2 o.0 o.1 in
    write_flushed c.finish.new.writer c.finish.result c.finish.ensures.flushed
    (MatchResult-weaker c.finish.result (c.finish.ensures.answered _ _ i.came.0 m) (λ _ _. tt)
    (λ fault f. f.0))

pub returns-in_err-take-clause-cause : goal.returns-in_err-take-clause-cause
returns-in_err-take-clause-cause g c =
    let gives = Answered g.H.Handler in
    let i = c.loop-chunk.invariant in
    let o = c.in_ok-flush.ensures.ok in
    let m = midway_flushed gives _ _ _ _ _ _ i.came.2 o.0 o.1 in
    let f = c.in_err-take.ensures.answered _ _ i.came.0 m in
    let p = err_from_is_err_and c.from_residual-in_err-take.result
    c.from_residual-in_err-take.ensures.1 in
    rw (p.1, p.2, f.0) (
      c.in_ok-count.ensures.cause ∙ i.reads,
      c.in_err-take.ensures.cause ∙ ap
          one_more (c.in_ok-flush.ensures.cause ∙ i.writes),
    )

pub returns-in_err-take-clause-flushed : goal.returns-in_err-take-clause-flushed
returns-in_err-take-clause-flushed g c =
    let gives = Answered g.H.Handler in
    let i = c.loop-chunk.invariant in
    let o = c.in_ok-flush.ensures.ok in
    let m = midway_flushed gives _ _ _ _ _ _ i.came.2 o.0 o.1 in
    let f = c.in_err-take.ensures.answered _ _ i.came.0 m in
    let p = err_from_is_err_and c.from_residual-in_err-take.result
    c.from_residual-in_err-take.ensures.1 in
    rw (p.1, p.2, f.0) (λ read. cc)
