use Rattle.std.proofs.Common.{◌+◌, ◌++◌, ℕ, List, take, drop, subst, refl, ◌∙◌, arith}
use Rattle.std.proofs.lemmas.Grind.{common_steps}
use Rattle.std.proofs.lemmas.Result.{err_from_is_err_and}
use Rattle.line_stream.specs.Answers.{Answered}
use Rattle.line_stream.specs.Inner.Midway.{IsCutOff}
use Rattle.line_stream.specs.Inner.Steps.{line_place}
use Rattle.line_stream.proofs.MidwayLemmas.{more_taken, all_taken, midway_byte, midway_feed}
use Rattle.line_stream.proofs.MidwayLemmas.{cut_at_feed, cut_longer}
use Rattle.line_stream.proofs.serving.Progress.take.Goals as goal
use Rattle.line_stream.proofs.serving.Progress.take.Goals.{then-byte-eq10+in_ok-end_line}
use Rattle.line_stream.proofs.serving.Progress.take.Goals.{else-byte-eq10}

pub returns-in_err-end_line-clause-answered : goal.returns-in_err-end_line-clause-answered
returns-in_err-end_line-clause-answered g c = λ origin before came m.
    let gives = Answered g.H.Handler in
    let bytes = c.args.bytes.now in
    let i = c.loop-byte.byte-index in
    let e = c.in_err-end_line.ensures.answered in
    let p = err_from_is_err_and c.from_residual.result c.from_residual.ensures.1 in
    let n = c.end_line.new in
    let Cut : List ℕ → Type 0 = λ t. IsCutOff gives t before origin
    (line_place g.W.Write.contents n.self n.state n.writer) in
    let cut = cut_at_feed gives (came ++ take i bytes) before origin _ _ e.0
    (c.loop-byte.invariant.midway origin before came m) e.1 e.2.1 in
    let here = subst Cut (more_taken came bytes i 10 c.loop-byte-test.true c.if-byte-eq10.true) cut
    in
    rw (p.1, p.2) (
      e.2.0,
      subst Cut (all_taken came bytes (i + 1))
          (cut_longer gives _ (drop (i + 1) bytes) before origin _ here),
    )

pub loop-byte-preserved : goal.loop-byte-preserved
loop-byte-preserved g c =
    let gives = Answered g.H.Handler in
    let bytes = c.args.bytes.now in
    let i = c.loop-byte.byte-index in
    elim c.if-byte-eq10.branch [
      | then-byte-eq10+in_ok-end_line w ↦
          let e = w.in_ok-end_line.ensures.answered in
          record {
            midway = λ origin before came m.
                let so_far = c.loop-byte.invariant.midway origin before came m in
                let fed = midway_feed gives (came ++ take i bytes) before origin _ _ e.0 so_far e.1
                e.2.0 e.2.1 e.2.2 in
                rw (
                  w.self-is,
                  w.state-is,
                  w.writer-is,
                  ← more_taken came bytes i 10 c.loop-byte-test.true w.if-byte-eq10.true,
                ) fed;
            same = rw w.writer-is (w.in_ok-end_line.ensures.cause ∙ c.loop-byte.invariant.same);
          }
      | else-byte-eq10 w ↦
          record {
            midway = λ origin before came m.
                let so_far = c.loop-byte.invariant.midway origin before came m in
                rw (
                  w.self-is,
                  w.state-is,
                  w.writer-is,
                  ← more_taken came bytes i _ c.loop-byte-test.true refl,
                )
                (midway_byte gives (came ++ take i bytes) before origin _ _ _ so_far
                w.if-byte-eq10.false w.push.ensures);
            same = rw w.writer-is c.loop-byte.invariant.same;
          }
    ]

pub returns-clause-answered : goal.returns-clause-answered
returns-clause-answered g c = grind (arith, common_steps)
