use Rattle.std.proofs.Common.{◌≡◌, ℕ, List, length, Option}
use Rattle.byte_streams.specs.Counted.{write_faults}
use Rattle.http_stream.specs.Answers.{ItemAnswered}
use Rattle.http_stream.specs.Inner.Midstream.{IsMidstream}
use Rattle.http_stream.specs.Inner.Steps.{stream_place}
use Rattle.http_stream.proofs.serving.StreamProgress.answer_buffered.Given as goal

abbrev pub invariant-loop-wanted : goal.invariant-loop-wanted
invariant-loop-wanted g l =
    let gives = ItemAnswered g.H.Service l.service in
    let contents = g.W.Write.contents in
    record {
      midway : (origin : _) (before : Option (List ℕ)) (came : List ℕ)
          → IsMidstream l.audience gives came before origin
          (stream_place contents l.fn.self (l.fn.clock, l.fn.state) l.fn.writer)
          → IsMidstream l.audience gives came before origin
          (stream_place contents l.self (l.clock, l.state) l.writer);
      same : write_faults l.writer ≡ write_faults l.fn.writer;
    }

abbrev pub decreases-loop-wanted : goal.decreases-loop-wanted
decreases-loop-wanted g l = length l.self.buffer
