use Rattle.std.proofs.Common.{◌≡◌, ℕ, List, ◌++◌, take, Option}
use Rattle.line_stream.specs.Answers.{Answered}
use Rattle.byte_streams.specs.Counted.{write_faults}
use Rattle.line_stream.specs.Inner.Midway.{IsMidway}
use Rattle.line_stream.specs.Inner.Steps.{line_place}
use Rattle.line_stream.proofs.serving.Progress.take.Given as goal

abbrev pub invariant-loop-byte : goal.invariant-loop-byte
invariant-loop-byte g l =
    let gives = Answered g.H.Handler in
    let contents = g.W.Write.contents in
    record {
      midway : (origin : _) (before : Option (List ℕ)) (came : List ℕ)
          → IsMidway gives came before origin (line_place contents l.fn.self l.fn.state l.fn.writer)
          → IsMidway gives (came ++ take l.byte-index l.bytes) before origin
          (line_place contents l.self l.state l.writer);
      same : write_faults l.writer ≡ write_faults l.fn.writer;
    }
