use Rattle.std.proofs.Common.{◌≡◌, ℕ, List, vec_len}
use Rattle.http_stream.specs.Inner.Midstream.{piece_size}
use Rattle.std.specs.Io.KnownBytes.{Consumes}
use Rattle.byte_streams.specs.Counted.{read_faults, reader_of, reads_left, write_faults, writer_of}
use Rattle.http_stream.specs.Answers.{ItemAnswered}
use Rattle.http_stream.specs.Inner.Midstream.{IsMidstream}
use Rattle.http_stream.specs.Inner.Steps.{stream_place}
use Rattle.http_stream.proofs.serving.serve_requests.Given as goal

abbrev pub invariant-loop-chunk : goal.invariant-loop-chunk
invariant-loop-chunk g l = record {
  room : vec_len l.chunk ≡ piece_size;
  came : (bytes : List ℕ) × Consumes (g.R.Read.remaining (reader_of l.fn.reader))
      (g.R.Read.remaining (reader_of l.reader)) bytes
      × IsMidstream l.audience (ItemAnswered g.H.Service l.service) bytes
      (g.W.Write.contents (writer_of l.fn.writer)) (l.fn.clock, l.fn.state)
      (stream_place g.W.Write.contents l.progress (l.clock, l.state) l.writer);
  reads : read_faults l.reader ≡ read_faults l.fn.reader;
  writes : write_faults l.writer ≡ write_faults l.fn.writer;
}

abbrev pub decreases-loop-chunk : goal.decreases-loop-chunk
decreases-loop-chunk g l = reads_left l.reader
