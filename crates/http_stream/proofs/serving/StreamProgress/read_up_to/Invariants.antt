use Rattle.std.proofs.Common.{◌≡◌, ◌≤◌, ◌<◌, ℕ, List, [], ◌++◌, length}
use Rattle.http_stream.specs.Inner.Midstream.{piece_size}
use Rattle.std.specs.Io.KnownBytes.{Consumes, Appends}
use Rattle.byte_streams.specs.Counted.{IsFlushed, read_faults, reader_of, reads_left, write_faults}
use Rattle.byte_streams.specs.Counted.{writer_of}
use Rattle.http_stream.proofs.serving.StreamProgress.read_up_to.Given as goal

abbrev pub invariant-loop-reader : goal.invariant-loop-reader
invariant-loop-reader g l = record {
  came : (more : List ℕ) × Consumes (g.R.Read.remaining (reader_of l.fn.reader))
      (g.R.Read.remaining (reader_of l.reader)) more
      × (l.self.buffer ≡ l.fn.self.buffer ++ more);
  empty : l.self.outbox ≡ [];
  count : l.self.answered ≡ l.fn.self.answered;
  wrote : Appends (g.W.Write.contents (writer_of l.fn.writer))
      (g.W.Write.contents (writer_of l.writer)) l.fn.self.outbox;
  room : length l.chunk ≡ piece_size;
  flushed : IsFlushed l.writer;
  reads : read_faults l.reader ≡ read_faults l.fn.reader;
  writes : write_faults l.writer ≡ write_faults l.fn.writer;
  fewer : reads_left l.reader ≤ reads_left l.fn.reader;
  some : length l.fn.self.buffer < length l.self.buffer → reads_left l.reader < reads_left
      l.fn.reader;
}

abbrev pub decreases-loop-reader : goal.decreases-loop-reader
decreases-loop-reader g l = reads_left l.reader
