use Rattle.std.proofs.Common.{◌≡◌, vec_len}
use Rattle.byte_streams.specs.Pieces.{chunk_size}
use Rattle.std.specs.Io.KnownBytes.{Consumes}
use Rattle.byte_streams.specs.Counted.{counted_of, read_faults, reader_of, reads_left}
use Rattle.byte_streams.proofs.input.read_all.Given as goal

abbrev pub invariant-loop-bytes : goal.invariant-loop-bytes
invariant-loop-bytes g l = record {
  room : vec_len l.chunk ≡ chunk_size;
  came : Consumes (g.R.Read.remaining (reader_of (counted_of l.fn.reader)))
      (g.R.Read.remaining (reader_of (counted_of l.reader))) l.bytes.items;
  same : read_faults (counted_of l.reader) ≡ read_faults (counted_of l.fn.reader);
}

abbrev pub decreases-loop-bytes : goal.decreases-loop-bytes
decreases-loop-bytes g l = reads_left (counted_of l.reader)
