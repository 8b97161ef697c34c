use Rattle.std.proofs.Common.{◌≡◌, ◌≤◌}
use Rattle.std.specs.Io.KnownBytes.{Keeps}
use Rattle.byte_streams.specs.Counted.{read_faults, reader_of, reads_left}
use Rattle.byte_streams.proofs.input.read_piece.Given as goal

abbrev pub invariant-loop-count : goal.invariant-loop-count
invariant-loop-count g l = record {
  kept : Keeps (g.R.Read.remaining (reader_of l.fn.reader))
      (g.R.Read.remaining (reader_of l.reader));
  fewer : reads_left l.reader ≤ reads_left l.fn.reader;
  same : read_faults l.reader ≡ read_faults l.fn.reader;
}

abbrev pub decreases-loop-count : goal.decreases-loop-count
decreases-loop-count g l = reads_left l.reader
