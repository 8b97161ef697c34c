use Rattle.std.proofs.Common.{◌≡◌}
use Rattle.std.specs.Io.KnownBytes.{Keeps}
use Rattle.byte_streams.specs.Counted.{calls_left, write_faults, writer_of}
use Rattle.byte_streams.proofs.output.flush_writer.Given as goal

abbrev pub invariant-loop-writer : goal.invariant-loop-writer
invariant-loop-writer g l = record {
  kept : Keeps (g.W.Write.contents (writer_of l.fn.writer))
      (g.W.Write.contents (writer_of l.writer));
  same : write_faults l.writer ≡ write_faults l.fn.writer;
}

abbrev pub decreases-loop-writer : goal.decreases-loop-writer
decreases-loop-writer g l = calls_left l.writer
