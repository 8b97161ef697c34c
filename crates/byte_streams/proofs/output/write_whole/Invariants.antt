use Rattle.std.proofs.Common.{◌≡◌, ◌≤◌, length, take}
use Rattle.std.specs.Io.KnownBytes.{Appends}
use Rattle.byte_streams.specs.Counted.{calls_left, write_faults, writer_of}
use Rattle.byte_streams.proofs.output.write_whole.Given as goal

abbrev pub invariant-loop-at : goal.invariant-loop-at
invariant-loop-at g l = record {
  within : l.at ≤ length l.text;
  so_far : Appends (g.W.Write.contents (writer_of l.fn.writer))
      (g.W.Write.contents (writer_of l.writer)) (take l.at l.text);
  same : write_faults l.writer ≡ write_faults l.fn.writer;
}

abbrev pub decreases-loop-at : goal.decreases-loop-at
decreases-loop-at g l = calls_left l.writer
