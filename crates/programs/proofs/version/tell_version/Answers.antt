use Rattle.std.proofs.Common.{List, ap, subst, ℕ}
use Rattle.std.proofs.lemmas.Result.{err_from_is_err_and}
use Rattle.std.specs.Io.KnownBytes.{Appends}
use Rattle.byte_streams.specs.Counted.{writer_of}
use Rattle.byte_streams.specs.Writing.{WritesBeginning}
use Rattle.program_stores.specs.Faults.{stream_fault}
use Rattle.programs.proofs.version.tell_version.Goals as goal

pub returns-in_err-write_text-clause-failed : goal.returns-in_err-write_text-clause-failed
returns-in_err-write_text-clause-failed g c =
    let p = err_from_is_err_and c.from_residual.result c.from_residual.ensures.1 in
    rw (p.1, p.2) (
      ap stream_fault c.in_err-write_text.ensures.failed.0,
      subst (λ (t : List ℕ). WritesBeginning (g.W.Write.contents (writer_of c.args.writer.now))
          (g.W.Write.contents (writer_of c.write_text.new.writer)) t) c.as_bytes.ensures.value
          c.in_err-write_text.ensures.failed.1,
      c.in_err-write_text.ensures.cause,
    )

pub returns-clause-told : goal.returns-clause-told
returns-clause-told g c = (
  subst (λ (t : List ℕ). Appends (g.W.Write.contents (writer_of c.args.writer.now))
      (g.W.Write.contents (writer_of c.write_text.new.writer)) t) c.as_bytes.ensures.value
      c.in_ok-write_text.ensures.ok,
  c.in_ok-write_text.ensures.cause,
  c.in_ok-write_text.ensures.flushed,
)
