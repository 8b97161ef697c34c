use Rattle.std.proofs.lemmas.Result.{err_from_is_err_and}
use Rattle.ring_reads.specs.Holding.{holding_of}
use Rattle.ring_reads.specs.declared.reads.Hidden.TheVariants.{NoMemory}
use Rattle.ring_reads.proofs.Hiding.{no_memory_hides}
use Rattle.programs.proofs.showing.shown_bytes.Goals as goal

pub returns-in_err-end_line-clause-fault : goal.returns-in_err-end_line-clause-fault
returns-in_err-end_line-clause-fault c =
    let shown = c.in_ok-bytes.ensures.shown in
    let p = err_from_is_err_and c.from_residual-in_err-end_line.result
    c.from_residual-in_err-end_line.ensures.1 in
    rw (p.1) (
      NoMemory,
      no_memory_hides c.args.names.prefix.now c.args.names.suffix.now (holding_of c.args.held.now)
          c.args.question.now c.in_ok-bytes.bytes.items shown,
      p.2,
    )
