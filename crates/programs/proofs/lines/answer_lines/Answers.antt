use Rattle.std.proofs.Common.{◌≡◌, sym}
use Rattle.programs.proofs.Runs.{at_err, at_ok, ill, well}
use Rattle.programs.specs.Running.{StopsLines}
use Rattle.programs.proofs.lines.answer_lines.Goals as goal

pub returns-in-Ok-clause-answered : goal.returns-in-Ok-clause-answered
returns-in-Ok-clause-answered g c = at_ok c.run_lines-answered.result _ _ c.in-Ok.is
    (well c.run_lines-answered.result _ _ _ _ _ _
    (λ count served none flushed. (
      (
        count,
        (
          c.open_book-book.result,
          c.run_lines-answered.new.book,
          c.open_book-book.ensures,
          sym c.into_keeper-keeper.ensures,
          served,
          c.run_lines-answered.ensures.safe,
        ),
      ),
      none,
      flushed,
    ))
    c.run_lines-answered.ensures.served c.run_lines-answered.ensures.cause c.run_lines-answered.ensures.flushed)

pub returns-in-Err-clause-stopped : goal.returns-in-Err-clause-stopped
returns-in-Err-clause-stopped g c = at_err c.run_lines-answered.result _
    (StopsLines g.K.Keeper (λ k. k ≡ c.args.keeper) (λ k. k ≡ c.into_keeper-keeper.result)
    g.R.Read.remaining g.W.Write.contents c.args.reader.now c.run_lines-answered.new.reader
    c.args.writer.now c.run_lines-answered.new.writer) c.in-Err.is
    (ill c.run_lines-answered.result _ _ _ _ _ _
    (λ why stopped caused kept. (
      (
        c.open_book-book.result,
        c.run_lines-answered.new.book,
        c.open_book-book.ensures,
        sym c.into_keeper-keeper.ensures,
        stopped,
        c.run_lines-answered.ensures.safe,
      ),
      caused,
      kept,
    ))
    c.run_lines-answered.ensures.stopped c.run_lines-answered.ensures.cause c.run_lines-answered.ensures.flushed)
