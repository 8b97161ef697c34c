use Rattle.std.proofs.lemmas.Result.{IfErr-weaker, IfOk-weaker}
use Rattle.programs.proofs.Runs.{answers_new, stops_new}
use Rattle.programs.proofs.lines.run_over_memory.Goals as goal

pub returns-clause-answered : goal.returns-clause-answered
returns-clause-answered g c = let ran = c.answer_lines-answered in
    IfOk-weaker ran.result.0 _ _
    (λ count all. answers_new _ _ c.new_keeper.ensures.new _ g.R.Read.remaining g.W.Write.contents
    c.args.reader.now ran.new.reader c.args.writer.now ran.new.writer all)
    ran.ensures.answered

pub returns-clause-stopped : goal.returns-clause-stopped
returns-clause-stopped g c = let ran = c.answer_lines-answered in
    IfErr-weaker ran.result.0 _ _
    (stops_new _ _ c.new_keeper.ensures.new _ g.R.Read.remaining g.W.Write.contents
    c.args.reader.now ran.new.reader c.args.writer.now ran.new.writer)
    ran.ensures.stopped
