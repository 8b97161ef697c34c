use Rattle.std.proofs.lemmas.Result.{IfOk-weaker, IfErr-weaker}
use Rattle.byte_streams.specs.Counted.{reader_of, writer_of}
use Rattle.line_api.proofs.Serving.{served_run, served_safe, stopped_run}
use Rattle.line_api.proofs.lines.run_lines.Goals as goal

pub returns-clause-served : goal.returns-clause-served
returns-clause-served g c = IfOk-weaker c.serve_lines.result _ _
    (served_run g.K.Keeper
    (g.R.Read.remaining (reader_of c.args.reader.now))
    (g.W.Write.contents (writer_of c.args.writer.now))
    (g.W.Write.contents (writer_of c.serve_lines.new.writer)) c.args.book.now
    c.serve_lines.new.state)
    c.serve_lines.ensures.served

pub returns-clause-stopped : goal.returns-clause-stopped
returns-clause-stopped g c = IfErr-weaker c.serve_lines.result _ _
    (stopped_run g.K.Keeper
    (g.R.Read.remaining (reader_of c.args.reader.now))
    (g.R.Read.remaining (reader_of c.serve_lines.new.reader))
    (g.W.Write.contents (writer_of c.args.writer.now))
    (g.W.Write.contents (writer_of c.serve_lines.new.writer)) c.args.book.now
    c.serve_lines.new.state _)
    c.serve_lines.ensures.stopped

pub returns-clause-safe : goal.returns-clause-safe
returns-clause-safe g c = served_safe g.K.Keeper _ _ _ _ c.args.book.now c.serve_lines.new.state _ _
    c.serve_lines.result
    (returns-clause-served g c) (returns-clause-stopped g c)
