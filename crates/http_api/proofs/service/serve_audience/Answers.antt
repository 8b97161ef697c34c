use Rattle.std.proofs.lemmas.Result.{IfOk-weaker, IfErr-weaker}
use Rattle.byte_streams.specs.Counted.{reader_of, writer_of}
use Rattle.http_api.specs.Sites.{site_names}
use Rattle.http_api.proofs.Servings.{served_run, served_safe, stopped_run}
use Rattle.http_api.proofs.service.serve_audience.Goals as goal

pub returns-clause-served : goal.returns-clause-served
returns-clause-served g c = IfOk-weaker c.serve_requests.result _ _
    (served_run g.K.Keeper
    g.C.Clock.tells (site_names c.args.site.now).prefix.now (site_names c.args.site.now).suffix.now c.args.audience
    (g.R.Read.remaining (reader_of c.args.reader.now))
    (g.W.Write.contents (writer_of c.args.writer.now))
    (g.W.Write.contents (writer_of c.serve_requests.new.writer))
    (c.args.clock.now, c.args.book.now) (c.serve_requests.new.clock, c.serve_requests.new.state))
    c.serve_requests.ensures.served

pub returns-clause-stopped : goal.returns-clause-stopped
returns-clause-stopped g c = IfErr-weaker c.serve_requests.result _ _
    (stopped_run g.K.Keeper
    g.C.Clock.tells (site_names c.args.site.now).prefix.now (site_names c.args.site.now).suffix.now c.args.audience
    (g.R.Read.remaining (reader_of c.args.reader.now))
    (g.R.Read.remaining (reader_of c.serve_requests.new.reader))
    (g.W.Write.contents (writer_of c.args.writer.now))
    (g.W.Write.contents (writer_of c.serve_requests.new.writer))
    (c.args.clock.now, c.args.book.now) (c.serve_requests.new.clock, c.serve_requests.new.state) _)
    c.serve_requests.ensures.stopped

pub returns-clause-safe : goal.returns-clause-safe
returns-clause-safe g c = served_safe g.K.Keeper g.C.Clock.tells (site_names c.args.site.now).prefix.now
    (site_names c.args.site.now).suffix.now c.args.audience
    _ _ _ _ (c.args.clock.now, c.args.book.now) (
      c.serve_requests.new.clock,
      c.serve_requests.new.state,
    ) _ _ _ c.serve_requests.result
    (returns-clause-served g c) (returns-clause-stopped g c)
