use Rattle.http_api.specs.Sites.{site_names}
use Rattle.http_sockets.proofs.Chains.{ended_so}
use Rattle.http_sockets.proofs.serving.serve_one.Goals as goal

pub returns-then-is_ok : goal.returns-then-is_ok
returns-then-is_ok g c =
    let ended = ended_so g.K.Keeper g.C.Clock.tells (site_names c.args.site.now).prefix.now
    (site_names c.args.site.now).suffix.now c.args.audience g.D.Stream.Read.remaining g.D.Stream.Write.contents
    c.new-reader.result.stream c.converse-talk.result.stream c.new-writer.result.stream
    c.converse-talk.result.writer.stream c.args.ends.reader c.args.ends.writer
    c.new-reader.ensures c.new-writer.ensures c.args.clock.now c.converse-talk.new.clock
    c.args.book.now c.converse-talk.new.book c.converse-talk.result.result
    c.converse-talk.ensures.served c.converse-talk.ensures.stopped in
    (ended.0, ended.1, ended.2)

pub returns-else-is_over : goal.returns-else-is_over
returns-else-is_over g c =
    let ended = ended_so g.K.Keeper g.C.Clock.tells (site_names c.args.site.now).prefix.now
    (site_names c.args.site.now).suffix.now c.args.audience g.D.Stream.Read.remaining g.D.Stream.Write.contents
    c.new-reader.result.stream c.converse-talk.result.stream c.new-writer.result.stream
    c.converse-talk.result.writer.stream c.args.ends.reader c.args.ends.writer
    c.new-reader.ensures c.new-writer.ensures c.args.clock.now c.converse-talk.new.clock
    c.args.book.now c.converse-talk.new.book c.converse-talk.result.result
    c.converse-talk.ensures.served c.converse-talk.ensures.stopped in
    (ended.0, ended.1, ended.2)
