use Rattle.std.proofs.Common.{rules}
use Rattle.http_messages.specs.declared.audience.Audience.TheVariants.{Anyone}
use Rattle.http_sockets.proofs.Chains.{ended_so}
use Rattle.http_sockets.proofs.looping.serve_capped.Goals as goal

pub returns : goal.returns
returns g c =
    let served = rw c.new-site.ensures at c.converse-talk.ensures.served in
    let stopped = rw c.new-site.ensures at c.converse-talk.ensures.stopped in
    let ended = ended_so g.K.Keeper g.C.Clock.tells c.args.names.prefix.now
    c.args.names.suffix.now Anyone g.S.Read.remaining g.S.Write.contents
    c.new-reader.result.stream c.converse-talk.result.stream c.new-writer.result.inner.stream
    c.converse-talk.result.writer.inner.stream c.args.ends.reader c.args.ends.writer
    c.new-reader.ensures (search rules) c.args.clock.now c.converse-talk.new.clock c.args.book.now
    c.converse-talk.new.book c.converse-talk.result.result served stopped in
    (ended.0, ended.3)
