use Rattle.std.proofs.Common.{length, ◌<◌, arith, sym}
use Rattle.http_messages.proofs.FieldLemmas.{any_at}
use Rattle.http_messages.proofs.fields.closes.Goals as goal

pub returns-then-asks_to_close : goal.returns-then-asks_to_close
returns-then-asks_to_close c =
    let lt : c.loop-header.header-index < length c.args.headers.now = omega arith in
    sym (any_at c.args.buf.now c.args.headers.now c.loop-header.header-index _ lt
    (sym c.if-asks_to_close.ensures))
