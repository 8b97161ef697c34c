use Rattle.std.proofs.Common.{arith, sym}
use Rattle.http_messages.specs.Requests.{longest_head}
use Rattle.std.proofs.lemmas.List.{length-take, take_all}
use Rattle.http_messages.proofs.request.head_room.Goals as goal

pub slice_bounds-result-end : goal.slice_bounds-result-end
slice_bounds-result-end c = omega (arith, length-take longest_head c.args.buf.now)

pub returns-else-buf-gt-MAX_HEAD : goal.returns-else-buf-gt-MAX_HEAD
returns-else-buf-gt-MAX_HEAD c = sym (take_all longest_head c.args.buf.now
    c.if-buf-gt-MAX_HEAD.false)
