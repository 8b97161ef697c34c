use Rattle.std.proofs.Common.{arith, rules}
use Rattle.http_messages.proofs.RequestLemmas.{refused_is, more_is, whole_is, short_front}
use Rattle.http_messages.proofs.request.whole.Goals as goal

pub returns-then-buf-end : goal.returns-then-buf-end
returns-then-buf-end c =
    let a = c.args in
    let r = c.requires in
    let at = r.head.1 in (
      omega arith,
      omega (
        arith,
        c.in-Body.ensures.small,
        r.within.section.len_fits,
        (short_front a.audience a.buf.now a.front.now r.front a.headers.now a.head.now r.room r.within
            r.head.0 at).0,
      ),
      more_is a.audience a.buf.now a.front.now r.front a.headers.now a.head.now r.room r.within r.head.0 at
          c.in-Body.length c.known_method-method.result (search rules) c.in-Body.ensures.value,
    )

pub returns-in-Faulty : goal.returns-in-Faulty
returns-in-Faulty c =
    let a = c.args in
    let r = c.requires in
    refused_is a.audience a.buf.now a.front.now r.front a.headers.now a.head.now r.room r.within r.head.0
    r.head.1 c.in-Faulty.why c.known_method-method.result (search rules)
    c.in-Faulty.ensures.value

pub returns-else-buf-end : goal.returns-else-buf-end
returns-else-buf-end c =
    let a = c.args in
    let r = c.requires in
    let w = whole_is a.audience a.buf.now a.front.now r.front a.headers.now a.head.now r.room r.within r.head.0
    r.head.1 c.in-Body.length c.known_method-method.result c.in-Some.method c.closes.result
    (search rules) c.in-Body.ensures.value c.in-Some.is c.if-buf-end.false c.closes.ensures in
    (w.0, (omega arith, c.if-buf-end.false), w.1)
