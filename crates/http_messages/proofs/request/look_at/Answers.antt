use Rattle.std.proofs.Common.{arith, subst, inl, inr, refl, ◌∙◌, length, ◌≤◌}
use Rattle.std.proofs.lemmas.List.{take_all}
use Rattle.httparse.specs.Grammar.{HasNoRequest, MayBecomeRequest}
use Rattle.httparse.specs.Spans.{RequestOverflows}
use Rattle.http_messages.specs.Requests.{StopsShort, longest_head, most_fields}
use Rattle.http_messages.proofs.RequestLemmas.{overflow_whole, none_more}
use Rattle.http_messages.proofs.request.look_at.Goals as goal

pub returns-then-buf-lt-MAX_HEAD : goal.returns-then-buf-lt-MAX_HEAD
returns-then-buf-lt-MAX_HEAD c =
    let buf = c.args.buf.now in
    let short : length buf ≤ longest_head = omega arith in
    let same = c.head_room-front.ensures ∙ take_all longest_head buf short in
    let told = rw c.in-Ok-Partial.field-0-is at c.in-Ok-Partial.ensures in (
      omega arith,
      omega arith,
      λ more lt. subst (StopsShort c.args.audience) (none_more buf more lt) (inl record {
        short =
            c.if-buf-lt-MAX_HEAD.true;
        none = subst HasNoRequest same told.partial;
        goes_on =
            subst MayBecomeRequest same told.unfinished;
      }),
    )

pub returns-else-buf-lt-MAX_HEAD : goal.returns-else-buf-lt-MAX_HEAD
returns-else-buf-lt-MAX_HEAD c =
    let told = rw c.in-Ok-Partial.field-0-is at c.in-Ok-Partial.ensures in
    inl (
      refl,
      inr (
        c.if-buf-lt-MAX_HEAD.false,
        subst HasNoRequest c.head_room-front.ensures
            told.partial,
      ),
    )

pub returns-in-Err : goal.returns-in-Err
returns-in-Err c = inl (
  refl,
  inl (overflow_whole c.args.buf.now (subst (RequestOverflows most_fields)
      c.head_room-front.ensures c.in-Err.ensures.no_room)),
)
