use Rattle.std.proofs.Common.{◌≡◌, ◌∙◌, arith}
use Rattle.std.specs.Prelude.{◌<◌, ◌↔◌, IsTrue}
use Rattle.store_rows.specs.Judging.{IsBookFound}
use Rattle.store_rows.proofs.BookOpens.{refuted}
use Rattle.store_rows.proofs.BookRead.{last_found}
use Rattle.store_rows.proofs.BookRows.{last_of}
use Rattle.store_rows.proofs.books.book_at.Goals as goal

pub returns : goal.returns
returns c = λ requests says.
    let is : IsBookFound requests c.in-Some.book = rw c.in-Some.is at says.found in
    let last : IsTrue c.is_last.result ↔ (0 < c.in-Some.book.count → c.in-Some.book.last ≡ c.args.hour) =
    rw c.in-Some.is at c.is_last.ensures in
    rw c.in-Some.is (
      is.book,
      is.is,
      is.stands,
      last_of c.args.hour is.book (λ some. is.last ∙ last.0 c.if-not-is_last.false
          (omega (arith, some, is.count))),
      is.count,
      is.callers,
    )

pub returns-then-not-is_last : goal.returns-then-not-is_last
returns-then-not-is_last c = λ requests says count held.
    let is : IsBookFound requests c.in-Some.book = rw c.in-Some.is at says.found in
    let last : IsTrue c.is_last.result ↔ (0 < c.in-Some.book.count → c.in-Some.book.last ≡ c.args.hour) =
    rw c.in-Some.is at c.is_last.ensures in
    refuted _ _ c.if-not-is_last.true last (last_found c.one_text.ensures
    c.one_reply.ensures requests c.in-Some.book is held.0 held.1 held.2 c.args.hour held.3)
