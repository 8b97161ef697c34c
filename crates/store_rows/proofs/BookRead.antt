-- A book that was read of the rows of a store, and the book for which the rows stand.
use Rattle.std.proofs.Common.{◌≡◌, ◌∙◌, ℕ, List, ap, sym, arith}
use Rattle.std.specs.Prelude.{◌<◌, length}
use Rattle.std.specs.FinMap.{FinMap, from_entries}
use Rattle.ring_words.specs.declared.command.Command.{Command}
use Rattle.ring_words.specs.declared.command.Reply.{Reply}
use Rattle.ring_messages.specs.Commands.{canonical, IsProperCommand}
use Rattle.ring_messages.specs.Replies.{reply_text, IsProperReply}
use Rattle.request_book.specs.Run.{last_hour}
use Rattle.store_model.specs.Entries.{Request, name_number_cmp}
use Rattle.store_rows.specs.Judging.{IsBookFound}
use Rattle.store_rows.specs.Stands.{DecidedRequest, IsBook, request_entries}
use Rattle.store_rows.specs.declared.books.FoundBook.{FoundBook}
use Rattle.store_rows.proofs.BookOpens.{last_from}
use Rattle.store_rows.proofs.OneBook.{one_table}

module _ (one_text : (c d : Command) → IsProperCommand c → IsProperCommand d →
    canonical c ≡ canonical d → c ≡ d)
    (one_reply : (r s : Reply) → IsProperReply r → IsProperReply s → reply_text r ≡ reply_text s →
    r ≡ s) (requests : FinMap name_number_cmp Request) (found : FoundBook)
    (is : IsBookFound requests found) (book : List DecidedRequest) (held : IsBook book)
    (stands : requests ≡ from_entries (request_entries book)) where
  -- the rows of requests are those of one book
  pub one_found : is.book ≡ book
  one_found = one_table one_text one_reply is.book book is.is held (sym is.stands ∙ stands)

  -- so its last request was decided at the hour from which its store goes on
  pub last_found : (hour : ℕ) → last_hour hour book ≡ hour → 0 < found.count → found.last ≡ hour
  last_found hour at some =
      let count : length book ≡ found.count = ap length (sym one_found) ∙ is.count in
      sym is.last ∙ ap (last_hour 0) one_found ∙ last_from 0 hour book (omega (arith, count, some))
      ∙ at
