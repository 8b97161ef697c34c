-- What serving lines does to a book, and what it writes.
use Rattle.std.specs.Prelude.{ℕ, List}
use Rattle.request_book.specs.Front.{Serves}
use Rattle.ring_book.specs.Book.{Found, Keeping, RingBook, steps_of}
use Rattle.line_api.specs.Lines.{Gets}

module _ {K : Type 0} (kept : Keeping K) where
  abbrev Book : Type 0
  Book = RingBook kept

  -- The lines get these texts, and the calls that they lead to are one run: of each line by what it
  -- asks for, from what the lines before it left.
  abbrev pub ServesLines : Book → List (List ℕ) → List (List ℕ) → Book → Type 0
  ServesLines old lines texts new = Serves steps_of kept.content kept.sound kept.limit
      kept.fault_count (λ book. book)
      (λ before line asked text after. Gets (Found kept 0 before after) line asked text) old lines texts
      new
