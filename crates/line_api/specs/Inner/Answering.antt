-- What answering one line does to a book.
use Rattle.std.specs.Prelude.{ℕ, List}
use Rattle.ring_book.specs.Book.{Asked, Found, Keeping, Made, RingBook}
use Rattle.line_api.specs.Lines.{IsAnswer, IsLost}

module _ {K : Type 0} (kept : Keeping K) where
  abbrev Book : Type 0
  Book = RingBook kept

  -- a line is answered by this text, and one book becomes the other
  abbrev pub Answers : Book → List ℕ → List ℕ → Book → Type 0
  Answers old line text new =
      (asked : Asked) × IsAnswer (Found kept 0 old new) line asked text ×
      Made kept old new asked

  -- the answer to a line is lost for want of memory, and one book becomes the other
  abbrev pub Loses : Book → List ℕ → Book → Type 0
  Loses old line new = (asked : Asked) × IsLost line asked × Made kept old new asked
