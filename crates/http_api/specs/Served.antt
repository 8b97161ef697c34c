-- What serving requests does to a clock and a book, and what it writes.
use Rattle.std.specs.Prelude.{ℕ, List}
use Rattle.http_stream.specs.Streams.{Item}
use Rattle.request_book.specs.Front.{Serves}
use Rattle.ring_book.specs.Book.{Found, Keeping, RingBook, steps_of}
use Rattle.http_api.specs.Http.{GetsHttp}

module _ {K C : Type 0} (kept : Keeping K)
    (tells : C → ℕ → C → Type 0) (prefix suffix : List ℕ) where
  -- a clock and a book of the builder
  abbrev pub HttpFront : Type 0
  HttpFront = C × RingBook kept

  -- The requests get these texts, and the calls that they lead to are one run: of each request by
  -- what it asks for, from what the requests before it left.
  abbrev pub ServesHttp : HttpFront → List Item → List (List ℕ) → HttpFront → Type 0
  ServesHttp old items texts new =
      Serves steps_of kept.content kept.sound kept.limit kept.fault_count (λ front. front.1)
      (λ before item asked text after.
      GetsHttp tells prefix suffix (λ hour. Found kept hour before.1 after.1) before.0 item
      asked text after.0)
      old items texts new
