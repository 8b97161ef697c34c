-- What answering one request does to a clock and a book.
use Rattle.std.specs.Prelude.{ℕ, List}
use Rattle.http_messages.specs.Requests.{Ask}
use Rattle.ring_book.specs.Book.{Asked, Found, Keeping, Made}
use Rattle.http_api.specs.Http.{IsHttpAnswer, IsHttpLost}
use Rattle.http_api.specs.Served.{HttpFront}

module _ {K C : Type 0} (kept : Keeping K)
    (tells : C → ℕ → C → Type 0) (prefix suffix : List ℕ) where
  abbrev Front : Type 0
  Front = HttpFront {C = C} kept tells prefix suffix

  -- a request is answered by this text, and one front becomes the other
  abbrev pub HttpAnswers : Front → Ask → List ℕ → Front → Type 0
  HttpAnswers old ask text new =
      (asked : Asked) × IsHttpAnswer tells prefix suffix (λ hour. Found kept hour old.1
      new.1) old.0 ask asked text new.0
      × Made kept old.1 new.1 asked

  -- the answer to a request is lost for want of memory, and one front becomes the other
  abbrev pub HttpLoses : Front → Ask → Front → Type 0
  HttpLoses old ask new =
      (asked : Asked) × IsHttpLost tells prefix suffix old.0 ask asked new.0 ×
      Made kept old.1 new.1 asked
