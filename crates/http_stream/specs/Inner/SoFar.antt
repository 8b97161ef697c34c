-- What serving the requests of a stream has done so far.
use Rattle.std.specs.Prelude.{ℕ, List, Option}
use Rattle.byte_streams.specs.Serving.{ServedInPart, ServedSoFar}
use Rattle.http_messages.specs.declared.audience.Audience.{Audience}
use Rattle.http_stream.specs.Streams.{Item, AreRequests, BeginWith}
use Rattle.http_stream.specs.Answers.{joined}

module _ (audience : Audience) {S : Type 0} (Get : S → List Item → List (List ℕ) → S → Type 0) where
  -- Each request that was whole in the bytes that came was answered, and the answers were written.
  -- They are the requests of a stream that ends there.
  abbrev pub RequestsServedSoFar : Option (List ℕ) → Option (List ℕ) → Option (List ℕ) →
      Option (List ℕ) → S → S → Type 0
  RequestsServedSoFar = ServedSoFar (BeginWith audience) (AreRequests audience) joined Get

  -- Some requests from the front of the stream were answered, and a beginning of the answers was
  -- written.
  abbrev pub RequestsServedInPart : Option (List ℕ) → Option (List ℕ) → Option (List ℕ) → S → S →
      Type 0
  RequestsServedInPart = ServedInPart (BeginWith audience) (AreRequests audience) joined Get
