-- What serving one stream does.
use Rattle.std.specs.Prelude.{◌≡◌, ℕ, Err, List, None, Ok, Option, Result, Some}
use Rattle.byte_streams.specs.declared.fault.StreamFault.{StreamFault}
use Rattle.http_api.specs.Served.{ServesHttp}
use Rattle.http_messages.specs.declared.audience.Audience.{Audience}
use Rattle.http_sockets.specs.Connections.{Front, IsTalk, OneServed}
use Rattle.http_stream.specs.Serving.{RequestsStopped}
use Rattle.ring_book.specs.Book.{Keeping}

-- A fault stopped the serving of requests. Where no memory was there, the clock and the book are as
-- they were.
abbrev pub StopsServing : {K C : Type 0} (audience : Audience) (kept : Keeping K)
    (tells : C → ℕ → C → Type 0) (prefix suffix : List ℕ) → Option (List ℕ) → Option (List ℕ)
    → Option (List ℕ) → Option (List ℕ) → Front kept tells prefix suffix
    → Front kept tells prefix suffix → StreamFault → Type 0
StopsServing audience kept tells prefix suffix known left before after old new =
    RequestsStopped audience (ServesHttp kept tells prefix suffix) known left before after old new
    ((new.0 ≡ old.0) × (new.1 ≡ old.1))

-- A connection with these ends was served.
abbrev pub ServesEnds : {K C S : Type 0} (audience : Audience) (kept : Keeping K)
    (tells : C → ℕ → C → Type 0) (prefix suffix : List ℕ) (remaining contents : S → Option (List ℕ))
    (reader writer : S) → Front kept tells prefix suffix → Front kept tells prefix suffix → Type 0
ServesEnds audience kept tells prefix suffix remaining contents reader writer old new =
    (one : OneServed kept tells prefix suffix (IsTalk audience remaining contents) old new)
    × (one.connection.reader ≡ reader) × (one.connection.writer ≡ writer)

-- the fault that serving a stream ended with, if it ended with one
abbrev pub fault_in : Result ℕ StreamFault → Option StreamFault
fault_in (Ok count) = None
fault_in (Err why) = Some why
