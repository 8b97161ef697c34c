-- What serving connections, one after another, does to a clock and a book.
use Rattle.std.specs.Prelude.{◌≡◌, ◌⊎◌, ◌<◌, ◌-◌, ◌^◌, ℕ, List, [], ◌∷◌, All, None, Option, Some, flat_map}
use Rattle.std.specs.Prelude.{length, MatchResult, Result}
use Rattle.std.specs.Io.KnownBytes.{Appends, Consumes}
use Rattle.byte_streams.specs.Counted.{one_more}
use Rattle.byte_streams.specs.Serving.{Tells}
use Rattle.byte_streams.specs.Writing.{WritesBeginning}
use Rattle.byte_streams.specs.declared.fault.StreamFault.{StreamFault}
use Rattle.byte_streams.specs.declared.fault.StreamFault.TheVariants.{NoMemory, ReadFailed}
use Rattle.byte_streams.specs.declared.fault.StreamFault.TheVariants.{WriteFailed}
use Rattle.http_api.specs.Served.{HttpFront, ServesHttp}
use Rattle.http_messages.specs.declared.audience.Audience.{Audience}
use Rattle.http_sockets.specs.declared.fault.ServeFault.{ServeFault}
use Rattle.http_sockets.specs.declared.fault.ServeFault.TheVariants as fault
use Rattle.http_sockets.specs.declared.fault.ServiceEnd.{ServiceEnd}
use Rattle.http_sockets.specs.declared.fault.ServiceEnd.TheVariants as ended
use Rattle.http_stream.specs.Answers.{joined}
use Rattle.http_stream.specs.Streams.{AreRequests, BeginWith, Item}
use Rattle.ring_book.specs.Book.{Keeping}

-- a connection: both ends of its stream as they came, the requests that were answered, their
-- answers, and the fault that ended it, where it did not end with the stream
pub record Connection (S : Type 0) : Type 0 where
  pub reader : S
  pub writer : S
  pub items : List Item
  pub texts : List (List ℕ)
  pub fault : Option StreamFault

-- how many bytes a connection of this machine with itself carries at most each way
abbrev pub most_looped : ℕ
most_looped = 32768

-- the requests that were answered, of one connection after another
abbrev pub items_of : {S : Type 0} → List (Connection S) → List Item
items_of connections = flat_map (λ connection. connection.items) connections

-- the answers, of one connection after another
abbrev pub answers_of : {S : Type 0} → List (Connection S) → List (List ℕ)
answers_of connections = flat_map (λ connection. connection.texts) connections

-- These connections were given, one after another, and the first became the second.
abbrev pub GivesInTurn : {D S : Type 0} → (D → S → S → D → Type 0) → D → List (Connection S) → D →
    Type 0
GivesInTurn gives old [] new = new ≡ old
GivesInTurn {D} gives old (connection ∷ connections) new =
    (mid : D) × gives old connection.reader connection.writer mid ×
    GivesInTurn gives mid connections new

-- Of the bytes that a stream has, where it tells them, these come first.
abbrev pub ComeFirst : Option (List ℕ) → List ℕ → Type 0
ComeFirst known bytes = (left : Option (List ℕ)) × Consumes known left bytes

-- What was answered are the first requests that an audience sent of what the stream has.
abbrev pub AnswersFirst : {S : Type 0} → Audience → (S → Option (List ℕ)) → Connection S → Type 0
AnswersFirst audience remaining connection = (bytes : List ℕ)
    × ComeFirst (remaining connection.reader) bytes × BeginWith audience bytes connection.items

module _ (audience : Audience) {S : Type 0} (remaining contents : S → Option (List ℕ)) where
  -- What was answered of these bytes of a connection, by what ended it, and what its writer then
  -- tells. At the end of the stream every request of all its bytes was answered, and the answers
  -- were written. Where a read failed, every request of the bytes that came before; where a write
  -- failed, the first of them, and a beginning of the answers was written. Where no memory was
  -- there, none was answered.
  abbrev pub AnswersBefore : Option StreamFault → List ℕ → Connection S → S → Type 0
  AnswersBefore None bytes connection late =
      Tells (remaining connection.reader) bytes × AreRequests audience bytes connection.items
      × Appends (contents connection.writer) (contents late) (joined connection.texts)
  AnswersBefore (Some ReadFailed) bytes connection late =
      ComeFirst (remaining connection.reader) bytes × AreRequests audience bytes connection.items
      × Appends (contents connection.writer) (contents late) (joined connection.texts)
  AnswersBefore (Some WriteFailed) bytes connection late =
      ComeFirst (remaining connection.reader) bytes × BeginWith audience bytes connection.items
      × WritesBeginning (contents connection.writer) (contents late) (joined connection.texts)
  AnswersBefore (Some NoMemory) bytes connection late =
      (connection.items ≡ []) × (connection.texts ≡ [])

  -- A connection was served.
  pub record IsTalk (connection : Connection S) : Type 0 where
    pub bytes : List ℕ
    pub late : S
    pub answered : AnswersBefore connection.fault bytes connection late

module _ {K C : Type 0} (kept : Keeping K)
    (tells : C → ℕ → C → Type 0) (prefix suffix : List ℕ) where
  -- a clock and a book of the builder
  abbrev pub Front : Type 0
  Front = HttpFront {C = C} kept tells prefix suffix

  module _ {S : Type 0} (Served : Connection S → Type 0) where
    -- One connection was served so, and its requests made one front the other.
    pub record OneServed (old new : Front) : Type 0 where
      pub connection : Connection S
      pub served : Served connection
      pub serves : ServesHttp kept tells prefix suffix old connection.items connection.texts new

    -- One connection was served so, and this ended it.
    abbrev pub OneEnded : Front → Front → Option StreamFault → Type 0
    OneEnded old new why = (one : OneServed old new) × (one.connection.fault ≡ why)

    -- One connection was served so, or nothing was done.
    abbrev pub OneServedOrNone : Front → Front → Type 0
    OneServedOrNone old new = (new ≡ old) ⊎ OneServed old new

    -- Serving bytes by way of a socket failed so, where a writer, who takes the answers in the end,
    -- had failed so often before, and so often after. A fault of the connection ended it. Else the
    -- writer failed once more; or there was no memory to begin with; or the machine's sockets failed.
    abbrev pub LoopFails : Front → Front → ℕ → ℕ → ServeFault → Type 0
    LoopFails old new before after fault.NetFailed = (after ≡ before) × OneServedOrNone old new
    LoopFails old new before after (fault.Stream WriteFailed) =
        ((after ≡ one_more before) × OneServed old new)
        ⊎ ((after ≡ before) × OneEnded old new (Some WriteFailed))
    LoopFails old new before after (fault.Stream ReadFailed) =
        (after ≡ before) × OneEnded old new (Some ReadFailed)
    LoopFails old new before after (fault.Stream NoMemory) =
        (after ≡ before) × ((new ≡ old) ⊎ OneEnded old new (Some NoMemory))

    module _ {D : Type 0} (gives : D → S → S → D → Type 0) where
      -- So many connections came, one after another, and each was served so. Their requests, one
      -- connection after another, are as those of one stream: the calls that they lead to are one
      -- run.
      pub record ConnectionsServed (count : ℕ) (door later : D) (old new : Front) : Type 0 where
        pub connections : List (Connection S)
        pub count_is : length connections ≡ count
        pub came : GivesInTurn gives door connections later
        pub served : All Served connections
        pub serves : ServesHttp kept tells prefix suffix old
            (items_of connections) (answers_of connections) new

      module _ (fails : D → D → Type 0) where
        -- So many connections were served, and then none came any more.
        pub record NoneCame (count : ℕ) (door later : D) (old new : Front) : Type 0 where
          pub last : D
          pub all : ConnectionsServed count door last old new
          pub failed : fails last later

        -- Fewer connections were served, and then none came any more.
        pub record FewerServed (count : ℕ) (door later : D) (old new : Front) : Type 0 where
          pub number : ℕ
          pub fewer : number < count
          pub then : NoneCame number door later old new

        -- So many connections were served, or the net failed before as many were.
        abbrev pub ServedUpTo : ℕ → D → D → Front → Front → Result (Unit {0}) ServeFault → Type 0
        ServedUpTo count door later old new result =
            MatchResult result (λ _. ConnectionsServed count door later old new)
            (λ why. (why ≡ fault.NetFailed) × FewerServed count door later old new)

        -- Connections were served until this ended it: the store had failed, or it had not and none
        -- came any more, or 2^64 - 1 were served.
        abbrev pub ServedUntil : D → D → Front → Front → ServiceEnd → Type 0
        ServedUntil door later old new ended.StoreFailed =
            (0 < kept.fault_count new.1.keeper)
            × ((count : ℕ) × ConnectionsServed count door later old new)
        ServedUntil door later old new ended.NetFailed =
            (kept.fault_count new.1.keeper ≡ 0)
            × ((count : ℕ) × NoneCame count door later old new)
        ServedUntil door later old new ended.AllServed =
            (kept.fault_count new.1.keeper ≡ 0)
            × ConnectionsServed (2 ^ 64 - 1) door later old new

        module _ (opens : ℕ → D → Type 0) where
          -- A port was opened, and so many connections of it were served.
          abbrev pub PortServed : ℕ → ℕ → Front → Front → Type 0
          PortServed port count old new = (door later : D) × opens port door
              × ConnectionsServed count door later old new

          module _ (shuts : ℕ → Type 0) where
            -- The port can't be had, and nothing was served; or it was opened, and fewer
            -- connections were served before none came any more.
            abbrev pub PortFailed : ℕ → ℕ → Front → Front → Type 0
            PortFailed port count old new = (shuts port × (new ≡ old))
                ⊎ ((door later : D) × opens port door × FewerServed count door later old new)
