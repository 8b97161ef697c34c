-- What is served over one connection after another.
use Rattle.std.proofs.Common.{◌++◌, ◌≡◌, ◌∙◌, ◌∷◌, ◌+◌, ◌^◌, ◌<◌, Err, IfErr, IfOk, List, None, Ok}
use Rattle.std.proofs.Common.{Option, Result, Some, [], ap, append-nil, arith, inl, inr, length}
use Rattle.std.proofs.Common.{length-append, refl, suc, subst, sym, ℕ}
use Rattle.std.proofs.lemmas.Grind.{flat_map-append}
use Rattle.std.proofs.lemmas.List.Elements.{All-append, All-cons, All-nil}
use Rattle.std.specs.Prelude.{⊤}
use Rattle.std.specs.Prelude.{MatchResult}
use Rattle.builder.proofs.Proper.{safe_run}
use Rattle.byte_streams.specs.Counted.{Counts, one_more as one_fault}
use Rattle.builder.specs.Safety.{IsSafeRun}
use Rattle.request_book.specs.Front.{is_closed}
use Rattle.byte_streams.specs.declared.fault.StreamFault.{StreamFault}
use Rattle.byte_streams.specs.declared.fault.StreamFault.TheVariants.{NoMemory, ReadFailed}
use Rattle.byte_streams.specs.declared.fault.StreamFault.TheVariants.{WriteFailed}
use Rattle.http_api.proofs.Servings.{proper_requests}
use Rattle.http_api.specs.Served.{ServesHttp}
use Rattle.http_sockets.proofs.Joined.{serves_none, serves_on}
use Rattle.http_messages.specs.declared.audience.Audience.{Audience}
use Rattle.http_sockets.specs.Connections.{AnswersBefore, ComeFirst, Connection, ConnectionsServed}
use Rattle.http_sockets.specs.Connections.{LoopFails, Front, GivesInTurn, IsTalk, OneEnded}
use Rattle.http_sockets.specs.Connections.{OneServed, ServedUpTo}
use Rattle.http_sockets.specs.Connections.{answers_of, items_of}
use Rattle.http_sockets.specs.Inner.Stopping.{StopsServing, fault_in}
use Rattle.http_sockets.specs.Listening.{AcceptsNone, AcceptsOne, accepted_count, net_faults}
use Rattle.http_sockets.specs.declared.fault.ServeFault.{ServeFault}
use Rattle.http_sockets.specs.declared.fault.ServeFault.TheVariants.{Stream}
use Rattle.http_sockets.specs.declared.server.Server.{Server}
use Rattle.byte_streams.specs.Serving.{Tells}
use Rattle.http_stream.specs.Serving.{RequestsServed}
use Rattle.http_stream.specs.Streams.{AreRequests, BeginWith, Calls, Follow, Item, Refuses}
use Rattle.http_messages.specs.Requests.{StopsShort}
use Rattle.ring_book.specs.Book.{Keeping, RingBook, steps_of}

-- nothing is in front of nothing
front_of_none : {A : Type 0} (front back : List A) → front ++ back ≡ [] → front ≡ []
front_of_none [] back none = refl
front_of_none (x ∷ front) back none =
    let more : suc (length (front ++ back)) ≡ 0 = ap length none in absurd (omega (arith, more))

-- What comes first of the requests of a stream is what it begins with.
begins : (audience : Audience) (stops : List ℕ → Type 0) (answered others : List Item) (bytes : List ℕ) →
    Follow audience stops bytes (answered ++ others) → BeginWith audience bytes answered
begins audience stops [] others bytes are = tt
begins audience stops (Refuses why ∷ items) others bytes (faulty, none) = (
  faulty,
  front_of_none items others none,
)
begins audience stops (Calls ask ∷ items) others bytes (rest, asks, inl (last, none)) = (
  rest,
  asks,
  inl (last, front_of_none items others none),
)
begins audience stops (Calls ask ∷ items) others bytes (rest, asks, inr (more, are)) = (
  rest,
  asks,
  inr (more, begins audience stops items others rest are),
)

pub begin_all : (audience : Audience) (items : List Item) (bytes : List ℕ)
    → AreRequests audience bytes items → BeginWith audience bytes items
begin_all audience items bytes are =
    begins audience (StopsShort audience) items [] bytes
    (subst (λ (xs : List Item). AreRequests audience bytes xs) (sym (append-nil items)) are)

-- What is all of the bytes that are told begins them.
pub told_begins : (known : Option (List ℕ)) (bytes : List ℕ) → Tells known bytes → ComeFirst known bytes
told_begins None bytes told = (None, tt)
told_begins (Some known) bytes is = (Some [], is ∙ sym (append-nil bytes))

-- one stream more was given
given_more : {D S : Type 0} (gives : D → S → S → D → Type 0) (old mid new : D)
    (connections : List (Connection S)) (last : Connection S)
    → GivesInTurn gives old connections mid → gives mid last.reader last.writer new
    → GivesInTurn gives old (connections ++ last ∷ []) new
given_more {D} gives old mid new [] last same one =
    (new, subst (λ (d : D). gives d last.reader last.writer new) same one, refl)
given_more gives old mid new (connection ∷ connections) last (next, first, rest) one =
    (next, first, given_more gives next mid new connections last rest one)

-- A server that gave these connections has accepted as many more, and counted no fault.
pub counted : {R S L : Type 0} (old new : Server R S L) (connections : List (Connection S))
    → GivesInTurn (λ a _ _ b. AcceptsOne a b) old connections new
    → (accepted_count old + length connections < 2 ^ 64
    → accepted_count new ≡ accepted_count old + length connections)
    × (net_faults new ≡ net_faults old)
counted old new [] same =
    (λ _. ap accepted_count same ∙ omega arith, ap net_faults same)
counted old new (connection ∷ connections) (mid, one, rest) =
    let later = counted mid new connections rest in (
      λ room. (let here : accepted_count mid ≡ accepted_count old + 1 = omega (arith, one.0, room) in
          let more = later.0 (omega (arith, here, room)) in omega (arith, here, more)),
      later.1 ∙ one.1,
    )

module _ {K C : Type 0} (kept : Keeping K)
    (tells : C → ℕ → C → Type 0) (prefix suffix : List ℕ) where
  abbrev Book : Type 0
  Book = RingBook kept

  abbrev At : Type 0
  At = Front {C = C} kept tells prefix suffix

  abbrev Serves : At → List Item → List (List ℕ) → At → Type 0
  Serves old items texts new =
      ServesHttp kept tells prefix suffix old items texts new

  -- Nothing was asked for.
  nothing : (old : At) → Serves old [] [] old
  nothing old = serves_none steps_of kept.content kept.sound kept.limit kept.fault_count
      (λ (front : At). front.1) _ old

  -- What was served is a safe run.
  pub safe_served : (early late : C) (old new : Book) (items : List Item) (texts : List (List ℕ))
      → Serves (early, old) items texts (late, new) → kept.sound new.keeper
      → IsSafeRun old.machine.limits (kept.content old.keeper) (kept.content new.keeper)
  safe_served early late old new items texts serves s =
      safe_run old.machine.limits (kept.limit old.keeper)
      (is_closed steps_of kept.content kept.sound kept.limit kept.fault_count
      old) (kept.content old.keeper) (kept.content new.keeper) serves.calls (serves.made.run s)
      (proper_requests kept tells prefix suffix (early, old) items texts (late, new) serves)

  -- What was not touched is a safe run.
  pub safe_same : (early : C) (old new : Book) → new ≡ old → kept.sound new.keeper
      → IsSafeRun old.machine.limits (kept.content old.keeper) (kept.content new.keeper)
  safe_same early old new same = subst (λ (b : Book). kept.sound b.keeper
      → IsSafeRun old.machine.limits (kept.content old.keeper) (kept.content b.keeper)) (sym same)
      (safe_served early early old old [] [] (nothing (early, old)))

  module _ (audience : Audience) {S : Type 0} (remaining contents : S → Option (List ℕ))
      (read left written after reader writer : S) (is_read : read ≡ reader)
      (is_written : written ≡ writer) (early last : C) (old new : Book) where
    abbrev Ended : Option StreamFault → Type 0
    Ended why = (one : OneServed kept tells prefix suffix (IsTalk audience remaining contents)
        (early, old) (last, new)) × (one.connection.reader ≡ reader)
        × (one.connection.writer ≡ writer) × (one.connection.fault ≡ why)

    -- the connection that was served these requests, and what ended it
    abbrev connection_of : Option StreamFault → List Item → List (List ℕ) → Connection S
    connection_of why items texts = record {
      reader = read;
      writer = written;
      items = items;
      texts = texts;
      fault = why;
    }

    ended_by : (why : Option StreamFault) (items : List Item) (texts : List (List ℕ)) (bytes : List ℕ)
        → AnswersBefore audience remaining contents why bytes (connection_of why items texts) after
        → Serves (early, old) items texts (last, new) → Ended why
    ended_by why items texts bytes answered serves = (
      record {
        connection = connection_of why items texts;
        served = record { bytes = bytes; late = after; answered = answered };
        serves = serves;
      },
      is_read,
      is_written,
      refl,
    )

    stopped_by : (fault : StreamFault) → StopsServing audience kept tells prefix suffix
        (remaining read) (remaining left) (contents written) (contents after) (early, old)
        (last, new) fault → Ended (Some fault)
    stopped_by ReadFailed stopped = ended_by (Some ReadFailed) stopped.items stopped.texts
        stopped.bytes ((remaining left, stopped.came), stopped.have_come, stopped.written)
        stopped.get
    stopped_by WriteFailed stopped = ended_by (Some WriteFailed) stopped.answered stopped.texts
        stopped.bytes (
          told_begins (remaining read) stopped.bytes stopped.told,
          begins audience (λ rest. ⊤) stopped.answered stopped.unanswered stopped.bytes
              stopped.are_items,
          stopped.written,
        ) stopped.get
    stopped_by NoMemory (clock, book) = ended_by (Some NoMemory) [] [] [] (refl, refl)
        (subst (λ (c : C). Serves (early, old) [] [] (c, new)) (sym clock)
        (subst (λ (b : Book). Serves (early, old) [] [] (early, b)) (sym book)
        (nothing (early, old))))

    -- what serving a stream says of its connection
    pub ended_so : (result : Result ℕ StreamFault) → IfOk result (RequestsServed audience Serves
        (remaining read) (contents written) (contents after) (early, old) (last, new))
        → IfErr result (StopsServing audience kept tells prefix suffix (remaining read)
        (remaining left) (contents written) (contents after) (early, old) (last, new))
        → Ended (fault_in result)
    ended_so (Ok count) served stopped = ended_by None served.items served.texts served.bytes
        (served.told, served.are_items, served.written) served.get
    ended_so (Err fault) served stopped = stopped_by fault stopped

  -- a fault that ended the connection is what the loop fails with
  pub fails_by : {S : Type 0} (Served : Connection S → Type 0) (old new : At) (before after : ℕ)
      (why : StreamFault) → OneEnded kept tells prefix suffix Served old new (Some why)
      → after ≡ before → LoopFails kept tells prefix suffix Served old new before after (Stream why)
  fails_by Served old new before after ReadFailed ended same = (same, ended)
  fails_by Served old new before after WriteFailed ended same = inr (same, ended)
  fails_by Served old new before after NoMemory ended same = (same, inr ended)

  module _ {S D : Type 0} (Served : Connection S → Type 0) (gives : D → S → S → D → Type 0) where
    abbrev All_of : ℕ → D → D → At → At → Type 0
    All_of count door later old new =
        ConnectionsServed kept tells prefix suffix Served gives count door later old new

    -- before the first connection
    pub none_yet : (count : ℕ) (door : D) (old : At) → count ≡ 0 → All_of count door door old old
    none_yet count door old none = record {
      connections = [];
      count_is = sym none;
      came = refl;
      served = All-nil Served;
      serves = nothing old;
    }

    -- one connection more
    pub one_more : (count : ℕ) (door before after : D) (reader writer : S) (old mid new : At)
        → All_of count door before old mid → gives before reader writer after
        → (one : OneServed kept tells prefix suffix Served mid new)
        → one.connection.reader ≡ reader → one.connection.writer ≡ writer
        → All_of (count + 1) door after old new
    one_more count door before after reader writer old mid new all given one read written =
        let last : List (Connection S) = one.connection ∷ [] in
        let items : items_of (all.connections ++ last) ≡ items_of all.connections ++
        one.connection.items =
        flat_map-append (λ (c : Connection S). c.items) all.connections last ∙
        ap (λ (xs : List Item). items_of all.connections ++ xs) (append-nil one.connection.items) in
        let texts : answers_of (all.connections ++ last) ≡ answers_of all.connections ++
        one.connection.texts =
        flat_map-append (λ (c : Connection S). c.texts) all.connections last ∙
        ap (λ (xs : List (List ℕ)). answers_of all.connections ++ xs)
        (append-nil one.connection.texts) in
        let both : Serves old (items_of all.connections ++ one.connection.items)
        (answers_of all.connections ++ one.connection.texts) new =
        serves_on steps_of kept.content kept.sound kept.limit kept.fault_count
        (λ (front : At). front.1) _ old
        (items_of all.connections) (answers_of all.connections) mid one.connection.items
        one.connection.texts new all.serves one.serves in
        record {
          connections = all.connections ++ last;
          count_is = length-append all.connections last ∙ ap (λ (n : ℕ). n + 1) all.count_is;
          came = given_more gives door before after all.connections one.connection all.came
              (subst (λ (s : S). gives before s one.connection.writer after) (sym read)
              (subst (λ (s : S). gives before reader s after) (sym written) given));
          served = All-append Served all.connections last all.served
              (All-cons Served one.connection [] one.served (All-nil Served));
          serves = subst (λ (xs : List Item). Serves old xs (answers_of (all.connections ++ last))
              new)
              (sym items)
              (subst (λ (ts : List (List ℕ)). Serves old
              (items_of all.connections ++ one.connection.items) ts new) (sym texts) both);
        }

    -- The connections, however many, are a safe run.
    pub safe_all : (count : ℕ) (door later : D) (early late : C) (old new : Book)
        → All_of count door later (early, old) (late, new)
        → kept.sound new.keeper → IsSafeRun old.machine.limits (kept.content old.keeper)
        (kept.content new.keeper)
    safe_all count door later early late old new all =
        safe_served early late old new (items_of all.connections) (answers_of all.connections)
        all.serves

  module _ {R S L : Type 0} (Served : Connection S → Type 0) where
    -- what serving the connections of a server counts
    all_counted : (count : ℕ) (server later : Server R S L) (old new : At)
        → ConnectionsServed kept tells prefix suffix Served (λ a _ _ b. AcceptsOne a b) count server
        later old new
        → (accepted_count server + count < 2 ^ 64
        → accepted_count later ≡ accepted_count server + count)
        × (net_faults later ≡ net_faults server)
    all_counted count server later old new all =
        subst (λ (n : ℕ). (accepted_count server + n < 2 ^ 64
        → accepted_count later ≡ accepted_count server + n)
        × (net_faults later ≡ net_faults server)) all.count_is
        (counted server later all.connections all.came)

    module _ (count : ℕ) (server later : Server R S L) (old new : At) where
      abbrev Up_to : Result (Unit {0}) ServeFault → Type 0
      Up_to result = ServedUpTo kept tells prefix suffix Served (λ a _ _ b. AcceptsOne a b) AcceptsNone
          count server later old new result

      -- It counts as many connections, or fewer where none came any more.
      pub accepts_up_to : (result : Result (Unit {0}) ServeFault) → Up_to result
          → accepted_count server + count < 2 ^ 64
          → MatchResult result (λ _. accepted_count later ≡ accepted_count server + count)
          (λ _. accepted_count later < accepted_count server + count)
      accepts_up_to (Ok done) all room = (all_counted count server later old new all).0 room
      accepts_up_to (Err fault) (_, few) room =
          let came = (all_counted few.number server few.then.last old new few.then.all).0
          (omega (arith, few.fewer, room)) in
          omega (arith, came, few.fewer, few.then.failed.0)

      -- It counts a fault exactly where none came any more.
      pub counts_up_to : (result : Result (Unit {0}) ServeFault) → Up_to result
          → Counts (net_faults server) (net_faults later) result
      counts_up_to (Ok done) all = (all_counted count server later old new all).1
      counts_up_to (Err fault) (_, few) =
          subst (λ (n : ℕ). net_faults later ≡ one_fault n)
          (all_counted few.number server few.then.last old new few.then.all).1 few.then.failed.1
