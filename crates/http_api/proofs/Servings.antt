-- Requests that are answered one after another are one run.
use Rattle.std.proofs.Common.{◌≡◌, Err, List, None, Ok, Option, Result, Some, [], ap, inl, inr, refl}
use Rattle.std.proofs.Common.{subst, sym, ℕ}
use Rattle.std.specs.Prelude.{All, IfErr, IfOk, ⊤}
use Rattle.std.proofs.lemmas.List.Elements.{All-nil}
use Rattle.byte_streams.specs.InTurn.{InTurn}
use Rattle.byte_streams.specs.declared.fault.StreamFault.{StreamFault}
use Rattle.byte_streams.specs.declared.fault.StreamFault.TheVariants.{NoMemory, ReadFailed}
use Rattle.byte_streams.specs.declared.fault.StreamFault.TheVariants.{WriteFailed}
use Rattle.byte_streams.proofs.ServedLemmas.{served_as, stopped_as}
use Rattle.ring_words.specs.declared.command.Command.{Command}
use Rattle.ring_words.specs.declared.command.Reply.{Reply}
use Rattle.request_book.specs.Call.{Call, Deliver, Load}
use Rattle.request_book.specs.Front.{CallsMade, Turn, is_closed}
use Rattle.request_book.proofs.Fronts.{all_such, in_turn_serves, none_made, starts}
use Rattle.builder.proofs.Proper.{safe_run}
use Rattle.builder.specs.Life.{IsProperCall}
use Rattle.builder.specs.Safety.{IsSafeRun}
use Rattle.http_messages.specs.declared.audience.Audience.{Audience}
use Rattle.http_stream.specs.Answers.{ItemAnswered, joined}
use Rattle.http_stream.specs.declared.service.Service.{Ghosts}
use Rattle.http_stream.specs.Serving.{RequestsServed, RequestsStopped}
use Rattle.http_stream.specs.Streams.{AreRequests, BeginWith, Calls, Item, Refuses}
use Rattle.ring_book.specs.Book.{Asked, Found, Keeping, Made, RingBook, steps_of}
use Rattle.http_api.specs.Http.{GetsHttp}
use Rattle.http_api.specs.Inner.Answering.{HttpAnswers, HttpLoses}
use Rattle.http_api.specs.Served.{HttpFront, ServesHttp}

module _ {K C : Type 0} (kept : Keeping K)
    (tells : C → ℕ → C → Type 0) (prefix suffix : List ℕ) where
  abbrev Front : Type 0
  Front = HttpFront {C = C} kept tells prefix suffix

  -- what contracts see of a service that hashes paths between these names
  abbrev ghosts : Ghosts ⊤ C (RingBook kept)
  ghosts = record {
    answers = λ service. HttpAnswers kept tells prefix suffix;
    loses = λ service. HttpLoses kept tells prefix suffix;
  }

  -- what the service gives
  abbrev Gives : Front → Item → List ℕ → Front → Type 0
  Gives = ItemAnswered ghosts tt

  abbrev Gets : Front → Item → Asked → List ℕ → Front → Type 0
  Gets before item asks answer after =
      GetsHttp tells prefix suffix (λ hour. Found kept hour before.1 after.1) before.0 item
      asks answer after.0

  abbrev IsTurn : Front → Item → Asked → List ℕ → Front → Type 0
  IsTurn old item asked text new =
      Turn steps_of kept.content kept.sound kept.limit kept.fault_count (λ (front : Front). front.1)
      (λ before item asks answer after. Gets before item asks answer after) old item asked text
      new

  turns : (old : Front) (item : Item) (text : List ℕ) (new : Front) → Gives old item text new →
      (asked : Asked) × IsTurn old item asked text new
  turns old (Calls ask) text new (inl answered) =
      (answered.0, record { gets = inl answered.1; made = answered.2 })
  turns old (Calls ask) text new (inr lost) = (
    lost.0.0,
    record {
      gets = inr (lost.0.1, lost.1);
      made = lost.0.2;
    },
  )
  turns old (Refuses why) text new (text_is, same) = (
    None,
    record {
      gets = (refl, text_is, ap (λ (front : Front). front.0) same);
      made = subst (λ (front : Front). Made kept old.1 front.1 None)
          (sym same) (none_made steps_of kept.content kept.sound kept.limit kept.fault_count old.1);
    },
  )

  serves : (old : Front) (items : List Item) (texts : List (List ℕ)) (new : Front) →
      InTurn Gives old items texts new
      → ServesHttp kept tells prefix suffix old items texts new
  serves old items texts new turn =
      in_turn_serves steps_of kept.content kept.sound kept.limit kept.fault_count
      (λ (front : Front). front.1)
      (λ before item asks answer after. Gets before item asks answer after) Gives turns old
      items texts new turn

  -- what the server of requests tells of its service holds of the run
  pub served_run : (audience : Audience) (known before after : Option (List ℕ)) (old new : Front) (count : ℕ) →
      RequestsServed audience (InTurn Gives) known before after old new count
      → RequestsServed audience (ServesHttp kept tells prefix suffix) known before
      after old new count
  served_run audience = served_as (AreRequests audience) (AreRequests audience) joined (InTurn Gives)
      (ServesHttp kept tells prefix suffix) serves

  pub stopped_run : (audience : Audience) (known left before after : Option (List ℕ)) (old new : Front)
      (untouched : Type 0) (fault : StreamFault)
      → RequestsStopped audience (InTurn Gives) known left before after old new untouched fault
      → RequestsStopped audience (ServesHttp kept tells prefix suffix) known left
      before after old new untouched fault
  stopped_run audience = stopped_as (BeginWith audience) (AreRequests audience) joined (InTurn Gives)
      (ServesHttp kept tells prefix suffix) serves

  -- what a request asks for is proper
  proper_call : (old : Front) (item : Item) (call : Call Command Reply) (text : List ℕ) (new : Front)
      → Gets old item (Some call) text new → IsProperCall call
  proper_call old (Calls ask) (Deliver delivery answer) text new (inl answered) = answered.0.0
  proper_call old (Calls ask) (Deliver delivery answer) text new (inr lost) = lost.0.0.0
  proper_call old (Calls ask) (Load answer) text new gets = tt
  proper_call old (Refuses why) call text new gets = cc (gets.0)

  -- and so are all calls that requests lead to
  pub proper_requests : (old : Front) (items : List Item) (texts : List (List ℕ)) (new : Front)
      (serves : ServesHttp kept tells prefix suffix old items texts new)
      → All IsProperCall serves.calls
  proper_requests old items texts new serves = all_such steps_of kept.content kept.sound kept.limit
      kept.fault_count (λ (front : Front). front.1)
      (λ before item asks answer after. Gets before item asks answer after)
      IsProperCall proper_call old old new [] serves.calls items texts serves.answered

  -- calls that are one run are a safe run
  safe_calls : (old new : RingBook kept) (calls : List (Call Command Reply)) →
      CallsMade steps_of kept.content kept.sound kept.limit kept.fault_count old new calls
      → All IsProperCall calls → kept.sound new.keeper
      → IsSafeRun old.machine.limits (kept.content old.keeper) (kept.content new.keeper)
  safe_calls old new calls made proper s =
      safe_run old.machine.limits (kept.limit old.keeper)
      (is_closed steps_of kept.content kept.sound kept.limit kept.fault_count
      old) (kept.content old.keeper) (kept.content new.keeper) calls (made.run s) proper

  -- what was served is a safe run
  safe_served : (early late : C) (old new : RingBook kept) (items : List Item)
      (texts : List (List ℕ))
      → ServesHttp kept tells prefix suffix (early, old) items texts (late, new)
      → kept.sound new.keeper
      → IsSafeRun old.machine.limits (kept.content old.keeper) (kept.content new.keeper)
  safe_served early late old new items texts serves = safe_calls old new serves.calls serves.made
      (proper_requests (early, old) items texts (late, new) serves)

  -- a book that stays as it was is a safe run
  pub unmoved : (old new : RingBook kept) → new ≡ old → kept.sound new.keeper →
      IsSafeRun old.machine.limits (kept.content old.keeper) (kept.content new.keeper)
  unmoved old new same = subst (λ (book : RingBook kept). kept.sound book.keeper →
      IsSafeRun old.machine.limits (kept.content old.keeper) (kept.content book.keeper)) (sym same)
      (λ s. safe_calls old old [] (starts steps_of kept.content kept.sound kept.limit
      kept.fault_count old) (All-nil IsProperCall) s)

  stopped_safe : (audience : Audience) (known left before after : Option (List ℕ)) (old new : Front)
      (readers writers clocks : Type 0) (fault : StreamFault)
      → RequestsStopped audience (ServesHttp kept tells prefix suffix) known left
      before after old new (readers × writers × clocks × (new.1 ≡ old.1)) fault
      → kept.sound new.1.keeper → IsSafeRun old.1.machine.limits (kept.content old.1.keeper)
      (kept.content new.1.keeper)
  stopped_safe audience known left before after old new readers writers clocks ReadFailed stopped s =
      safe_served old.0 new.0 old.1 new.1 _ _ stopped.get s
  stopped_safe audience known left before after old new readers writers clocks WriteFailed stopped s =
      safe_served old.0 new.0 old.1 new.1 _ _ stopped.get s
  stopped_safe audience known left before after old new readers writers clocks NoMemory stopped s =
      unmoved old.1 new.1 stopped.3 s

  -- whatever requests came, what the book was led to is a safe run
  pub served_safe : (audience : Audience) (known left before after : Option (List ℕ)) (old new : Front)
      (readers writers clocks : Type 0) (result : Result ℕ StreamFault)
      → IfOk result (RequestsServed audience (ServesHttp kept tells prefix suffix)
      known before after old new)
      → IfErr result (RequestsStopped audience (ServesHttp kept tells prefix suffix)
      known left before after old new (readers × writers × clocks × (new.1 ≡ old.1)))
      → kept.sound new.1.keeper → IsSafeRun old.1.machine.limits (kept.content old.1.keeper)
      (kept.content new.1.keeper)
  served_safe audience known left before after old new readers writers clocks (Ok count) served stopped s =
      safe_served old.0 new.0 old.1 new.1 _ _ served.get s
  served_safe audience known left before after old new readers writers clocks (Err fault) served stopped s =
      stopped_safe audience known left before after old new readers writers clocks fault stopped s
