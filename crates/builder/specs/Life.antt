-- The life of a store, from one start of a program to the next.
use Rattle.std.specs.Prelude.{◌≡◌, ⊤, ℕ, List, [], ◌∷◌, All, Err, IsSomeAnd, None, Ok, Result, false}
use Rattle.std.specs.Prelude.{flat_map, length, ◌<◌}
use Rattle.ring_words.specs.Limits.{long_count}
use Rattle.request_book.specs.Call.{Call, Deliver, Load, calls_of, failed}
use Rattle.request_book.specs.Content.{Content, entry_of}
use Rattle.request_book.specs.Run.{Run}
use Rattle.request_book.specs.Settled.{ComeTo}
use Rattle.request_book.specs.declared.book.Fault.{Fault}
use Rattle.request_book.specs.declared.book.Fault.TheVariants.{BookFull, Closed, NoMemory}
use Rattle.request_book.specs.declared.book.Fault.TheVariants.{NumberReused, StoreFault}
use Rattle.ring_messages.specs.Commands.{IsProperCommand}
use Rattle.ring_words.specs.declared.request.Limits.{Limits}
use Rattle.ring_words.specs.declared.command.Command.{Command}
use Rattle.ring_words.specs.declared.command.Reply.{Reply}
use Rattle.ring_words.specs.declared.request.Delivery.{Delivery}
use Rattle.builder.specs.Safety.{AreValid, Entries}
use Rattle.builder.specs.Step.{State, Step}

-- what a book of the builder holds
abbrev pub BookContent : Type 0
BookContent = Content State Command Reply

-- the calls of a run, with their answers
abbrev pub BookCalls : Type 0
BookCalls = List (Call Command Reply)

-- a list of deliveries
abbrev pub Deliveries : Type 0
Deliveries = List (Delivery Command)

-- what they are answered, one for each
abbrev pub BookAnswers : Type 0
BookAnswers = List (Result Reply Fault)

-- Runs one after another over one store. Each is the calls of a book that was opened anew, with
-- their answers, and begins with the content that the one before it left.
abbrev pub Lives : Limits → ℕ → BookContent → List BookCalls → BookContent → Type 0
Lives limits limit old [] new = new ≡ old
Lives limits limit old (calls ∷ later) new = (mid : BookContent)
    × Run (Step limits) limit false old calls mid × Lives limits limit mid later new

-- what a store holds before its first request: no ring, no request, and hour 0
abbrev pub nothing_held : BookContent
nothing_held = record { state = []; book = []; hour = 0 }

-- the calls of all runs of a life, in their order
abbrev pub all_calls : List BookCalls → BookCalls
all_calls runs = flat_map (λ calls. calls) runs

-- The calls of all runs, in their order, come to one run of an open book whose store never failed.
pub record IsOneLife (limits : Limits) (limit : ℕ) (old : BookContent) (runs : List BookCalls)
    (new : BookContent) : Type 0 where
  pub settled : BookCalls
  pub comes : ComeTo (all_calls runs) settled
  pub run : Run (Step limits) limit false old settled new
  pub unfailed : failed settled ≡ None
  -- Where the store failed in none of the calls, these are they.
  pub whole : failed (all_calls runs) ≡ None → settled ≡ all_calls runs

-- The command is such as there are, and the hour has 32 bits.
abbrev pub IsProperDelivery : Delivery Command → Type 0
IsProperDelivery delivery = IsProperCommand delivery.command × (delivery.hour < long_count)

-- What a call delivers, if it does, is proper.
abbrev pub IsProperCall : Call Command Reply → Type 0
IsProperCall (Deliver delivery answer) = IsProperDelivery delivery
IsProperCall (Load answer) = ⊤

-- The reply that a call got, if it got one, is the one that the book keeps under the key of its
-- delivery, and for its command.
abbrev pub KeepsReply : Entries → Call Command Reply → Type 0
KeepsReply book (Deliver delivery (Ok reply)) = IsSomeAnd (entry_of delivery.key book)
    (λ entry. (entry.command ≡ delivery.command) × (entry.reply ≡ reply))
KeepsReply book (Deliver delivery (Err why)) = ⊤
KeepsReply book (Load answer) = ⊤

-- The answer is sure: a reply, or why the book has none for this delivery. Memory was enough, the
-- store didn't fail, and the book wasn't closed.
abbrev pub IsSure : {A : Type 0} → Result A Fault → Type 0
IsSure (Ok value) = ⊤
IsSure (Err NumberReused) = ⊤
IsSure (Err BookFull) = ⊤
IsSure (Err NoMemory) = ⊥
IsSure (Err StoreFault) = ⊥
IsSure (Err Closed) = ⊥

-- A run over deliveries gave these answers, one for each and all of them sure.
pub record IsSureRun (limits : Limits) (limit : ℕ) (old : BookContent) (deliveries : Deliveries)
    (answers : BookAnswers) (new : BookContent) : Type 0 where
  pub as_many : length answers ≡ length deliveries
  pub sure : All IsSure answers
  pub run : Run (Step limits) limit false old (calls_of deliveries answers) new

-- The deliveries are proper, and so is what the book holds before them.
pub record BeginsProperly (old : BookContent) (deliveries : Deliveries) : Type 0 where
  pub hour : old.hour < long_count
  pub rings : AreValid old.state
  pub proper : All IsProperDelivery deliveries
