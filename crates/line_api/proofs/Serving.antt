-- Lines that are answered one after another are one run.
use Rattle.std.proofs.Common.{◌≡◌, Err, List, None, Ok, Option, Result, Some, [], inl, inr, refl}
use Rattle.std.proofs.Common.{subst, sym, ℕ}
use Rattle.std.specs.Prelude.{All, IfErr, IfOk}
use Rattle.std.proofs.lemmas.List.Elements.{All-nil}
use Rattle.byte_streams.specs.InTurn.{InTurn}
use Rattle.byte_streams.specs.declared.fault.StreamFault.{StreamFault}
use Rattle.byte_streams.specs.declared.fault.StreamFault.TheVariants.{NoMemory, ReadFailed}
use Rattle.byte_streams.specs.declared.fault.StreamFault.TheVariants.{WriteFailed}
use Rattle.byte_streams.proofs.ServedLemmas.{served_as, stopped_as}
use Rattle.ring_words.specs.declared.command.Command.{Command}
use Rattle.ring_words.specs.declared.command.Reply.{Reply}
use Rattle.ring_words.specs.declared.request.Delivery.{Delivery}
use Rattle.request_book.specs.Call.{Call, Deliver, Load}
use Rattle.request_book.specs.Front.{Turn}
use Rattle.request_book.specs.Front.{CallsMade, is_closed}
use Rattle.request_book.proofs.Fronts.{all_such, in_turn_serves, none_made, starts}
use Rattle.builder.proofs.Proper.{safe_run}
use Rattle.builder.specs.Life.{IsProperCall, IsProperDelivery}
use Rattle.builder.specs.Safety.{IsSafeRun}
use Rattle.ring_messages.specs.declared.told.Told.TheVariants as told
use Rattle.line_stream.specs.Answers.{Answered}
use Rattle.line_stream.specs.declared.handler.Handler.{Ghosts}
use Rattle.line_stream.specs.Lines.{AreLines, HaveEnded, ended}
use Rattle.line_stream.specs.Serving.{LinesServed, LinesStopped}
use Rattle.ring_book.specs.Book.{Asked, Found, Keeping, Made, RingBook, steps_of}
use Rattle.line_api.specs.Lines.{Asks, Gets, answer_line}
use Rattle.line_api.specs.Served.{ServesLines}
use Rattle.line_api.specs.Inner.Answering.{Answers, Loses}
use Rattle.line_api.specs.declared.lines.RingLines.{RingLines}

module _ {K : Type 0} (kept : Keeping K) where
  abbrev Book : Type 0
  Book = RingBook kept

  -- what contracts see of the handler of lines
  abbrev handler : Ghosts (RingLines K) Book
  handler = record {
    answers = Answers kept;
    loses = Loses kept;
    no_memory = answer_line told.NoMemory;
    too_long = answer_line told.Unreadable;
  }

  -- what the handler of lines gives
  abbrev Gives : Book → List ℕ → List ℕ → Book → Type 0
  Gives = Answered handler

  abbrev IsTurn : Book → List ℕ → Asked → List ℕ → Book → Type 0
  IsTurn old line asked text new = Turn steps_of kept.content kept.sound kept.limit kept.fault_count
      (λ book. book)
      (λ before item asks answer after. Gets (Found kept 0 before after) item
      asks answer) old line asked text new

  turns : (old : Book) (line text : List ℕ) (new : Book) → Gives old line text new →
      (asked : Asked) × IsTurn old line asked text new
  turns old line text new (inl (short, inl answered)) =
      (answered.0, record { gets = inl (short, inl answered.1); made = answered.2 })
  turns old line text new (inl (short, inr lost)) =
      (lost.0.0, record { gets = inl (short, inr (lost.0.1, lost.1)); made = lost.0.2 })
  turns old line text new (inr (long, text_is, same)) = (
    None,
    record {
      gets = inr (long, refl, text_is);
      made =
          subst (λ book. Made kept old book None) (sym same)
          (none_made steps_of kept.content kept.sound kept.limit kept.fault_count old);
    },
  )

  serves : (old : Book) (lines texts : List (List ℕ)) (new : Book) →
      InTurn Gives old lines texts new → ServesLines kept old lines texts new
  serves old lines texts new turn = in_turn_serves steps_of kept.content kept.sound kept.limit
      kept.fault_count
      (λ book. book)
      (λ before item asks answer after. Gets (Found kept 0 before after) item
      asks answer) Gives turns old lines texts new turn

  -- what the server of lines tells of its handler holds of the run
  pub served_run : (known before after : Option (List ℕ)) (old new : Book) (count : ℕ) →
      LinesServed (InTurn Gives) known before after old new count
      → LinesServed (ServesLines kept) known before after old new count
  served_run = served_as AreLines HaveEnded ended (InTurn Gives) (ServesLines kept) serves

  pub stopped_run : (known left before after : Option (List ℕ)) (old new : Book)
      (untouched : Type 0) (fault : StreamFault)
      → LinesStopped (InTurn Gives) known left before after old new untouched fault
      → LinesStopped (ServesLines kept) known left before after old new
      untouched fault
  stopped_run = stopped_as AreLines HaveEnded ended (InTurn Gives) (ServesLines kept) serves

  -- what a line asks for is proper
  proper_line : (line : List ℕ) (delivery : Delivery Command) → Asks line delivery
      → IsProperDelivery delivery
  proper_line line delivery asks = (asks.reads.delivery.proper, asks.hour)

  proper_call : (old : Book) (line : List ℕ) (call : Call Command Reply) (text : List ℕ) (new : Book)
      → Gets (Found kept 0 old new) line (Some call) text → IsProperCall call
  proper_call old line (Deliver delivery answer) text new (inl (short, inl answered)) =
      proper_line line delivery answered.0
  proper_call old line (Deliver delivery answer) text new (inl (short, inr lost)) =
      proper_line line delivery lost.0
  proper_call old line (Deliver delivery answer) text new (inr (long, none, text_is)) = cc
  proper_call old line (Load answer) text new gets = tt

  -- and so are all calls that lines lead to
  pub proper_lines : (old : Book) (lines texts : List (List ℕ)) (new : Book)
      (serves : ServesLines kept old lines texts new) → All IsProperCall serves.calls
  proper_lines old lines texts new serves = all_such steps_of kept.content kept.sound kept.limit
      kept.fault_count (λ book. book)
      (λ before item asks answer after. Gets (Found kept 0 before after) item asks answer)
      IsProperCall proper_call old old new [] serves.calls lines texts serves.answered

  -- calls that are one run are a safe run
  safe_calls : (old new : Book) (calls : List (Call Command Reply)) →
      CallsMade steps_of kept.content kept.sound kept.limit kept.fault_count old new calls
      → All IsProperCall calls → kept.sound new.keeper
      → IsSafeRun old.machine.limits (kept.content old.keeper) (kept.content new.keeper)
  safe_calls old new calls made proper s =
      safe_run old.machine.limits (kept.limit old.keeper)
      (is_closed steps_of kept.content kept.sound kept.limit kept.fault_count
      old) (kept.content old.keeper) (kept.content new.keeper) calls (made.run s) proper

  unmoved : (old new : Book) → new ≡ old → kept.sound new.keeper →
      IsSafeRun old.machine.limits (kept.content old.keeper) (kept.content new.keeper)
  unmoved old new same = subst (λ (book : Book). kept.sound book.keeper →
      IsSafeRun old.machine.limits (kept.content old.keeper) (kept.content book.keeper)) (sym same)
      (λ s. safe_calls old old [] (starts steps_of kept.content kept.sound kept.limit
      kept.fault_count old) (All-nil IsProperCall) s)

  stopped_safe : (known left before after : Option (List ℕ)) (old new : Book)
      (readers writers : Type 0) (fault : StreamFault)
      → LinesStopped (ServesLines kept) known left before after old new
      (readers × writers × (new ≡ old)) fault
      → kept.sound new.keeper → IsSafeRun old.machine.limits (kept.content old.keeper)
      (kept.content new.keeper)
  stopped_safe known left before after old new readers writers ReadFailed stopped s =
      safe_calls old new stopped.get.calls stopped.get.made
      (proper_lines old _ _ new stopped.get) s
  stopped_safe known left before after old new readers writers WriteFailed stopped s =
      safe_calls old new stopped.get.calls stopped.get.made
      (proper_lines old _ _ new stopped.get) s
  stopped_safe known left before after old new readers writers NoMemory stopped s =
      unmoved old new stopped.2 s

  -- whatever lines came, what the book was led to is a safe run
  pub served_safe : (known left before after : Option (List ℕ)) (old new : Book)
      (readers writers : Type 0) (result : Result ℕ StreamFault)
      → IfOk result (LinesServed (ServesLines kept) known before after old
      new)
      → IfErr result (LinesStopped (ServesLines kept) known left before after
      old new (readers × writers × (new ≡ old)))
      → kept.sound new.keeper → IsSafeRun old.machine.limits (kept.content old.keeper)
      (kept.content new.keeper)
  served_safe known left before after old new readers writers (Ok count) served stopped s =
      safe_calls old new served.get.calls served.get.made (proper_lines old _ _ new served.get) s
  served_safe known left before after old new readers writers (Err fault) served stopped s =
      stopped_safe known left before after old new readers writers fault stopped s
