-- What a book of rings is asked, and what each call makes of it.
use Rattle.std.specs.Prelude.{◌≡◌, ℕ, Option, Result, Some, length}
use Rattle.builder.specs.Life.{BookContent, IsProperDelivery}
use Rattle.builder.specs.Safety.{Entries}
use Rattle.builder.specs.Step.{State, Step}
use Rattle.builder.specs.declared.machine.RingMachine.{RingMachine}
use Rattle.request_book.specs.Book.{Parts}
use Rattle.request_book.specs.Call.{Call, Deliver}
use Rattle.request_book.specs.Content.{entries_from}
use Rattle.request_book.specs.Front.{CallMade}
use Rattle.request_book.specs.declared.book.Fault.{Fault}
use Rattle.request_book.specs.declared.keeper.Keeper.{Ghosts}
use Rattle.ring_messages.specs.declared.told.Told.{Told}
use Rattle.ring_reads.specs.Holding.{Holding}
use Rattle.ring_words.specs.declared.command.Command.{Command}
use Rattle.ring_words.specs.declared.command.Reply.{Reply}
use Rattle.ring_words.specs.declared.request.Delivery.{Delivery}
use Rattle.ring_book.specs.Told.{told_of}

-- the steps of a builder
abbrev pub steps_of : RingMachine → State → ℕ → Command → Reply → State → Type 0
steps_of machine rings hour command reply after = Step machine.limits rings hour command reply after

-- what a read finds where this is kept, of numbers at most so many, and the clock tells this hour
abbrev pub holding_with : BookContent → ℕ → ℕ → Holding
holding_with content limit clock = record {
  rings = content.state;
  hour = content.hour;
  clock = clock;
  kept = length content.book;
  limit = limit;
}

-- what contracts see of a keeper of the builder
abbrev pub Keeping : Type 0 → Type 1
Keeping K = Ghosts K RingMachine State Command Reply

-- the call of the book that a line or a request leads to, if any
abbrev pub Asked : Type 0
Asked = Option (Call Command Reply)

-- what a call finds: what is held, and, from a place on and at most so many, entries of the log
pub record Finding : Type 1 where
  pub held : Holding → Type 0
  pub log : ℕ → ℕ → Entries → Type 0

module _ {K : Type 0} (kept : Keeping K) where
  -- a book of the builder
  abbrev pub RingBook : Type 0
  RingBook = Parts RingMachine K

  -- From the one book to the other this call was made, if any.
  abbrev pub Made : RingBook → RingBook → Asked → Type 0
  Made old new asked = CallMade steps_of kept.content kept.sound kept.limit kept.fault_count old new
      asked

  -- what a read finds that a keeper holds, at this hour of the clock
  abbrev pub holding : ℕ → K → Holding
  holding clock keeper = holding_with (kept.content keeper) (kept.limit keeper) clock

  -- Where one book becomes the other, a call finds this at this hour of the clock: what the first
  -- holds, and its entries from a place on.
  abbrev pub Found : ℕ → RingBook → RingBook → Finding
  Found clock old new = record {
    held = λ held. kept.sound new.keeper → held ≡ holding clock old.keeper;
    log = λ from most page. kept.sound new.keeper
        → page ≡ entries_from from most (kept.content old.keeper).book;
  }

  -- A delivery gets an answer that is told so, and one book becomes the other. Its command is such as
  -- there are, and its hour has 32 bits.
  pub record Delivers (old new : RingBook) (delivery : Delivery Command) (told : Told) :
      Type 0 where
    pub answer : Result Reply Fault
    pub told_is : told ≡ told_of answer
    pub made : Made old new (Some (Deliver delivery answer))
    pub proper : IsProperDelivery delivery
