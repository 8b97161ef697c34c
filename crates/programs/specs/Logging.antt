-- What the program `log` writes.
use Rattle.std.specs.Prelude.{◌≡◌, ◌⊎◌, ◌≤◌, ◌+◌, ℕ, Bool, List, None, Option, Some, length}
use Rattle.std.specs.Prelude.{if◌then◌else◌}
use Rattle.std.specs.Borrow.{Bor}
use Rattle.std.specs.Io.KnownBytes.{Appends}
use Rattle.builder.specs.Safety.{Entries}
use Rattle.byte_streams.specs.Counted.{IsFlushed, one_more, write_faults, writer_of}
use Rattle.byte_streams.specs.Writing.{WritesBeginning}
use Rattle.byte_streams.specs.declared.counted.CountedWriter.{CountedWriter}
use Rattle.request_book.specs.Content.{entries_from}
use Rattle.request_book.specs.declared.keeper.KeepFault.{KeepFault}
use Rattle.ring_book.specs.Book.{Keeping}
use Rattle.ring_log.specs.Log.{entries_text}
use Rattle.ring_log.specs.declared.text.LogForm.{LogForm}
use Rattle.ring_log.specs.declared.text.LogForm.TheVariants as form
use Rattle.ring_words.specs.Limits.{greatest_long, long_count}
use Rattle.ring_words.specs.Spelling.{SpellsNumber}
use Rattle.program_stores.specs.Faults.{IsCloseFault, IsStoreFault, keep_fault}
use Rattle.program_stores.specs.Stores.{Closing}
use Rattle.programs.specs.Begun.{FailedToClose, IsClosedWhole}
use Rattle.programs.specs.Begun.{WasClosed, WasClosedAfter}
use Rattle.program_stores.specs.declared.faults.ProgramFault.{ProgramFault}
use Rattle.program_stores.specs.declared.faults.ProgramFault.TheVariants as fault

-- ---- what is asked

-- the form in which entries are written
abbrev pub form_asked : Bool → LogForm
form_asked lines = if lines then form.Deliveries else form.Entries

-- The log begins at this place: the one that a word spells, or 0 where none is given.
abbrev pub BeginsAt : Option (Bor (List ℕ)) → ℕ → Type 0
BeginsAt None place = place ≡ 0
BeginsAt (Some word) place = SpellsNumber word.now 0 greatest_long place

-- ---- what is written

-- The text has a line for each of so many entries of a book from a place on.
abbrev pub TellsSome : LogForm → ℕ → List ℕ → Entries → Type 0
TellsSome written from text book =
    (count : ℕ) × (text ≡ entries_text written from (entries_from from count book))

-- The text has a line for each entry of a book from a place on, but for such as have a place of more
-- than 32 bits.
abbrev pub TellsLog : LogForm → ℕ → List ℕ → Entries → Type 0
TellsLog written from text book =
    (count : ℕ) × (text ≡ entries_text written from (entries_from from count book))
    × ((length book ≤ from + count) ⊎ (long_count ≤ from + count))

module _ {K : Type 0} (g : Keeping K) (Begins Ends : K → Type 0) where
  -- A keeper that begins so is asked for its book, keeps its content, and is left so.
  pub record IsLogged (Tells : Entries → Type 0) : Type 0 where
    pub keeper : K
    pub later : K
    pub opened : Begins keeper
    pub left : Ends later
    pub stays_sound : g.sound later → g.sound keeper
    pub stays : g.sound later → g.content later ≡ g.content keeper
    pub tells : g.sound later → Tells (g.content keeper).book

  module _ {W : Type 0} (contents : W → Option (List ℕ)) (writer later : CountedWriter W) where
    -- Its log from a place on was written and flushed.
    abbrev pub WritesLog : LogForm → ℕ → Type 0
    WritesLog written from = (text : List ℕ) × IsLogged (TellsLog written from text)
        × Appends (contents (writer_of writer)) (contents (writer_of later)) text
        × (write_faults later ≡ write_faults writer) × IsFlushed later

    -- A beginning of it was written.
    abbrev pub BeginsLog : LogForm → ℕ → Type 0
    BeginsLog written from = (text : List ℕ) × IsLogged (TellsSome written from text)
        × WritesBeginning (contents (writer_of writer)) (contents (writer_of later)) text

-- Keepers of stores are these, begin so, and end so with what closing them answers, and the writer is
-- this, before and after.
module _ {K W : Type 0} (g : Keeping K) (Begins : K → Type 0) (Ends : K → Closing → Type 0)
    (contents : W → Option (List ℕ)) (writer later : CountedWriter W) where
  -- The log of a store, which was closed, was written from the place that a word gives.
  abbrev pub LogsStore : Option (Bor (List ℕ)) → Bool → Type 0
  LogsStore word lines = (from : ℕ) × BeginsAt word from
      × WritesLog g Begins (IsClosedWhole g Ends) contents writer later (form_asked lines) from

  -- This fault came of it: the store wasn't opened, for that fault, and the writer wasn't touched; or
  -- a beginning was written, and the keeper failed so; or all was, and closing the store failed so; or
  -- the writer failed once more, which it did not else.
  abbrev pub FailsToLog : (ProgramFault → Type 0) → LogForm → ℕ → ProgramFault → Type 0
  FailsToLog Refuses written from why =
      (Refuses why × IsStoreFault why × (later ≡ writer))
      ⊎ ((cause : KeepFault) × (why ≡ keep_fault cause)
      × (write_faults later ≡ write_faults writer)
      × BeginsLog g Begins (WasClosedAfter g Ends cause) contents writer later written from)
      ⊎ (IsCloseFault why
      × WritesLog g Begins (FailedToClose Ends why) contents writer later written from)
      ⊎ ((why ≡ fault.WriteFailed) × (write_faults later ≡ one_more (write_faults writer))
      × BeginsLog g Begins (WasClosed Ends) contents writer later written from)

  -- so it is where a word gives the place
  abbrev pub FailsToLogStore : (ProgramFault → Type 0) → Option (Bor (List ℕ)) → Bool → ProgramFault
      → Type 0
  FailsToLogStore Refuses word lines why = (from : ℕ) × BeginsAt word from
      × FailsToLog Refuses (form_asked lines) from why
