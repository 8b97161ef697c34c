-- What the program `import` does.
use Rattle.std.specs.Prelude.{◌≡◌, ◌⊎◌, ◌++◌, ◌∷◌, [], ℕ, List, Option, Result}
use Rattle.ring_words.specs.Limits.{greatest_long}
use Rattle.std.specs.Io.KnownBytes.{Appends}
use Rattle.byte_streams.specs.Counted.{IsFlushed, one_more, write_faults, writer_of}
use Rattle.byte_streams.specs.Writing.{WritesBeginning}
use Rattle.byte_streams.specs.declared.counted.CountedWriter.{CountedWriter}
use Rattle.builder.specs.Life.{IsProperDelivery}
use Rattle.builder.specs.Replies.{answer_status}
use Rattle.builder.specs.declared.machine.RingMachine.{RingMachine}
use Rattle.csv_import.specs.declared.fault.CsvFault.{CsvFault}
use Rattle.http_api.specs.Http.{told_csv}
use Rattle.line_api.specs.Lines.{answer_line}
use Rattle.ring_book.specs.Told.{told_of}
use Rattle.ring_book.specs.Book.{Keeping, steps_of}
use Rattle.request_book.specs.Book.{Parts}
use Rattle.request_book.specs.Call.{Deliver}
use Rattle.request_book.specs.Made.{Makes}
use Rattle.request_book.specs.declared.book.Fault.{Fault}
use Rattle.ring_messages.specs.declared.told.Told.{Told}
use Rattle.ring_messages.specs.declared.told.Told.TheVariants as told
use Rattle.ring_words.specs.Spelling.{SpellsName, SpellsNumber}
use Rattle.ring_words.specs.Texts.{is_label}
use Rattle.ring_words.specs.declared.command.Act.TheVariants as act
use Rattle.ring_words.specs.declared.command.Reply.{Reply}
use Rattle.ring_words.specs.declared.device.Row.{Row}
use Rattle.program_stores.specs.Faults.{IsCloseFault, IsStoreFault}
use Rattle.program_stores.specs.Stores.{Closing}
use Rattle.programs.specs.Begun.{FailedToClose, IsBegun, IsClosed}
use Rattle.programs.specs.Begun.{OpensNone, OpensOne}
use Rattle.programs.specs.Serving.{TellsHour}
use Rattle.programs.specs.Tables.{HoldsTable, IsBadTable, IsNoTable}
use Rattle.program_stores.specs.declared.faults.ProgramFault.{ProgramFault}
use Rattle.program_stores.specs.declared.faults.ProgramFault.TheVariants as fault
use Rattle.programs.specs.declared.importing.ImportAsk.{ImportAsk}

-- Words ask for an import into the ring of this name, as this caller's request of this number.
pub record AsksImport (name caller_word number_word : List ℕ) (ask : ImportAsk) : Type 0 where
  pub ring : SpellsName is_label name ask.ring
  pub caller : SpellsName is_label caller_word ask.key.caller
  pub number : SpellsNumber number_word 0 greatest_long ask.key.number

-- an answer as it is printed: its line, and a line feed
abbrev pub told_line : Told → List ℕ
told_line t = answer_line t ++ 10 ∷ []

-- This is told, or want of memory in its place.
abbrev pub IsToldAs : Told → Told → Type 0
IsToldAs t shown = (shown ≡ t) ⊎ (shown ≡ told.NoMemory)

module _ {W : Type 0} (contents : W → Option (List ℕ)) (writer later : CountedWriter W) where
  -- The line that tells this was written and flushed, and this is its status.
  abbrev pub WritesTold : Told → ℕ → Type 0
  WritesTold t status = (shown : Told) × IsToldAs t shown
      × Appends (contents (writer_of writer)) (contents (writer_of later)) (told_line shown)
      × (write_faults later ≡ write_faults writer) × IsFlushed later
      × (status ≡ answer_status shown)

  -- The writer failed, and took a beginning of the line that tells this.
  abbrev pub FailsTold : Told → Type 0
  FailsTold t = (shown : Told) × IsToldAs t shown
      × WritesBeginning (contents (writer_of writer)) (contents (writer_of later)) (told_line shown)
      × (write_faults later ≡ one_more (write_faults writer))

module _ {K : Type 0} (g : Keeping K) (Begins Ends : K → Type 0) where
  -- The rows were delivered as one import, to a book that was opened for it over a keeper that
  -- begins so and is left so, and this is what it was told. The delivery is such as there are.
  pub record Imports (ask : ImportAsk) (rows : List Row) (hour : ℕ) (t : Told) : Type 0 where
    pub book : Parts RingMachine K
    pub later : Parts RingMachine K
    pub opened : IsBegun Begins book
    pub left : Ends later.keeper
    pub answer : Result Reply Fault
    pub made : Makes steps_of g.content g.sound g.limit g.fault_count
        g.may_leave book later (Deliver (record {
          hour = hour;
          key = ask.key;
          command = record { ring = ask.ring; act = act.Import rows };
        }) answer)
    pub told_is : t ≡ told_of answer
    pub proper : IsProperDelivery (record {
      hour = hour;
      key = ask.key;
      command = record { ring = ask.ring; act = act.Import rows };
    })

  -- A file may hold such a text, or give no text of at most so many bytes for such a fault, and of
  -- stores this many were opened or made before and after.
  module _ (Holds : List ℕ → Type 0) (IsUnread : ℕ → ProgramFault → Type 0) (before after : ℕ) where
    -- The import of the table in the file is told this: the answer to its rows, at the hour that was
    -- given or that of the machine; or why it tells none, and then no store was opened or made.
    abbrev pub TellsImport : ImportAsk → Option ℕ → Told → Type 0
    TellsImport ask given t =
        ((rows : List Row) × (hour : ℕ) × HoldsTable Holds rows × TellsHour given hour
        × Imports ask rows hour t × OpensOne before after)
        ⊎ ((why : CsvFault) × IsBadTable IsUnread Holds why × (t ≡ told_csv why)
        × OpensNone before after)

    module _ {W : Type 0} (contents : W → Option (List ℕ)) (writer later : CountedWriter W) where
      -- What the import is told was written, and this is its status.
      abbrev pub AnswersImport : ImportAsk → Option ℕ → ℕ → Type 0
      AnswersImport ask given status =
          (t : Told) × TellsImport ask given t × WritesTold contents writer later t status

-- Keepers of stores are these, begin so, and end so with what closing them answers, and a store is
-- not opened for such faults.
module _ {K : Type 0} (g : Keeping K) (Begins : K → Type 0) (Ends : K → Closing → Type 0)
    (Refuses : ProgramFault → Type 0) where
  -- This fault of the store came of delivering rows: it wasn't opened, for that fault; or they were
  -- delivered, and closing it failed so.
  abbrev pub FailsToDeliver : ImportAsk → List Row → ℕ → ProgramFault → Type 0
  FailsToDeliver ask rows hour why = (Refuses why × IsStoreFault why)
      ⊎ (IsCloseFault why × ((t : Told)
      × Imports g Begins (FailedToClose Ends why) ask rows hour t))

  -- A file may hold such a text, or give no text of at most so many bytes for such a fault, and of
  -- stores this many were opened or made before and after.
  module _ (Holds : List ℕ → Type 0) (IsUnread : ℕ → ProgramFault → Type 0) (before after : ℕ) where
    -- For this fault an import is told nothing: the file can't be opened or has too many bytes, and
    -- no store was opened or made; or the fault is one of the store, and came of delivering the
    -- table's rows.
    abbrev pub TellsNothing : ImportAsk → Option ℕ → ProgramFault → Type 0
    TellsNothing ask given why = (IsNoTable IsUnread why × OpensNone before after)
        ⊎ ((rows : List Row) × (hour : ℕ) × HoldsTable Holds rows × TellsHour given hour
        × FailsToDeliver ask rows hour why × OpensOne before after)

    module _ {W : Type 0} (contents : W → Option (List ℕ)) (writer later : CountedWriter W) where
      -- This fault came of it: the import is told nothing, for that fault, and the writer wasn't
      -- touched; or the writer failed and took a beginning of what the import is told, and a store
      -- that was opened for it was closed.
      abbrev pub FailsToImport : ImportAsk → Option ℕ → ProgramFault → Type 0
      FailsToImport ask given why =
          (TellsNothing ask given why × (later ≡ writer))
          ⊎ ((why ≡ fault.WriteFailed) × ((t : Told)
          × TellsImport g Begins (IsClosed Ends) Holds IsUnread before after ask given t
          × FailsTold contents writer later t))
