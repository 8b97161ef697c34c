-- What the programs `table`, `show`, `preview`, `moves`, `nodes` and `export` show.
use Rattle.std.specs.Prelude.{◌≡◌, ◌≢◌, ◌⊎◌, ◌==◌, ⊤, ℕ, Bool, List, Option, true}
use Rattle.std.specs.Prelude.{if◌then◌else◌, None, Some, unwrap_or}
use Rattle.ring_words.specs.Limits.{greatest_long}
use Rattle.std.specs.Borrow.{Bor}
use Rattle.std.specs.Option.{option_map}
use Rattle.std.specs.Io.KnownBytes.{Appends}
use Rattle.byte_streams.specs.Counted.{IsFlushed, one_more, write_faults, writer_of}
use Rattle.byte_streams.specs.Writing.{WritesBeginning}
use Rattle.byte_streams.specs.declared.counted.CountedWriter.{CountedWriter}
use Rattle.path_lookup.specs.Names.{PathNames, is_path, names_of}
use Rattle.ring_reads.specs.declared.reads.Format.{Format}
use Rattle.ring_reads.specs.declared.reads.Hidden.{Hidden}
use Rattle.ring_reads.specs.declared.reads.Question.{Question}
use Rattle.ring_reads.specs.declared.reads.Question.TheVariants as asking
use Rattle.ring_reads.specs.declared.reads.Read.{Read}
use Rattle.ring_reads.specs.declared.plain.Plain.{Plain as PlainRead}
use Rattle.ring_reads.specs.declared.reads.Read.TheVariants.{Plain, Tables, Nodes, Published}
use Rattle.ring_reads.specs.declared.reads.Read.TheVariants.{EachMove, Moves, Preview}
use Rattle.ring_reads.specs.Holding.{Holding}
use Rattle.ring_reads.specs.Reads.{Hides, Shows, written_as}
use Rattle.command_line.specs.declared.task.Shown.{Shown}
use Rattle.command_line.specs.declared.task.Shown.TheVariants as shown
use Rattle.command_line.specs.declared.task.Task.{Task}
use Rattle.command_line.specs.declared.task.Task.TheVariants as task
use Rattle.ring_words.specs.Spelling.{SpellsName, SpellsNumber}
use Rattle.ring_words.specs.Texts.{is_label}
use Rattle.request_book.specs.declared.keeper.KeepFault.{KeepFault}
use Rattle.program_stores.specs.Faults.{IsCloseFault, IsStoreFault, hidden_fault, keep_fault}
use Rattle.program_stores.specs.Stores.{Closing}
use Rattle.programs.specs.Begun.{FailedToClose, IsClosedWhole}
use Rattle.programs.specs.Begun.{WasClosed, WasClosedAfter}
use Rattle.programs.specs.Serving.{TellsHour}
use Rattle.program_stores.specs.declared.faults.ProgramFault.{ProgramFault}
use Rattle.program_stores.specs.declared.faults.ProgramFault.TheVariants as fault
use Rattle.ring_book.specs.Book.{Keeping, holding}

-- ---- what is asked

-- the names of a path as words give them
abbrev pub names_given : Bor (List ℕ) → Option (Bor (List ℕ)) → Option (Bor (List ℕ)) → PathNames
names_given account container object = names_of account.now (option_map (λ t. t.now) container)
    (option_map (λ t. t.now) object)

-- The question is for such a read of the ring whose name a word spells.
abbrev pub AsksOfRing : List ℕ → (Read → Type 0) → Question → Type 0
AsksOfRing word Is asking.Rings = ⊥
AsksOfRing word Is asking.Status = ⊥
AsksOfRing word Is asking.Metrics = ⊥
AsksOfRing word Is (asking.Ring name what) = SpellsName is_label word name × Is what

-- What `table` asks of the ring of this name.
abbrev pub AsksTables : List ℕ → Question → Type 0
AsksTables name question = AsksOfRing name (λ what. what ≡ Tables) question

-- What `show` asks of the ring of this name: this plain read.
abbrev pub AsksRing : List ℕ → PlainRead → Question → Type 0
AsksRing name plain question = AsksOfRing name (λ what. what ≡ Plain plain) question

-- What `preview` asks of the ring of this name: with this seed, and at this hour or, where none is
-- given, at that of 0, so that the greatest hour counts.
abbrev pub AsksPreview : List ℕ → ℕ → Option ℕ → Question → Type 0
AsksPreview name seed hour question =
    AsksOfRing name (λ what. what ≡ Preview seed (unwrap_or hour 0)) question

-- what is read of what moved between two versions: each seat, or else all in one
abbrev pub moves_read : ℕ → ℕ → Bool → Read
moves_read from to each = if each then EachMove from to else Moves from to

-- What `moves` asks of the ring of this name, between the versions that two words spell.
abbrev pub AsksMoves : List ℕ → List ℕ → List ℕ → Bool → Question → Type 0
AsksMoves name one other each question = AsksOfRing name (λ what. (from : ℕ)
    × SpellsNumber one 0 greatest_long from × ((to : ℕ) × SpellsNumber other 0 greatest_long to
    × (what ≡ moves_read from to each))) question

-- What `show` asks: for the rings, for the status, for the metrics, or for a plain read of a ring;
-- and what `preview` and `moves` ask.
abbrev pub AsksToShow : Shown → Question → Type 0
AsksToShow shown.Rings question = question ≡ asking.Rings
AsksToShow shown.Status question = question ≡ asking.Status
AsksToShow shown.Metrics question = question ≡ asking.Metrics
AsksToShow (shown.Ring ring what) question = AsksRing ring.now what question
AsksToShow (shown.Preview ring seed hour) question = AsksPreview ring.now seed hour question
AsksToShow (shown.Moves ring from to each) question =
    AsksMoves ring.now from.now to.now each question

-- What `export` asks of the ring of this name, in a format.
abbrev pub AsksPublished : List ℕ → List ℕ → Format → Question → Type 0
AsksPublished name word written question = AsksOfRing name (λ what. (number : ℕ)
    × SpellsNumber word 0 greatest_long number × (what ≡ Published number written)) question

-- What `nodes` asks of the ring of this name.
abbrev pub AsksNodes : List ℕ → PathNames → Question → Type 0
AsksNodes name path question =
    AsksOfRing name (λ what. (is_path path ≡ true) × (what ≡ Nodes path)) question

-- The task is to show this.
abbrev pub AsksShown : Task → Question → Type 0
AsksShown (task.Table file ring) question = AsksTables ring.now question
AsksShown (task.Show file what) question = AsksToShow what question
AsksShown (task.Export file ring version written) question = AsksPublished ring.now version.now
    written question
AsksShown (task.Nodes file ring account container object names) question =
    AsksNodes ring.now (names_given account container object) question
AsksShown _ question = ⊥

-- No name of a ring or a caller is spelt so.
abbrev pub IsNoName : List ℕ → Type 0
IsNoName word = (name : List ℕ) → SpellsName is_label word name → ⊥

-- No number of 32 bits is spelt so.
abbrev pub IsNoNumber : List ℕ → Type 0
IsNoNumber word = (number : ℕ) → SpellsNumber word 0 greatest_long number → ⊥

-- A word is given that spells no place of a log.
abbrev pub HasNoPlace : Option (Bor (List ℕ)) → Type 0
HasNoPlace None = ⊥
HasNoPlace (Some word) = IsNoNumber word.now

-- The ring that is to be shown has no name that is spelt so, or a version is no number.
abbrev pub HasNoName : Shown → Type 0
HasNoName shown.Rings = ⊥
HasNoName shown.Status = ⊥
HasNoName shown.Metrics = ⊥
HasNoName (shown.Ring ring what) = IsNoName ring.now
HasNoName (shown.Preview ring seed hour) = IsNoName ring.now
HasNoName (shown.Moves ring from to each) = IsNoName ring.now ⊎ IsNoNumber from.now
    ⊎ IsNoNumber to.now

-- The fault tells a word that isn't of its form or, where all words are of theirs, names that make
-- no path. Want of memory says nothing.
abbrev pub IsFormFault : Type 0 → Type 0 → ProgramFault → Type 0
IsFormFault malformed pathless fault.Unreadable = malformed
IsFormFault malformed pathless fault.BadPath = pathless × (malformed → ⊥)
IsFormFault malformed pathless fault.NoMemory = ⊤
IsFormFault malformed pathless _ = ⊥

-- A name or a number of the task isn't of its form.
abbrev pub HasBadWord : Task → Type 0
HasBadWord (task.Table file ring) = IsNoName ring.now
HasBadWord (task.Show file what) = HasNoName what
HasBadWord (task.Export file ring version written) = IsNoName ring.now ⊎ IsNoNumber version.now
HasBadWord (task.Log file from lines) = HasNoPlace from
HasBadWord (task.Nodes file ring account container object names) = IsNoName ring.now
HasBadWord (task.Import file ring caller number csv hour) = IsNoName ring.now ⊎ IsNoName caller.now
    ⊎ IsNoNumber number.now
HasBadWord _ = ⊥

-- The names of the task make no path.
abbrev pub IsPathless : Task → Type 0
IsPathless (task.Nodes file ring account container object names) = is_path (names_given account
    container object) ≢ true
IsPathless _ = ⊥

-- ---- what is shown

-- The text is what is written of what is shown of a question where this is held. Paths are hashed
-- between a prefix and a suffix.
abbrev pub ShowsAs : List ℕ → List ℕ → Question → List ℕ → Holding → Type 0
ShowsAs prefix suffix question text held = (bytes : List ℕ)
    × Shows prefix suffix held question bytes
    × (text ≡ written_as question bytes)

-- the hour that a question names in place of the clock's: that of a preview, where it isn't 0
abbrev pub named_hour : Question → Option ℕ
named_hour (asking.Ring name (Preview seed hour)) = if hour == 0 then None else Some hour
named_hour other = None

-- So it is, and the clock is the machine's, or was given the hour that the question names.
abbrev pub ShowsNow : List ℕ → List ℕ → Question → List ℕ → Holding → Type 0
ShowsNow prefix suffix question text held = TellsHour (named_hour question) held.clock
    × ShowsAs prefix suffix question text held

-- The fault tells why nothing is shown of a question where this is held.
abbrev pub HidesAs : Question → ProgramFault → Holding → Type 0
HidesAs question why held = (cause : Hidden) × Hides held question cause
    × (why ≡ hidden_fault cause)

-- ---- what the programs do

module _ {K : Type 0} (g : Keeping K) (Begins Ends : K → Type 0) where
  -- A keeper that begins so is asked at an hour of the clock, keeps its content, and is left so.
  pub record IsAsked (Tells : Holding → Type 0) : Type 0 where
    pub keeper : K
    pub later : K
    pub clock : ℕ
    pub opened : Begins keeper
    pub left : Ends later
    pub stays_sound : g.sound later → g.sound keeper
    pub stays : g.sound later → g.content later ≡ g.content keeper
    pub tells : g.sound later → Tells (holding g clock keeper)

  module _ {W : Type 0} (contents : W → Option (List ℕ)) (writer later : CountedWriter W)
      (prefix suffix : List ℕ) where
    -- What is shown of it of a question was written and flushed.
    abbrev pub ShowsRead : Question → Type 0
    ShowsRead question = (text : List ℕ) × IsAsked (ShowsNow prefix suffix question text)
        × Appends (contents (writer_of writer)) (contents (writer_of later)) text
        × (write_faults later ≡ write_faults writer) × IsFlushed later

-- Keepers of stores are these, begin so, and end so with what closing them answers.
module _ {K : Type 0} (g : Keeping K) (Begins : K → Type 0) (Ends : K → Closing → Type 0) where
  -- The store was asked and not shown, and keeps its content: its keeper failed so; or what is shown
  -- of it was read, and closing it failed so; or nothing is shown, for that fault.
  abbrev pub ShowsNothing : List ℕ → List ℕ → Question → ProgramFault → Type 0
  ShowsNothing prefix suffix question why = ((cause : KeepFault) × (why ≡ keep_fault cause)
      × IsAsked g Begins (WasClosedAfter g Ends cause) (λ held. ⊤))
      ⊎ (IsCloseFault why × ((text : List ℕ)
      × IsAsked g Begins (FailedToClose Ends why) (ShowsNow prefix suffix question text)))
      ⊎ IsAsked g Begins (WasClosed Ends) (λ held. HidesAs question why held)

  module _ {W : Type 0} (contents : W → Option (List ℕ)) (writer later : CountedWriter W)
      (prefix suffix : List ℕ) where
    -- This fault came of it: the store wasn't opened, for that fault; or it was asked and not shown.
    -- Then the writer wasn't touched. Or the store was closed well, and the writer failed and took a
    -- beginning of what is shown of it.
    abbrev pub FailsToShow : (ProgramFault → Type 0) → Question → ProgramFault → Type 0
    FailsToShow Refuses question why =
        (Refuses why × IsStoreFault why × (later ≡ writer))
        ⊎ (ShowsNothing prefix suffix question why × (later ≡ writer))
        ⊎ ((why ≡ fault.WriteFailed) × ((text : List ℕ)
        × IsAsked g Begins (IsClosedWhole g Ends) (ShowsNow prefix suffix question text)
        × WritesBeginning (contents (writer_of writer)) (contents (writer_of later)) text
        × (write_faults later ≡ one_more (write_faults writer))))
