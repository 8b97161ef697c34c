-- What founding a store comes to on its way.
use Rattle.std.specs.Prelude.{◌≡◌, ◌⊎◌, ℕ, List, Option, max}
use Rattle.std.specs.Borrow.{Bor}
use Rattle.byte_streams.specs.declared.counted.CountedWriter.{CountedWriter}
use Rattle.builder.specs.Step.{State}
use Rattle.ring_book.specs.Book.{Keeping}
use Rattle.ring_founding.specs.Founding.{AreFounded, AreUnfounded}
use Rattle.ring_founding.specs.declared.founding.FoundFault.{FoundFault}
use Rattle.ring_founding.specs.declared.founding.Terms.{Terms}
use Rattle.ring_text.specs.Snapshot.{SnapshotRecord}
use Rattle.program_stores.specs.Faults.{IsStoreFault, found_fault}
use Rattle.program_stores.specs.Stores.{Closing}
use Rattle.programs.specs.Begun.{OpensNone, OpensOne}
use Rattle.programs.specs.Faults.{GetsTexts}
use Rattle.programs.specs.Founding.{AreNoRings, FailsToFound, IsNoRing, founding_lines}
use Rattle.programs.specs.Founding.{no_ring_lines}
use Rattle.program_stores.specs.declared.faults.ProgramFault.{ProgramFault}

-- ---- over rings that were found

-- Rings were founded beside these, and this is so of all, and of the greater of two hours.
abbrev pub FoundsOver : Terms → List SnapshotRecord → (State → ℕ → Type 0) → State → ℕ → Type 0
FoundsOver terms snapshots IsMade old hour = (rings : State)
    × AreFounded terms old snapshots rings × IsMade rings (max hour terms.hour)

-- They couldn't be, for this fault, and no store was made; or they were, and a store of all wasn't made
-- for it.
abbrev pub FailsOverFound : Terms → List SnapshotRecord → (State → ℕ → ProgramFault → Type 0)
    → ℕ → ℕ → State → ℕ → ProgramFault → Type 0
FailsOverFound terms snapshots IsUnmade before after old hour why =
    (((cause : FoundFault) × (why ≡ found_fault cause) × AreUnfounded terms old snapshots cause)
    × OpensNone before after)
    ⊎ (IsStoreFault why × ((rings : State) × AreFounded terms old snapshots rings
    × IsUnmade rings (max hour terms.hour) why) × OpensOne before after)

-- ---- what is told on a third stream

module _ (Holds : List ℕ → List ℕ → Type 0) (IsUnread : List ℕ → ℕ → ProgramFault → Type 0)
    {E : Type 0} (told : E → Option (List ℕ)) (errors late : CountedWriter E) where
  -- This fault came of the file of a name, and what is told of that was told.
  abbrev pub FailsTellingNoRing : List ℕ → ProgramFault → Type 0
  FailsTellingNoRing name why = (failed : IsNoRing Holds IsUnread name why)
      × GetsTexts told errors late (no_ring_lines Holds IsUnread name why failed)

  -- So it came of one of the files of these names.
  abbrev pub FailsTellingNoRings : List (List ℕ) → ProgramFault → Type 0
  FailsTellingNoRings names why = (texts : AreNoRings Holds IsUnread names why)
      × GetsTexts told errors late (no_ring_lines Holds IsUnread texts.name why texts.failed)

-- Founding failed, and its lines were told on a stream.
abbrev pub FailsTellingToFound : {K E : Type 0} (g : Keeping K) (Begins : List ℕ → K → Type 0)
    (Ends : K → Closing → Type 0) (Holds : List ℕ → List ℕ → Type 0)
    (Refuses : List ℕ → ProgramFault → Type 0) (IsUnmade : State → ℕ → ProgramFault → Type 0)
    (before after : ℕ) (IsUnread : List ℕ → ℕ → ProgramFault → Type 0)
    → (E → Option (List ℕ)) → CountedWriter E → CountedWriter E → List (List ℕ) → ℕ → Option ℕ
    → Option (Bor (List ℕ)) → ProgramFault → Type 0
FailsTellingToFound g Begins Ends Holds Refuses IsUnmade before after IsUnread told errors late names
    min_hours given from why =
    (failed : FailsToFound g Begins Ends Holds Refuses IsUnmade before after IsUnread names min_hours
    given from why)
    × GetsTexts told errors late (founding_lines g Begins Ends Holds Refuses IsUnmade before after
    IsUnread names min_hours given from why failed)
