-- What the program `found` does.
use Rattle.std.specs.Prelude.{◌≡◌, ◌≢◌, ◌⊎◌, ◌++◌, ◌∷◌, [], ⊤, ℕ, IsTrue, List, None, Option, Some, codes}
use Rattle.std.specs.Prelude.{decimal, max, true}
use mathlib.Core.Logic.{inl, inr}
use Rattle.std.specs.Borrow.{Bor}
use Rattle.builder.specs.Step.{State}
use Rattle.ring_book.specs.Book.{Keeping}
use Rattle.ring_founding.specs.Founding.{AreFounded, AreUnfounded, IsFounded}
use Rattle.ring_founding.specs.declared.founding.FoundFault.{FoundFault}
use Rattle.ring_founding.specs.declared.founding.Terms.{Terms}
use Rattle.ring_model.specs.Ring.{RingRecord, is_assigned}
use Rattle.ring_model.specs.Valid.{IsValid}
use Rattle.ring_reads.specs.Reads.{SpellsNoRing}
use Rattle.ring_text.specs.Snapshot.{SnapshotRecord, snapshot_of}
use Rattle.ring_text.specs.Spelling.{Spells, spelling}
use Rattle.ring_text.specs.Stops.{IsStop}
use Rattle.ring_words.specs.Texts.{is_label}
use Rattle.program_stores.specs.Faults.{IsFileFault, IsStoreFault, found_fault}
use Rattle.program_stores.specs.Stores.{Closing}
use Rattle.programs.specs.Begun.{IsClosedWhole, OpensNone, OpensOne, OpensTwo}
use Rattle.programs.specs.Renewing.{FailsToRead, IsRead}
use Rattle.programs.specs.Serving.{TellsHour}
use Rattle.programs.specs.Tables.{HoldsShort}
use Rattle.program_stores.specs.declared.faults.ProgramFault.{ProgramFault}
use Rattle.program_stores.specs.declared.faults.ProgramFault.TheVariants as fault

-- ---- what is told

-- the line that tells where the text in a file stops being that of a ring
abbrev pub stop_line : List ℕ → ℕ → List ℕ
stop_line name at = codes "ringd: " ++ name ++ codes ": line " ++ decimal at ++
    codes " is missing, or not what the text of a ring has there\n"

-- ---- the texts

-- how many bytes the text of a ring has at most
abbrev pub longest_ring_text : ℕ
longest_ring_text = 1048576

-- A file of a name may hold such a text.
module _ (Holds : List ℕ → List ℕ → Type 0) where
  -- Each file of these names holds the text of a ring, and these are the rings, as their texts tell
  -- them, in the order of the names.
  abbrev pub HoldRings : List (List ℕ) → List SnapshotRecord → Type 0
  HoldRings [] snapshots = snapshots ≡ []
  HoldRings (name ∷ names) snapshots = (text : List ℕ) × (snapshot : SnapshotRecord)
      × (later : List SnapshotRecord) × (snapshots ≡ snapshot ∷ later)
      × HoldsShort (Holds name) longest_ring_text text × Spells text snapshot
      × HoldRings names later

  -- The file of a name holds a text that is that of no ring, and stops being one in this line.
  pub record HoldsNoRing (name : List ℕ) (at : ℕ) : Type 0 where
    pub text : List ℕ
    pub held : HoldsShort (Holds name) longest_ring_text text
    pub none : SpellsNoRing text
    pub line : IsStop text at

  -- For such a fault the file of a name gives no text of at most so many bytes.
  module _ (IsUnread : List ℕ → ℕ → ProgramFault → Type 0) where
    -- This fault came of the file of a name: it wasn't read, or there was no memory, or its text is
    -- that of no ring.
    abbrev pub IsNoRing : List ℕ → ProgramFault → Type 0
    IsNoRing name why = (IsUnread name longest_ring_text why × IsFileFault why)
        ⊎ (why ≡ fault.NoMemory)
        ⊎ ((why ≡ fault.BadText) × ((at : ℕ) × HoldsNoRing name at))

    -- the lines that were told of that before the fault
    abbrev pub no_ring_lines : (name : List ℕ) (why : ProgramFault) → IsNoRing name why
        → List (List ℕ)
    no_ring_lines name why (inl unread) = []
    no_ring_lines name why (inr (inl memory)) = []
    no_ring_lines name why (inr (inr (is, (at, none)))) = stop_line name at ∷ []

    -- This fault came of one of these files: those before it hold the texts of rings.
    pub record AreNoRings (names : List (List ℕ)) (why : ProgramFault) : Type 0 where
      pub before : List (List ℕ)
      pub name : List ℕ
      pub behind : List (List ℕ)
      pub names_are : names ≡ before ++ name ∷ behind
      pub snapshots : List SnapshotRecord
      pub hold : HoldRings before snapshots
      pub failed : IsNoRing name why

-- For such a fault the file of a name gives no text of at most so many bytes.
module _ (IsUnread : List ℕ → ℕ → ProgramFault → Type 0) where
  -- A store is given, and there is no file of its name.
  abbrev pub IsMissing : Option (Bor (List ℕ)) → ProgramFault → Type 0
  IsMissing None why = ⊥
  IsMissing (Some file) why = (why ≡ fault.NoFile) × IsUnread file.now 0 fault.NoFile

  -- A store that is given has a file of its name: that gives a text, or none for another fault than
  -- that it is not there.
  abbrev pub IsThere : (List ℕ → List ℕ → Type 0) → Option (Bor (List ℕ)) → Type 0
  IsThere Holds None = ⊤
  IsThere Holds (Some file) = ((text : List ℕ) × Holds file.now text)
      ⊎ ((why : ProgramFault) × (why ≢ fault.NoFile) × IsUnread file.now 0 why)

-- ---- the rings

-- The words ask for these terms, by the hour that is given or that of the machine.
pub record AsksTerms (hours : ℕ) (given : Option ℕ) (terms : Terms) : Type 0 where
  pub min_hours : terms.min_hours ≡ hours
  pub hour : TellsHour given terms.hour

-- Keepers of stores are these, and end so with what closing them answers. A store of a name that is
-- opened begins so.
module _ {K : Type 0} (g : Keeping K) (Begins : List ℕ → K → Type 0)
    (Ends : K → Closing → Type 0) where
  -- The rings of snapshots are founded beside those of the store of a name, if one is given, which
  -- stays as it is; and this is so of all rings, and of the greatest of the hours.
  abbrev pub FoundsBeside : Terms → List SnapshotRecord → Option (Bor (List ℕ))
      → (State → ℕ → Type 0) → Type 0
  FoundsBeside terms snapshots None IsMade = (rings : State) × AreFounded terms [] snapshots rings
      × IsMade rings terms.hour
  FoundsBeside terms snapshots (Some file) IsMade = IsRead g (Begins file.now)
      (IsClosedWhole g Ends)
      (λ old hour. (rings : State) × AreFounded terms old snapshots rings
      × IsMade rings (max hour terms.hour))

  -- A store that is opened is refused for such a fault, and one that is to be made of these rings and
  -- this hour isn't for such a fault. Of stores this many were opened or made before and after.
  module _ (Refuses : List ℕ → ProgramFault → Type 0) (IsUnmade : State → ℕ → ProgramFault → Type 0)
      (before after : ℕ) where
    -- Founding the rings beside those of the store of a name, if one is given, failed so: that store
    -- wasn't read; or it was, and stays as it is, and the rings can't be put beside those; or no store
    -- was made of all.
    abbrev pub FailsBeside : Terms → List SnapshotRecord → Option (Bor (List ℕ)) → ProgramFault
        → Type 0
    FailsBeside terms snapshots None why =
        (((cause : FoundFault) × (why ≡ found_fault cause) × AreUnfounded terms [] snapshots cause)
        × OpensNone before after)
        ⊎ (IsStoreFault why × ((rings : State) × AreFounded terms [] snapshots rings
        × IsUnmade rings terms.hour why) × OpensOne before after)
    FailsBeside terms snapshots (Some file) why =
        (FailsToRead g (Begins file.now) Ends (Refuses file.now) why × OpensOne before after)
        ⊎ (((cause : FoundFault) × (why ≡ found_fault cause) × IsRead g (Begins file.now)
        (IsClosedWhole g Ends) (λ old hour. AreUnfounded terms old snapshots cause))
        × OpensOne before after)
        ⊎ (IsStoreFault why × IsRead g (Begins file.now) (IsClosedWhole g Ends)
        (λ old hour. (rings : State) × AreFounded terms old snapshots rings
        × IsUnmade rings (max hour terms.hour) why) × OpensTwo before after)

-- ---- the program

-- So it is of keepers, and a file of a name may hold such a text.
module _ {K : Type 0} (g : Keeping K) (Begins : List ℕ → K → Type 0)
    (Ends : K → Closing → Type 0) (Holds : List ℕ → List ℕ → Type 0) where
  -- The files of these names hold the texts of rings, and a store was made of these as they stand.
  pub record Founds (names : List (List ℕ)) (min_hours : ℕ) (given : Option ℕ)
      (from : Option (Bor (List ℕ))) (IsMade : State → ℕ → Type 0) : Type 0 where
    pub terms : Terms
    pub asks : AsksTerms min_hours given terms
    pub snapshots : List SnapshotRecord
    pub hold : HoldRings Holds names snapshots
    pub founds : FoundsBeside g Begins Ends terms snapshots from IsMade

  -- For such faults stores are refused and not made. Of stores this many were opened or made before
  -- and after.
  module _ (Refuses : List ℕ → ProgramFault → Type 0) (IsUnmade : State → ℕ → ProgramFault → Type 0)
      (before after : ℕ) where
    -- This fault came of founding the rings of these files: of a file, or of a store that is given and
    -- isn't there, and no store was opened or made; or all files hold the texts of rings, and it came of
    -- the stores.
    abbrev pub FailsToFound : (List ℕ → ℕ → ProgramFault → Type 0) → List (List ℕ) → ℕ → Option ℕ
        → Option (Bor (List ℕ)) → ProgramFault → Type 0
    FailsToFound IsUnread names min_hours given from why =
        (AreNoRings Holds IsUnread names why × OpensNone before after)
        ⊎ (IsMissing IsUnread from why × OpensNone before after)
        ⊎ ((terms : Terms) × AsksTerms min_hours given terms × (snapshots : List SnapshotRecord)
        × HoldRings Holds names snapshots
        × FailsBeside g Begins Ends Refuses IsUnmade before after terms snapshots from why)

    -- the lines that were told before the fault
    abbrev pub founding_lines : (IsUnread : List ℕ → ℕ → ProgramFault → Type 0)
        (names : List (List ℕ)) (min_hours : ℕ) (given : Option ℕ) (from : Option (Bor (List ℕ)))
        (why : ProgramFault) → FailsToFound IsUnread names min_hours given from why → List (List ℕ)
    founding_lines IsUnread names min_hours given from why (inl (texts, none)) =
        no_ring_lines Holds IsUnread texts.name why texts.failed
    founding_lines IsUnread names min_hours given from why (inr (inl missing)) = []
    founding_lines IsUnread names min_hours given from why (inr (inr stores)) = []

-- ---- what was exported

-- A text is the one that was published of a ring under a name, and tells a snapshot, of which a ring
-- is founded: it has the version, the power and the replicas of the first, the same devices, and each
-- of them on the same seats, under the same name.
abbrev pub ExportedComesIn : Type 0
ExportedComesIn = (name text : List ℕ) (old ring : RingRecord) (terms : Terms)
    (snapshot : SnapshotRecord)
    → IsValid old → is_assigned old ≡ true → IsTrue (is_label name)
    → text ≡ spelling (snapshot_of name old) → Spells text snapshot → IsFounded terms snapshot ring
    → (snapshot.name ≡ name) × (ring.version ≡ old.version) × (ring.power ≡ old.power)
    × (ring.replicas ≡ old.replicas) × (ring.devices ≡ old.devices) × (ring.seats ≡ old.seats)
