-- What operators are promised of a run: how few replicas a rebalance takes off the devices that
-- remain, how long those of a moved partition stay, and that the rings stay valid.
use Rattle.std.specs.Prelude.{◌≡◌, ◌+◌, ◌-◌, ◌/◌, ◌^◌, ◌<◌, ◌≤◌, ◌++◌, ℕ, Bool, IsTrue, true, false}
use Rattle.std.specs.Prelude.{List, length, slice_get, Some, All, AllPairs}
use Rattle.ring_words.specs.Limits.{long_count, most_rings}
use Rattle.ring_model.specs.Ring.{RingRecord, partition_count}
use Rattle.ring_model.specs.Rings.{AreByName, ring_at, with_ring}
use Rattle.ring_model.specs.Valid.{IsValid}
use Rattle.ring_messages.specs.Commands.{IsProperCommand}
use Rattle.ring_place.specs.Rebalance.{Leaves, has_changed, is_locked}
use Rattle.ring_words.specs.Texts.{is_label}
use Rattle.ring_words.specs.declared.request.Limits.{Limits}
use Rattle.ring_words.specs.declared.command.Command.{Command}
use Rattle.ring_words.specs.declared.command.Act.{Act}
use Rattle.ring_words.specs.declared.command.Act.TheVariants as act
use Rattle.ring_words.specs.declared.command.Reply.{Reply}
use Rattle.request_book.specs.Content.{Content}
use Rattle.request_book.specs.declared.entry.Entry.{Entry}
use Rattle.builder.specs.Step.{State, Step, is_refused}

-- ---- one rebalance

-- From the one ring to the other few replicas leave a device that remains: at most one of each
-- partition, and none of a partition whose hours had not passed.
pub record LeavesFew (old : RingRecord) (hour : ℕ) (new : RingRecord) : Type 0 where
  pub one : (partition replica other : ℕ) →
      Leaves old new partition replica → Leaves old new partition other → replica ≡ other
  pub unlocked : (partition replica : ℕ) →
      Leaves old new partition replica → is_locked old hour partition ≡ false

-- The rings are as they were but for the one of this name, of which few replicas left.
pub record FewLeft (rings : State) (name : List ℕ) (hour : ℕ) (after : State) : Type 0 where
  pub old : RingRecord
  pub new : RingRecord
  pub was : ring_at name rings ≡ Some old
  pub is : after ≡ with_ring rings name new
  pub few : LeavesFew old hour new

-- ---- valid rings

-- There are no more rings than may be kept, by rising name. Each name is a ring's name, and each
-- ring is valid.
pub record AreValid (rings : State) : Type 0 where
  pub count : length rings ≤ most_rings
  pub by_name : AreByName rings
  pub named : All (λ named. IsTrue (is_label named.0)) rings
  pub each : All (λ named. IsValid named.1) rings

-- ---- the way of a run

-- a request that was decided, with the hour that was used and the reply
abbrev pub BookEntry : Type 0
BookEntry = Entry Command Reply

-- the requests that were decided, in their order
abbrev pub Entries : Type 0
Entries = List BookEntry

-- The command is such as there are, and the hour has 32 bits.
abbrev pub IsProperEntry : Entry Command Reply → Type 0
IsProperEntry entry = IsProperCommand entry.command × (entry.hour < long_count)

-- No entry is of an earlier hour than one before it.
abbrev pub DoNotFall : Entries → Type 0
DoNotFall entries = AllPairs (λ earlier later. earlier.hour ≤ later.hour) entries

-- The entries lead from the old rings to the new ones by way of these. Places count from 0: the
-- entry at place n finds `rings n`, and a step leads from there to `rings (n + 1)`.
pub record IsWay (limits : Limits) (old : State) (entries : Entries) (new : State)
    (rings : ℕ → State) : Type 0 where
  pub first : rings 0 ≡ old
  pub steps : (n : ℕ) (entry : Entry Command Reply) → slice_get entries n ≡ Some entry →
      Step limits (rings n) entry.hour entry.command entry.reply (rings (n + 1))
  pub last : rings (length entries) ≡ new

-- The entry is this act on the ring of this name, and it was done.
pub record IsDone (name : List ℕ) (what : Act) (entry : Entry Command Reply) : Type 0 where
  pub ring : entry.command.ring ≡ name
  pub is : entry.command.act ≡ what
  pub done : is_refused entry.reply ≡ false

-- whether an act rebalances a ring
abbrev pub is_rebalance : Act → Bool
is_rebalance (act.Rebalance seed) = true
is_rebalance (act.RebalanceAs told) = true
is_rebalance other = false

-- The entry is a rebalance of the ring of this name, foretold or not, and it was done.
pub record HasRebalanced (name : List ℕ) (entry : Entry Command Reply) : Type 0 where
  pub ring : entry.command.ring ≡ name
  pub is : is_rebalance entry.command.act ≡ true
  pub done : is_refused entry.reply ≡ false

-- Between two places this act on the ring of this name was never done.
abbrev pub NeverBetween : Entries → ℕ → ℕ → List ℕ → Act → Type 0
NeverBetween entries i j name what = (n : ℕ) (entry : Entry Command Reply) → i < n → n < j →
    slice_get entries n ≡ Some entry → IsDone name what entry → ⊥

-- Between two places the ring of this name was never told to take all hours as passed.
abbrev pub NeverPretended : Entries → ℕ → ℕ → List ℕ → Type 0
NeverPretended entries i j name = NeverBetween entries i j name act.PretendPassed

-- Between two places the hours of the ring of this name were never set to fewer than so many.
abbrev pub NeverFewerHours : Entries → ℕ → ℕ → List ℕ → ℕ → Type 0
NeverFewerHours entries i j name hours = (fewer : ℕ) → fewer < hours →
    NeverBetween entries i j name (act.SetHours fewer)

-- At this place a rebalance of the ring of this name was done. It found the one ring, and left the
-- other.
pub record RebalanceAt (entries : Entries) (rings : ℕ → State) (name : List ℕ) (n : ℕ) : Type 0
  where
    pub entry : Entry Command Reply
    pub there : slice_get entries n ≡ Some entry
    pub done : HasRebalanced name entry
    pub old : RingRecord
    pub new : RingRecord
    pub found : ring_at name (rings n) ≡ Some old
    pub left : ring_at name (rings (n + 1)) ≡ Some new

-- Each raise of the power splits every partition in two. This is the partition of the earlier ring
-- from which a partition of the later ring came.
abbrev pub origin : RingRecord → RingRecord → ℕ → ℕ
origin earlier later partition = partition / 2 ^ (later.power - earlier.power)

-- A rebalance of a ring at a place changed a seat of a partition. Where the ring stands at another
-- place, what came of that partition is locked until as many hours have passed since as the ring
-- then says.
abbrev pub LockStays : Entries → (ℕ → State) → List ℕ → ℕ → ℕ → Type 0
LockStays entries rings name i j = (move : RebalanceAt entries rings name i) (now : RingRecord)
    → ring_at name (rings j) ≡ Some now → (partition hour : ℕ) → partition < partition_count now
    → has_changed move.old move.new (origin move.old now partition) ≡ true
    → hour < move.entry.hour + now.min_hours → is_locked now hour partition ≡ true

-- A rebalance of a ring at a place, which then had at least so many hours, changed a seat of a
-- partition. One at another place takes a replica of what came of it off a device that remains only
-- once so many hours have passed.
abbrev pub RestsFor : ℕ → Entries → (ℕ → State) → List ℕ → ℕ → ℕ → Type 0
RestsFor hours entries rings name i j = (move : RebalanceAt entries rings name i)
    (later : RebalanceAt entries rings name j) → hours ≤ move.old.min_hours
    → (partition replica : ℕ)
    → has_changed move.old move.new (origin move.old later.old partition) ≡ true
    → Leaves later.old later.new partition replica → move.entry.hour + hours ≤ later.entry.hour

-- ---- versions

-- The rings are the same, whatever texts are published of each.
abbrev pub IsSameBeside : RingRecord → RingRecord → Type 0
IsSameBeside old new = record new { published = old.published } ≡ old

-- ---- what is promised

-- The entries lead safely from the old rings to the new ones by way of these.
pub record IsSafe (limits : Limits) (old : State) (entries : Entries) (new : State)
    (rings : ℕ → State) : Type 0 where
  pub way : IsWay limits old entries new rings
  pub hours : DoNotFall entries
  -- In each rebalance at most one replica of a partition leaves a device that remains, and none of
  -- a partition that is locked.
  pub few : (name : List ℕ) (n : ℕ) (entry : Entry Command Reply) →
      slice_get entries n ≡ Some entry → HasRebalanced name entry →
      FewLeft (rings n) name entry.hour (rings (n + 1))
  -- A move makes the lock. Where a rebalance changed a seat of a partition, no later one takes a
  -- replica of it, or of what came of it, off a device that remains before as many hours have
  -- passed as the ring then says, unless the ring got `pretend_passed` in between.
  pub rest : (name : List ℕ) (i j : ℕ) → i < j → NeverBetween entries i j name act.PretendPassed →
      (move : RebalanceAt entries rings name i) (later : RebalanceAt entries rings name j) →
      (partition replica : ℕ) →
      has_changed move.old move.new (origin move.old later.old partition) ≡ true →
      Leaves later.old later.new partition replica →
      move.entry.hour + later.old.min_hours ≤ later.entry.hour

-- The new book is the old one and entries that lead safely from the old rings to the new ones.
pub record LeadsSafely (limits : Limits) (old new : Content State Command Reply) : Type 0 where
  pub entries : Entries
  pub book : new.book ≡ old.book ++ entries
  pub rings : ℕ → State
  pub safe : IsSafe limits old.state entries new.state rings

-- All rings on the way of a run are valid.
abbrev pub AreValidOnTheWay : {limits : Limits} {old new : Content State Command Reply} →
    LeadsSafely limits old new → Type 0
AreValidOnTheWay led = (n : ℕ) → n ≤ length led.entries → AreValid (led.rings n)

-- A run leads safely from the old content to the new one. Where the old rings are valid and the old
-- hour has 32 bits, all rings on its way are valid, and the new hour has 32 bits too.
pub record IsSafeRun (limits : Limits) (old new : Content State Command Reply) : Type 0 where
  pub led : LeadsSafely limits old new
  pub valid : AreValid old.state → old.hour < long_count → AreValidOnTheWay led
  pub hour : old.hour < long_count → new.hour < long_count
