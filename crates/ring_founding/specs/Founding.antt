-- Rings that come in with their seats.
use Rattle.std.specs.Prelude.{◌≡◌, ⊤, ℕ, ◌+◌, ◌^◌, ◌<◌, ◌++◌, List, [], ◌∷◌, All, Any, None, Some}
use Rattle.std.specs.Prelude.{length}
use Rattle.std.specs.Prelude.{replicate}
use Rattle.ring_words.specs.Limits.{most_rings}
use Rattle.ring_words.specs.declared.device.Device.{Device}
use Rattle.ring_model.specs.Ring.{RingRecord}
use Rattle.ring_model.specs.Rings.{ring_at, with_ring}
use Rattle.ring_text.specs.Snapshot.{SnapshotRecord}
use Rattle.ring_founding.specs.declared.founding.FoundFault.{FoundFault}
use Rattle.ring_founding.specs.declared.founding.FoundFault.TheVariants.{NoMemory, RingExists}
use Rattle.ring_founding.specs.declared.founding.FoundFault.TheVariants.{TooManyRings}
use Rattle.ring_founding.specs.declared.founding.Terms.{Terms}

-- The number is one beyond the greatest of these devices.
pub record IsNextNumber (devices : List Device) (next : ℕ) : Type 0 where
  pub beyond : All (λ device. device.id < next) devices
  pub reached : Any (λ device. device.id + 1 ≡ next) devices

-- The ring is that of the snapshot as it stands: its devices with their numbers and marks, and all
-- its seats. Each of its partitions counts as moved at the hour, nothing of it is published, and
-- the next device gets the number beyond the greatest.
pub record IsFounded (terms : Terms) (snapshot : SnapshotRecord) (ring : RingRecord) : Type 0 where
  pub power : ring.power ≡ snapshot.power
  pub replicas : ring.replicas ≡ snapshot.replicas
  pub version : ring.version ≡ snapshot.version
  pub devices : ring.devices ≡ snapshot.devices
  pub seats : ring.seats ≡ snapshot.seats
  pub min_hours : ring.min_hours ≡ terms.min_hours
  pub next_id : IsNextNumber snapshot.devices ring.next_id
  pub moved : ring.moved ≡ replicate (2 ^ snapshot.power) (Some terms.hour)
  pub published : ring.published ≡ []

-- The rings, and those of these snapshots under their names, one after another. No name was there
-- before, and there was room for each.
abbrev pub AreFounded : Terms → List (List ℕ × RingRecord) → List SnapshotRecord →
    List (List ℕ × RingRecord) → Type 0
AreFounded terms rings [] founded = founded ≡ rings
AreFounded terms rings (snapshot ∷ later) founded = (ring : RingRecord)
    × IsFounded terms snapshot ring × (ring_at snapshot.name rings ≡ None)
    × (length rings < most_rings)
    × AreFounded terms (with_ring rings snapshot.name ring) later founded

-- The ring of the snapshot is one of these, under its name.
pub record IsAmong (terms : Terms) (rings : List (List ℕ × RingRecord)) (snapshot : SnapshotRecord)
    : Type 0 where
  pub ring : RingRecord
  pub is : IsFounded terms snapshot ring
  pub there : ring_at snapshot.name rings ≡ Some ring

-- The ring of the snapshot can't be put beside these, for this reason. Want of memory says nothing.
abbrev pub IsUnfounded : List (List ℕ × RingRecord) → SnapshotRecord → FoundFault → Type 0
IsUnfounded rings snapshot RingExists = (ring : RingRecord)
    × (ring_at snapshot.name rings ≡ Some ring)
IsUnfounded rings snapshot TooManyRings = (ring_at snapshot.name rings ≡ None)
    × (length rings ≡ most_rings)
IsUnfounded rings snapshot NoMemory = ⊤

-- The rings of these snapshots can't all be put beside these: those of the first few were, and that
-- of the next one can't be, for this reason.
abbrev pub AreUnfounded : Terms → List (List ℕ × RingRecord) → List SnapshotRecord → FoundFault →
    Type 0
AreUnfounded terms rings snapshots why = (few : List SnapshotRecord) × (next : SnapshotRecord)
    × (later : List SnapshotRecord) × (mid : List (List ℕ × RingRecord))
    × (snapshots ≡ few ++ next ∷ later) × AreFounded terms rings few mid × IsUnfounded mid next why
