-- What is measured of rings.
use Rattle.std.specs.Prelude.{◌≡◌, ⊤, ℕ, ◌-◌, List, [], ◌∷◌, codes, count_by, length, sum_by}
use Rattle.std.specs.List.{zip}
use Rattle.std.specs.Str.{bytes_eq}
use Rattle.ring_model.specs.Ring.{RingRecord, partition_count}
use Rattle.ring_share.specs.Figures.{ring_balance, ring_dispersion}
use Rattle.ring_share.specs.Room.{have}
use Rattle.ring_share.specs.Want.{AreWanted}
use Rattle.ring_tables.specs.Tables.{state_text}
use Rattle.ring_words.specs.declared.device.Device.{Device}
use Rattle.ring_metrics.specs.Locks.{IsRest, locked_count}
use Rattle.ring_metrics.specs.declared.measures.Measured.{Measured}

-- how many devices of a ring are in the state that a word names
abbrev pub devices_in : RingRecord → List ℕ → ℕ
devices_in ring state = count_by (λ device. bytes_eq (state_text device) state) ring.devices

-- how many of the seats of a device are above those that it wants
abbrev pub seats_above : RingRecord → Device × ℕ → ℕ
seats_above ring wanting = have ring wanting.0.id - wanting.1

-- how many seats of a ring are not where they are wanted; the wants are in the order of the devices
abbrev pub misplaced_seats : RingRecord → List ℕ → ℕ
misplaced_seats ring wants = sum_by (seats_above ring) (zip ring.devices wants)

-- This is measured of a ring under its name at an hour.
pub record IsMeasured (entry : List ℕ × RingRecord) (hour : ℕ) (measured : Measured) : Type 0 where
  pub name : measured.name.now ≡ entry.0
  pub version : measured.version ≡ entry.1.version
  pub partitions : measured.partitions ≡ partition_count entry.1
  pub replicas : measured.replicas ≡ entry.1.replicas
  pub open_devices : measured.open_devices ≡ devices_in entry.1 (codes "open")
  pub drained_devices : measured.drained_devices ≡ devices_in entry.1 (codes "drained")
  pub removed_devices : measured.removed_devices ≡ devices_in entry.1 (codes "removed")
  pub balance : measured.balance ≡ ring_balance entry.1
  pub dispersion : measured.dispersion ≡ ring_dispersion entry.1
  pub locked : measured.locked ≡ locked_count entry.1 hour
  pub rest : IsRest entry.1 hour measured.rest
  pub published : measured.published ≡ length entry.1.published
  pub misplaced : (wants : List ℕ) × AreWanted entry.1 wants
      × (measured.misplaced ≡ misplaced_seats entry.1 wants)

-- This is measured of the rings at an hour, one after another.
abbrev pub AreMeasured : List (List ℕ × RingRecord) → ℕ → List Measured → Type 0
AreMeasured [] hour [] = ⊤
AreMeasured [] hour (measured ∷ all) = ⊥
AreMeasured (entry ∷ rings) hour [] = ⊥
AreMeasured (entry ∷ rings) hour (measured ∷ all) =
    IsMeasured entry hour measured × AreMeasured rings hour all
