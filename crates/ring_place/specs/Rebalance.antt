-- One rebalance of a ring at an hour: which seats are gathered, and where they are put.
-- Seats are named by partition and replica, devices by their numbers.
use Rattle.std.specs.Prelude.{◌≡◌, ◌≢◌, ℕ, ◌+◌, ◌-◌, ◌*◌, ◌<◌, ◌≤◌, ◌⊎◌, ◌==◌, ◌&&◌, ◌||◌, Bool}
use Rattle.std.specs.Prelude.{not, true, false, nat_lt, if◌then◌else◌, List, length, map, filter}
use Rattle.std.specs.Prelude.{count_by, sum_by, Option, Some, None}
use Rattle.std.specs.List.{list_any, range_with_len}
use Rattle.ring_model.specs.Ring.{RingRecord, has_present, moved_at, partition_count, risen, seat}
use Rattle.ring_share.specs.Crowd.{crowd_for, is_less, is_on, is_outside, row_of, seats_on}
use Rattle.ring_share.specs.Room.{has_open, has_room, have, want_of}
use Rattle.ring_share.specs.Want.{AreWanted}

-- ---- words

-- whether a seat is gathered
abbrev pub Gathered : Type 0
Gathered = ℕ → ℕ → Bool

-- This is a seat of the ring.
pub record IsSeat (ring : RingRecord) (partition replica : ℕ) : Type 0 where
  pub partition_there : partition < partition_count ring
  pub replica_there : replica < ring.replicas

-- how many of a ring's seats pass a test
abbrev pub count_seats : RingRecord → (ℕ → ℕ → Bool) → ℕ
count_seats ring test = sum_by (λ partition. count_by (test partition)
    (range_with_len 0 ring.replicas)) (range_with_len 0 (partition_count ring))

-- whether fewer hours passed since a move than the ring keeps a moved partition
abbrev pub is_recent : ℕ → ℕ → Option ℕ → Bool
is_recent min_hours hour None = false
is_recent min_hours hour (Some moved) = nat_lt hour (moved + min_hours)

-- whether a partition is locked at an hour: it was moved less than the ring's hours before
abbrev pub is_locked : RingRecord → ℕ → ℕ → Bool
is_locked ring hour partition = is_recent ring.min_hours hour (moved_at ring partition)

-- whether what is on a seat is no device that remains: the seat is empty, or its device is marked
-- to be removed
abbrev pub is_lost : RingRecord → Option ℕ → Bool
is_lost ring None = true
is_lost ring (Some id) = not (has_present id ring.devices)

-- whether a partition has a lost seat
abbrev pub has_lost : RingRecord → ℕ → Bool
has_lost ring partition = list_any (is_lost ring) (row_of ring partition)

-- whether two seats differ in what is on them
abbrev pub differs : Option ℕ → Option ℕ → Bool
differs None None = false
differs None (Some new) = true
differs (Some old) None = true
differs (Some old) (Some new) = not (old == new)

-- a partition without its gathered seats
abbrev pub kept_row : RingRecord → Gathered → ℕ → List (Option ℕ)
kept_row ring gathered partition = map (λ replica. if gathered partition replica then None else
    seat ring partition replica) (range_with_len 0 ring.replicas)

-- how many seats that aren't gathered are on the device of a number
abbrev pub kept_count : RingRecord → Gathered → ℕ → ℕ
kept_count ring gathered id = sum_by (λ partition. seats_on id (kept_row ring gathered partition))
    (range_with_len 0 (partition_count ring))

-- whether the device of a number has room and is outside a partition
abbrev pub is_free : RingRecord → List ℕ → ℕ → ℕ → Bool
is_free ring wanted partition id = has_room ring wanted id && is_outside (row_of ring partition) id

-- whether some device has room and is outside a partition
abbrev pub has_free : RingRecord → List ℕ → ℕ → Bool
has_free ring wanted partition = list_any (λ device. is_free ring wanted partition device.id)
    ring.devices

-- whether some such device is less crowded for a seat than the device of a number
abbrev pub has_less_crowded : RingRecord → List ℕ → ℕ → ℕ → ℕ → Bool
has_less_crowded ring wanted partition replica id = list_any
    (λ device. is_free ring wanted partition device.id &&
    is_less (crowd_for ring partition replica device.id) (crowd_for ring partition replica id))
    ring.devices

-- ---- which seats are gathered

-- Lost seats are gathered, whatever the hours, and nothing else of their partitions. Of any other
-- partition at most one seat is gathered, and none while the partition is locked.
pub record IsLawfulGathering (old : RingRecord) (hour : ℕ) (gathered : Gathered) : Type 0 where
  pub lost : (partition replica : ℕ) → IsSeat old partition replica →
      is_lost old (seat old partition replica) ≡ true → gathered partition replica ≡ true
  pub only_lost : (partition replica : ℕ) → IsSeat old partition replica →
      has_lost old partition ≡ true → gathered partition replica ≡ true →
      is_lost old (seat old partition replica) ≡ true
  pub one : (partition replica other : ℕ) → IsSeat old partition replica →
      IsSeat old partition other → has_lost old partition ≡ false →
      gathered partition replica ≡ true → gathered partition other ≡ true → replica ≡ other
  pub unlocked : (partition replica : ℕ) → IsSeat old partition replica →
      has_lost old partition ≡ false → gathered partition replica ≡ true →
      is_locked old hour partition ≡ false

-- A seat has a reason to leave its device: some device outside its partition with room is less
-- crowded, or there is some device outside with room, and its own keeps all that it wants.
abbrev pub HasReason : RingRecord → List ℕ → Gathered → ℕ → ℕ → ℕ → Type 0
HasReason old wanted gathered partition replica id =
    (has_less_crowded old wanted partition replica id ≡ true)
    ⊎ ((has_free old wanted partition ≡ true) ×
    (want_of old wanted id ≤ kept_count old gathered id))

-- Each gathered seat on a device that remains has a reason.
abbrev pub AreReasons : RingRecord → List ℕ → Gathered → Type 0
AreReasons old wanted gathered = (partition replica id : ℕ) → IsSeat old partition replica →
    gathered partition replica ≡ true →
    seat old partition replica ≡ Some id → has_present id old.devices ≡ true →
    HasReason old wanted gathered partition replica id

-- Nothing of a partition is gathered, though it isn't locked and has no lost seat.
pub record IsLeft (old : RingRecord) (hour : ℕ) (gathered : Gathered) (partition : ℕ) : Type 0 where
  pub unlocked : is_locked old hour partition ≡ false
  pub none_lost : has_lost old partition ≡ false
  pub none_gathered : (replica : ℕ) → replica < old.replicas → gathered partition replica ≡ false

-- Gathering is whole: in a partition that is left, for no seat is a device outside with room less
-- crowded, and, while some device outside has room, no seat is on a device that keeps more than it
-- wants.
pub record IsWhole (old : RingRecord) (hour : ℕ) (wanted : List ℕ) (gathered : Gathered) : Type 0
  where
    pub crowded : (partition replica id : ℕ) → IsSeat old partition replica →
        IsLeft old hour gathered partition →
        seat old partition replica ≡ Some id → has_less_crowded old wanted partition replica id ≡
        false
    pub surplus : (partition replica id : ℕ) → IsSeat old partition replica →
        IsLeft old hour gathered partition →
        seat old partition replica ≡ Some id → has_free old wanted partition ≡ true →
        kept_count old gathered id ≤ want_of old wanted id

-- ---- where they are put

-- A gathered seat may go to the device of a number: it is open, or the seat's own and not marked to
-- be removed.
abbrev pub MayTake : RingRecord → ℕ → ℕ → ℕ → Type 0
MayTake old partition replica id = (has_open id old.devices ≡ true) ⊎
    ((seat old partition replica ≡ Some id) × (has_present id old.devices ≡ true))

-- Seats that aren't gathered stay. Each gathered seat is on a device that may take it. The seats of
-- a partition are on different devices.
pub record IsSeated (old : RingRecord) (gathered : Gathered) (new : RingRecord) : Type 0 where
  pub stay : (partition replica : ℕ) → IsSeat old partition replica →
      gathered partition replica ≡ false →
      seat new partition replica ≡ seat old partition replica
  pub taken : (partition replica : ℕ) → IsSeat old partition replica →
      gathered partition replica ≡ true →
      (id : ℕ) × (seat new partition replica ≡ Some id) × MayTake old partition replica id
  pub distinct : (partition replica other id : ℕ) → IsSeat old partition replica →
      IsSeat old partition other →
      seat new partition replica ≡ Some id → seat new partition other ≡ Some id → replica ≡ other

-- In the new ring no device outside its partition with room is less crowded for a gathered seat
-- than its own.
abbrev pub AreSettled : RingRecord → Gathered → RingRecord → List ℕ → Type 0
AreSettled old gathered new wanted = (partition replica id : ℕ) → IsSeat old partition replica →
    gathered partition replica ≡ true →
    seat new partition replica ≡ Some id → has_less_crowded new wanted partition replica id ≡ false

-- whether a seat has left a device that remains
abbrev pub has_left : RingRecord → Option ℕ → Option ℕ → Bool
has_left old None to = false
has_left old (Some from) to = has_present from old.devices && differs (Some from) to

-- whether a gathered seat takes room on the device of a number: it is on it now, and it has left a
-- device that remains or some device outside its partition still has room
abbrev pub takes_room : RingRecord → Gathered → RingRecord → List ℕ → ℕ → ℕ → ℕ → Bool
takes_room old gathered new wanted id partition replica = gathered partition replica &&
    is_on (λ other. other == id) (seat new partition replica)
    && (has_left old (seat old partition replica) (seat new partition replica) ||
    has_free new wanted partition)

-- No more seats take room on a device than it wants beyond those that it keeps.
abbrev pub IsWithinRoom : RingRecord → Gathered → RingRecord → List ℕ → Type 0
IsWithinRoom old gathered new wanted = (id : ℕ) → has_present id old.devices ≡ true →
    count_seats old (takes_room old gathered new wanted id) ≤ want_of new wanted id - kept_count old
    gathered id

-- A seat that has left a device that remains is on a less crowded one, or the device that it left
-- has all that it wants.
abbrev pub IsGain : RingRecord → RingRecord → List ℕ → Type 0
IsGain old new wanted = (partition replica from to : ℕ) → IsSeat old partition replica →
    seat old partition replica ≡ Some from → has_present from old.devices ≡ true →
    seat new partition replica ≡ Some to → to ≢ from →
    (is_less (crowd_for new partition replica to) (crowd_for new partition replica from) ≡ true) ⊎
    (want_of new wanted from ≤ have new from)

-- ---- the ring that it gives

-- whether what is on a partition's seats differs between two rings
abbrev pub has_changed : RingRecord → RingRecord → ℕ → Bool
has_changed old new partition = list_any (λ replica. differs (seat old partition replica)
    (seat new partition replica)) (range_with_len 0 old.replicas)

-- how many seats differ
abbrev pub changed_seats : RingRecord → RingRecord → ℕ
changed_seats old new = count_seats old (λ partition replica. differs (seat old partition replica)
    (seat new partition replica))

-- The partitions of which a seat changed, and no others, were moved at the hour. The marked devices
-- are gone. The version is one more, and all else but the seats is as it was.
pub record IsAfter (old : RingRecord) (hour : ℕ) (new : RingRecord) : Type 0 where
  pub moved : (partition : ℕ) → partition < partition_count old →
      moved_at new partition ≡ (if has_changed old new partition then Some hour else
      moved_at old partition)
  -- there is one seat for each replica of each partition, and none behind the last
  pub seat_count : length new.seats ≡ partition_count old * old.replicas
  -- and for each partition the hour of its last move, or never, and none behind the last
  pub moved_count : length new.moved ≡ partition_count old
  pub devices : new.devices ≡ filter (λ device. not device.removed) old.devices
  pub version : new.version ≡ risen old.version
  pub rest : record new {
    version = old.version;
    devices = old.devices;
    seats = old.seats;
    moved =
        old.moved;
  } ≡ old

-- The new ring is the old one rebalanced at the hour, which may move seats of no more than a lawful
-- gathering.
pub record IsLawfulRebalance (old : RingRecord) (hour : ℕ) (new : RingRecord) : Type 0 where
  pub gathered : Gathered
  pub lawful : IsLawfulGathering old hour gathered
  pub seated : IsSeated old gathered new
  pub after : IsAfter old hour new

-- The new ring is the old one rebalanced at the hour. The devices want as much before as after:
-- those that go want nothing, and weigh for nobody.
pub record IsRebalance (old : RingRecord) (hour : ℕ) (new : RingRecord) : Type 0 where
  pub gathered : Gathered
  pub wanted_before : List ℕ
  pub wanted_after : List ℕ
  pub are_before : AreWanted old wanted_before
  pub are_after : AreWanted new wanted_after
  pub lawful : IsLawfulGathering old hour gathered
  pub reasons : AreReasons old wanted_before gathered
  pub whole : IsWhole old hour wanted_before gathered
  pub seated : IsSeated old gathered new
  pub settled : AreSettled old gathered new wanted_after
  pub within_room : IsWithinRoom old gathered new wanted_after
  pub gain : IsGain old new wanted_after
  pub after : IsAfter old hour new

-- ---- what follows

-- A replica of a partition has left a device that remains.
abbrev pub Leaves : RingRecord → RingRecord → ℕ → ℕ → Type 0
Leaves old new partition replica = IsSeat old partition replica ×
    (has_left old (seat old partition replica) (seat new partition replica) ≡ true)

-- A seat of an unlocked partition is where it should be: for it no device outside with room is less
-- crowded than its own, and, while some device outside has room, its own has no more than it wants.
pub record IsAtRest (ring : RingRecord) (wanted : List ℕ) (partition replica id : ℕ) : Type 0 where
  pub uncrowded : has_less_crowded ring wanted partition replica id ≡ false
  pub no_surplus : has_free ring wanted partition ≡ true → have ring id ≤ want_of ring wanted id

-- Each seat of a partition that isn't locked is at rest.
abbrev pub UnlockedAreAtRest : RingRecord → ℕ → List ℕ → Type 0
UnlockedAreAtRest ring hour wanted = (partition replica id : ℕ) → IsSeat ring partition replica →
    is_locked ring hour partition ≡ false → seat ring partition replica ≡ Some id →
    IsAtRest ring wanted partition replica id
