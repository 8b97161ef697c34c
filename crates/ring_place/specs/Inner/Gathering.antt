-- Which seats are gathered: each is lifted, which leaves it empty. Of a partition `old` are the seats
-- before and `row` or `lifted` those after; `was` is how full the devices are with all seats, and
-- `kept` how full they are without the lifted ones.
use Rattle.std.specs.Prelude.{◌≡◌, ℕ, ◌+◌, ◌<◌, ◌≤◌, ◌==◌, ◌⊎◌, ⊤, Bool, true, false}
use Rattle.ring_words.specs.Limits.{most_replicas}
use Rattle.std.specs.Prelude.{if◌then◌else◌, List, length, map, Option, Some, None, slice_get}
use Rattle.std.specs.Prelude.{nat_lt, slice_index_or, slice_set, sum_by}
use Rattle.std.specs.List.{list_any, range_with_len}
use Rattle.ring_model.specs.Ring.{RingRecord, has_device, has_present, partition_count}
use Rattle.ring_words.specs.declared.device.Device.{Device}
use Rattle.ring_share.specs.Crowd.{is_less, others, seats_on}
use Rattle.ring_share.specs.Room.{have}
use Rattle.ring_share.specs.Want.{AreWanted}
use Rattle.ring_deal.specs.Inner.Orders.{is_among}
use Rattle.ring_place.specs.declared.gather.Pass.{Pass}
use Rattle.ring_place.specs.declared.gather.Pass.TheVariants.{First, Apart, Beside, Second}
use Rattle.ring_place.specs.declared.surplus.Gift.{Gift}
use Rattle.ring_room.specs.Load.{Load, IsLeast, IsLoad, crowd_in, have_in, is_free_in, want_in}
use Rattle.ring_place.specs.Rebalance.{Gathered, AreReasons, IsLawfulGathering, IsWhole}
use Rattle.ring_place.specs.Rebalance.{kept_count as kept_by, kept_row}
use Rattle.ring_room.specs.Rows.{AreKnown, is_empty}
use Rattle.ring_room.specs.Free.{has_free_in, is_crowded_in}
use Rattle.ring_place.specs.Made.{is_drained_in, is_lost_in, row_at}

-- ---- words

-- the seat, empty if it is lost
abbrev pub present_only : List Device → Option ℕ → Option ℕ
present_only devices None = None
present_only devices (Some id) = if has_present id devices then Some id else None

-- ---- one partition

-- The seat of a replica is lifted from a device.
pub record Lifts (old row : List (Option ℕ)) (replica id : ℕ) : Type 0 where
  pub at : slice_get old replica ≡ Some (Some id)
  pub lifted : row ≡ slice_set old replica None

-- The devices have the seats that a partition lost no more.
pub record Takes (before after : Load) (old row : List (Option ℕ)) : Type 0 where
  pub devices : after.devices ≡ before.devices
  pub wanted : after.wanted ≡ before.wanted
  pub load : IsLoad after
  pub counts : (id : ℕ) → has_device id before.devices ≡ true → have_in after id + seats_on id old ≡
      have_in before id + seats_on id row

-- No seat is on a device that keeps more than it wants.
abbrev pub HaveNoSurplus : Load → List (Option ℕ) → Type 0
HaveNoSurplus kept row = (replica id : ℕ) → slice_get row replica ≡ Some (Some id) →
    have_in kept id ≤ want_in kept id

-- A seat on the device of a number can go apart, where `rest` are the other seats of its partition:
-- some device outside them with room is no more crowded.
pub record CanGoApart (load : Load) (rest : List (Option ℕ)) (id : ℕ) : Type 0 where
  pub to : ℕ
  pub free : is_free_in load rest to ≡ true
  pub no_more : is_less (crowd_in load rest id) (crowd_in load rest to) ≡ false

-- It can't: each such device is more crowded.
abbrev pub CannotGoApart : Load → List (Option ℕ) → ℕ → Type 0
CannotGoApart load rest id = (to : ℕ) → is_free_in load rest to ≡ true →
    is_less (crowd_in load rest id) (crowd_in load rest to) ≡ true

-- whether a seat is on a device that wants nothing
abbrev pub is_idle_in : Load → Option ℕ → Bool
is_idle_in load None = false
is_idle_in load (Some id) = want_in load id == 0

-- No seat is on a device that wants nothing while some device outside has room, and for none is
-- such a device less crowded.
abbrev pub AreCalm : Load → List (Option ℕ) → Type 0
AreCalm was row = (replica id : ℕ) → slice_get row replica ≡ Some (Some id) →
    (is_drained_in was row id ≡ false) × (is_crowded_in was row replica id ≡ false)

-- A seat may leave the device of a number in a pass: some device outside has room, and its own wants
-- nothing or such a device is less crowded; or its own keeps more than it wants, and it can go
-- apart; or its own keeps more than it wants.
abbrev pub MayBeLifted : Pass → Load → Load → List (Option ℕ) → ℕ → ℕ → Type 0
MayBeLifted First was kept row replica id = (is_drained_in was row id ≡ true) ⊎
    (is_crowded_in was row replica id ≡ true)
MayBeLifted Apart was kept row replica id = (want_in kept id < have_in kept id) × CanGoApart was
    (others row replica) id
MayBeLifted (Beside most) was kept row replica id = want_in kept id < have_in kept id
MayBeLifted Second was kept row replica id = want_in kept id < have_in kept id

-- It may not: nothing is said of those that a limit holds back.
abbrev pub MustStay : Pass → Load → Load → List (Option ℕ) → ℕ → ℕ → Type 0
MustStay First was kept row replica id = (is_drained_in was row id ≡ false) ×
    (is_crowded_in was row replica id ≡ false)
MustStay Apart was kept row replica id = want_in kept id < have_in kept id → CannotGoApart was
    (others row replica) id
MustStay (Beside most) was kept row replica id = ⊤
MustStay Second was kept row replica id = have_in kept id ≤ want_in kept id

-- This seat of a partition may leave its device in a pass.
pub record IsGift (pass : Pass) (was kept : Load) (row : List (Option ℕ)) (gift : Gift) : Type 0
  where
    pub at : slice_get row gift.replica ≡ Some (Some gift.device)
    pub leaves : MayBeLifted pass was kept row gift.replica gift.device

-- No seat on a device that keeps more than it wants can go apart.
abbrev pub NoneCanGoApart : Load → Load → List (Option ℕ) → Type 0
NoneCanGoApart was kept row = (replica id : ℕ) → slice_get row replica ≡ Some (Some id) →
    want_in kept id < have_in kept id → CannotGoApart was (others row replica) id

-- No device has more seats than before, and none that had all that it wants has fewer than that.
pub record Falls (before after : Load) : Type 0 where
  pub down : (id : ℕ) → has_device id before.devices ≡ true → have_in after id ≤ have_in before id
  pub floor : (id : ℕ) → has_device id before.devices ≡ true → want_in before id ≤ have_in before id
      → want_in before id ≤ have_in after id

-- What the first pass lifts of a partition.
pub data IsFirst (was : Load) (locked : Bool) (old row : List (Option ℕ)) : Type 0 where
  -- its lost seats, if it has any, and no other
  LostFirst : list_any (is_lost_in was.devices) old ≡ true → row ≡ map (present_only was.devices)
      old → IsFirst was locked old row
  -- else, if it isn't locked, one seat for which a device outside with room is less crowded
  Crowded : list_any (is_lost_in was.devices) old ≡ false → locked ≡ false → (replica id : ℕ) →
      Lifts old row replica id →
      is_crowded_in was old replica id ≡ true → IsFirst was locked old row
  -- or one on a device that wants nothing, if some device outside has room
  Drained : list_any (is_lost_in was.devices) old ≡ false → locked ≡ false → (replica id : ℕ) →
      Lifts old row replica id → is_drained_in was old id ≡ true → IsFirst was locked old row
  -- or none, if it is locked or there is no such seat
  Calm : list_any (is_lost_in was.devices) old ≡ false → row ≡ old →
      (locked ≡ false → AreCalm was old) → IsFirst was locked old row

-- What the pass before the second lifts of a partition, `kept` being how full the devices are then.
pub data IsApart (was kept : Load) (locked : Bool) (old row : List (Option ℕ)) : Type 0 where
  -- one seat of a device that keeps all that it wants, which can go apart, if none was lifted, it
  -- isn't locked and a device outside has room
  Goes : list_any is_empty old ≡ false → locked ≡ false → (replica id : ℕ) →
      Lifts old row replica id → has_free_in was old ≡ true → CanGoApart was (others old replica) id
      → want_in kept id ≤ have_in kept id → IsApart was kept locked old row
  -- or none, if no seat on a device that keeps more than it wants can go apart
  Rests : row ≡ old → (list_any is_empty old ≡ false → locked ≡ false → has_free_in was old ≡ true
      → NoneCanGoApart was kept old) → IsApart was kept locked old row

-- What any pass after the first lifts of a partition, `kept` being how full the devices are then:
-- nothing is said of what it leaves.
pub data IsLater (was kept : Load) (locked : Bool) (old row : List (Option ℕ)) : Type 0 where
  -- one seat of a device that keeps all that it wants, if none was lifted, it isn't locked and a
  -- device outside has room
  Gives : list_any is_empty old ≡ false → locked ≡ false → (replica id : ℕ) →
      Lifts old row replica id → has_free_in was old ≡ true →
      want_in kept id ≤ have_in kept id → IsLater was kept locked old row
  -- or none
  Holds : row ≡ old → IsLater was kept locked old row

-- What the second pass lifts of a partition, `kept` being how full the devices are then.
pub data IsSecond (was kept : Load) (locked : Bool) (old row : List (Option ℕ)) : Type 0 where
  -- one seat of a device that keeps all that it wants, if none was lifted, it isn't locked and a
  -- device outside has room
  Surplus : list_any is_empty old ≡ false → locked ≡ false → (replica id : ℕ) →
      Lifts old row replica id → has_free_in was old ≡ true →
      want_in kept id ≤ have_in kept id → IsSecond was kept locked old row
  -- or none, if no seat is on a device that keeps more than it wants
  Same : row ≡ old → (list_any is_empty old ≡ false → locked ≡ false → has_free_in was old ≡ true →
      HaveNoSurplus kept old) → IsSecond was kept locked old row

-- ---- all partitions

-- The devices have the seats of these rows.
pub record IsFilled (filled : Load) (devices : List Device) (wanted : List ℕ)
    (rows : List (List (Option ℕ))) : Type 0 where
  pub devices_are : filled.devices ≡ devices
  pub wanted_are : filled.wanted ≡ wanted
  pub load : IsLoad filled
  pub counts : (id : ℕ) → has_device id devices ≡ true → have_in filled id ≡ sum_by (seats_on id)
      rows

-- Each row has at most five seats, each empty or on a device of these.
pub record AreRowsOfSeats (devices : List Device) (rows : List (List (Option ℕ))) : Type 0 where
  pub known : (partition : ℕ) → partition < length rows → AreKnown devices (row_at rows partition)
  pub few : (partition : ℕ) → partition < length rows →
      length (row_at rows partition) ≤ most_replicas

-- What a pass lifts of a partition.
abbrev pub IsLifting : Pass → Load → Load → Bool → List (Option ℕ) → List (Option ℕ) → Type 0
IsLifting First was kept locked old row = IsFirst was locked old row
IsLifting Apart was kept locked old row = IsApart was kept locked old row
IsLifting (Beside most) was kept locked old row = IsLater was kept locked old row
IsLifting Second was kept locked old row = IsSecond was kept locked old row

-- A pass has gone through these partitions.
pub record IsPass (pass : Pass) (done : List ℕ) (was kept : Load) (locked : List Bool)
    (old rows : List (List (Option ℕ))) : Type 0 where
  pub as_many : length rows ≡ length old
  pub rest : (partition : ℕ) → is_among done partition ≡ false → row_at rows partition ≡ row_at old
      partition
  pub lifted : (partition : ℕ) → is_among done partition ≡ true →
      IsLifting pass was kept (slice_index_or locked partition false) (row_at old partition)
      (row_at rows partition)
  pub filled : IsFilled kept was.devices was.wanted rows

-- What the passes after the first lift of all partitions: those that can go apart, and then what
-- the second alone may lift. `middle` are the rows in between, and `between` is how full the devices
-- are with them.
pub record AreLater (order : List ℕ) (was left : Load) (locked : List Bool)
    (old rows : List (List (Option ℕ))) : Type 0 where
  pub between : Load
  pub middle : List (List (Option ℕ))
  pub apart : IsPass Apart order was between locked old middle
  pub second : IsPass Second order was left locked middle rows
  pub falls : Falls between left

-- What a search finds outside these seats: how crowded the least crowded device with room is.
pub record IsWayOut (load : Load) (row : List (Option ℕ)) (to : ℕ × ℕ × ℕ) : Type 0 where
  pub best : ℕ
  pub least : IsLeast load row best
  pub is : to ≡ crowd_in load row best

-- ---- what all passes gather of a ring

-- whether a seat is empty in these rows
abbrev pub gathered_in : List (List (Option ℕ)) → Gathered
gathered_in rows partition replica = is_empty (slice_index_or (row_at rows partition) replica None)

-- The rows are those of the ring without the gathered seats, `left` is how full the devices are
-- with them, and what is gathered is what a rebalance at the hour gathers.
pub record IsGathered (ring : RingRecord) (hour : ℕ) (left : Load) (rows : List (List (Option ℕ))) :
    Type 0 where
  pub wanted : AreWanted ring left.wanted
  pub devices : left.devices ≡ ring.devices
  pub load : IsLoad left
  pub counts : (id : ℕ) → has_device id ring.devices ≡ true → have_in left id ≡ kept_by ring
      (gathered_in rows) id
  pub rows_are : rows ≡ map (λ partition. kept_row ring (gathered_in rows) partition)
      (range_with_len 0 (partition_count ring))
  pub lawful : IsLawfulGathering ring hour (gathered_in rows)
  pub reasons : AreReasons ring left.wanted (gathered_in rows)
  pub whole : IsWhole ring hour left.wanted (gathered_in rows)

-- These are the devices of a ring with what they want and have.
pub record IsRoomOf (ring : RingRecord) (was : Load) : Type 0 where
  pub devices : was.devices ≡ ring.devices
  pub wanted : AreWanted ring was.wanted
  pub counts : (id : ℕ) → has_device id ring.devices ≡ true → have_in was id ≡ have ring id
  pub load : IsLoad was

-- whether a seat is on a device that keeps more than it wants
abbrev pub is_over_in : Load → Option ℕ → Bool
is_over_in kept None = false
is_over_in kept (Some id) = nat_lt (want_in kept id) (have_in kept id)
