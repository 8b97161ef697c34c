-- What putting the lifted seats of partitions keeps: `old` is a partition before a rebalance,
-- `lifted` is it without its gathered seats, and `row` is it later.
use Rattle.std.specs.Prelude.{◌≡◌, ◌≢◌, ◌==◌, ℕ, ◌+◌, ◌-◌, ◌<◌, ◌≤◌, Bool, true, false, ◌&&◌, ◌||◌}
use Rattle.ring_words.specs.Limits.{most_replicas, most_seats}
use Rattle.std.specs.Prelude.{◌⊎◌, ◌++◌, if◌then◌else◌, All, List, [], ◌∷◌, length, Option, Some, None, IfSome}
use Rattle.std.specs.Prelude.{slice_get, slice_index_or, slice_set, count_by, sum_by}
use Rattle.ring_model.specs.Ring.{has_device, has_present}
use Rattle.ring_words.specs.declared.device.Device.{Device}
use Rattle.ring_share.specs.Crowd.{is_less, is_on, others, seats_on}
use Rattle.ring_share.specs.Room.{has_open}
use Rattle.ring_share.specs.Want.{is_open}
use Rattle.ring_room.specs.Load.{Load, IsLoad, have_in, want_in, is_free_in, crowd_in, load_put}
use Rattle.ring_place.specs.declared.place.Turn.{Turn}
use Rattle.ring_place.specs.declared.place.Turn.TheVariants.{Homeless, Home, Rest}
use Rattle.ring_place.specs.Rebalance.{differs}
use Rattle.ring_deal.specs.Inner.Orders.{is_among}
use Rattle.ring_place.specs.Made.{first_empty, is_number, row_at}
use Rattle.ring_room.specs.Free.{has_free_in}
use Rattle.ring_room.specs.Rows.{AreKnown, is_empty}

-- A device that isn't open wants nothing.
abbrev pub OpenWant : Load → Type 0
OpenWant load = (id : ℕ) → has_open id load.devices ≡ false → want_in load id ≡ 0

-- ---- one seat

-- This seat of the partition is lifted.
abbrev pub IsLifted : List (Option ℕ) → ℕ → Type 0
IsLifted lifted replica = slice_get lifted replica ≡ Some None

-- A lifted seat may go to the device of a number: it is open, or the seat's own and not marked to
-- be removed.
abbrev pub MayTakeSeat : List Device → Option (Option ℕ) → ℕ → Type 0
MayTakeSeat devices own id = (has_open id devices ≡ true) ⊎ ((own ≡ Some (Some id)) ×
    (has_present id devices ≡ true))

-- No free device is less crowded for the partition's next seat than the device of a number.
abbrev pub NoneIsLess : Load → List (Option ℕ) → ℕ → Type 0
NoneIsLess load row id = (other : ℕ) → is_free_in load row other ≡ true →
    is_less (crowd_in load row other) (crowd_in load row id) ≡ false

-- The seat's own device wins a tie: who leaves it goes to a less crowded one, or it isn't free.
abbrev pub OwnWins : Load → List (Option ℕ) → Option ℕ → ℕ → Type 0
OwnWins load row own id = (from : ℕ) → own ≡ Some from → is_free_in load row from ≡ true →
    id ≢ from → is_less (crowd_in load row id) (crowd_in load row from) ≡ true

-- The device of a number is where a lifted seat goes.
pub record IsChosen (load : Load) (row : List (Option ℕ)) (own : Option ℕ) (id : ℕ) : Type 0 where
  pub known : has_device id load.devices ≡ true
  pub outside : seats_on id row ≡ 0
  pub may_take : MayTakeSeat load.devices (Some own) id
  pub least : NoneIsLess load row id
  pub own_wins : OwnWins load row own id
  -- it is free if any device is, and if the seat leaves a device that remains
  pub free : (other : ℕ) → is_free_in load row other ≡ true → is_free_in load row id ≡ true
  pub stays : IfSome own (λ from. has_present from load.devices ≡ true → id ≢ from →
      is_free_in load row id ≡ true)

-- ---- numbers

-- those of the partitions that have a number, by the numbers of all
abbrev pub numbered : List ℕ → List (Option ℕ) → ℕ → List ℕ
numbered (partition ∷ order) (other ∷ numbers) number = (if is_number number other then
    partition ∷ [] else []) ++ numbered order numbers number
numbered order numbers number = []

-- Of a number below 11 that isn't told as found none is there.
abbrev pub AreTold : List (Option ℕ) → List Bool → Type 0
AreTold numbers found = (number : ℕ) → number < 11 → slice_index_or found number false ≡ false →
    (index : ℕ) → index < length numbers → is_number number (slice_index_or numbers index None) ≡ false

-- ---- one partition

-- A lifted seat from a device that remains is the only lifted seat of its partition, which has no
-- other seat on that device.
abbrev pub IsAlone : List Device → List (Option ℕ) → List (Option ℕ) → Type 0
IsAlone devices old lifted = (replica id : ℕ) → IsLifted lifted replica →
    slice_get old replica ≡ Some (Some id) → has_present id devices ≡ true →
    (seats_on id lifted ≡ 0) × ((other : ℕ) → IsLifted lifted other → other ≡ replica)

-- A partition whose lifted seats can be put.
pub record CanPlace (devices : List Device) (old lifted : List (Option ℕ)) : Type 0 where
  pub as_many : length old ≡ length lifted
  pub few : length lifted ≤ most_replicas
  pub old_known : AreKnown devices old
  pub known : AreKnown devices lifted
  pub alone : IsAlone devices old lifted
  pub distinct : (id : ℕ) → seats_on id lifted ≤ 1
  pub enough : length lifted ≤ count_by is_open devices

-- For a seat no free device is less crowded than its own.
abbrev pub IsSettled : Load → List (Option ℕ) → ℕ → Type 0
IsSettled load row replica = (id : ℕ) → slice_get row replica ≡ Some (Some id) →
    (other : ℕ) → is_free_in load row other ≡ true →
    is_less (crowd_in load (others row replica) other) (crowd_in load (others row replica) id) ≡
    false

-- A seat that left a device that remains is on a less crowded one, or that device has what it
-- wants.
abbrev pub HasGain : Load → List (Option ℕ) → List (Option ℕ) → ℕ → Type 0
HasGain load old row replica = (from to : ℕ) → slice_get old replica ≡ Some (Some from) →
    has_present from load.devices ≡ true →
    slice_get row replica ≡ Some (Some to) → to ≢ from →
    (is_less (crowd_in load (others row replica) to) (crowd_in load (others row replica) from) ≡
    true) ⊎ (want_in load from ≤ have_in load from)

-- What holds of a lifted seat once it is put, for as long as devices only fill up.
pub record IsPlaced (load : Load) (old row : List (Option ℕ)) (replica : ℕ) : Type 0 where
  pub seated : (id : ℕ) × (slice_get row replica ≡ Some (Some id)) ×
      MayTakeSeat load.devices (slice_get old replica) id
  pub settled : IsSettled load row replica
  pub gain : HasGain load old row replica

-- whether a seat has left a device that remains
abbrev pub has_left_from : List Device → Option ℕ → Option ℕ → Bool
has_left_from devices None to = false
has_left_from devices (Some from) to = has_present from devices && differs (Some from) to

-- whether a seat takes room on the device of a number: it was lifted and is on it now, and it left
-- a device that remains, or its partition has a free device
abbrev pub draws : List Device → Bool → ℕ → Option ℕ → Option ℕ → Option ℕ → Bool
draws devices free id before None to = is_on (λ other. other == id) to &&
    (has_left_from devices before to || free)
draws devices free id before (Some kept) to = false

-- how many seats of a partition do
abbrev pub drawn_in : List Device → Bool → ℕ → List (Option ℕ) → List (Option ℕ) → List (Option ℕ) →
    ℕ
drawn_in devices free id (before ∷ old) (up ∷ lifted) (to ∷ row) =
    (if draws devices free id before up to then 1 else 0) + drawn_in devices free id old lifted row
drawn_in devices free id old lifted row = 0

-- The same devices and wants, and no device has fewer seats.
pub record Fills (old new : Load) : Type 0 where
  pub devices : new.devices ≡ old.devices
  pub wanted : new.wanted ≡ old.wanted
  pub counts : (id : ℕ) → have_in old id ≤ have_in new id

-- The lifted seats of a partition are put.
pub record RowSeated (after : Load) (old lifted row : List (Option ℕ)) : Type 0 where
  pub as_many : length row ≡ length lifted
  pub kept : (replica id : ℕ) → slice_get lifted replica ≡ Some (Some id) →
      slice_get row replica ≡ Some (Some id)
  pub placed : (replica : ℕ) → IsLifted lifted replica → IsPlaced after old row replica
  pub distinct : (id : ℕ) → seats_on id row ≤ 1
  pub known : AreKnown after.devices row

-- Some of the lifted seats of a partition are put.
pub record RowBegun (now : Load) (old lifted row : List (Option ℕ)) : Type 0 where
  pub as_many : length row ≡ length lifted
  pub alone : IsAlone now.devices old lifted
  pub kept : (replica id : ℕ) → slice_get lifted replica ≡ Some (Some id) →
      slice_get row replica ≡ Some (Some id)
  pub placed : (replica id : ℕ) → IsLifted lifted replica → slice_get row replica ≡ Some (Some id) →
      IsPlaced now old row replica

-- ---- all partitions

-- how many seats a device has
abbrev pub have_on : ℕ → List (List (Option ℕ)) → ℕ
have_on id rows = sum_by (seats_on id) rows

-- how many seats take room on the device of a number
abbrev pub drawn : Load → ℕ → List (List (Option ℕ)) → List (List (Option ℕ)) →
    List (List (Option ℕ)) → ℕ
drawn load id (before ∷ old) (up ∷ lifted) (to ∷ rows) = drawn_in load.devices (has_free_in load to)
    id before up to + drawn load id old lifted rows
drawn load id old lifted rows = 0

-- The lifted seats of all partitions are put, within the room that there was before, and they are
-- counted.
pub record AllPlaced (before after : Load) (old lifted rows : List (List (Option ℕ))) : Type 0 where
  pub as_many : length rows ≡ length lifted
  pub seated : (partition : ℕ) → partition < length lifted → RowSeated after (row_at old partition)
      (row_at lifted partition) (row_at rows partition)
  pub within_room : (id : ℕ) → has_device id before.devices ≡ true → drawn after id old lifted rows
      ≤ want_in after id - have_in before id
  pub counts : (id : ℕ) → has_device id before.devices ≡ true → have_in after id + have_on id lifted
      ≡ have_in before id + have_on id rows
  pub fills : Fills before after

-- Some of the lifted seats of partitions are put, within the room that there was before.
pub record SomePlaced (before now : Load) (old lifted rows : List (List (Option ℕ))) : Type 0 where
  pub as_many : length rows ≡ length lifted
  pub begun : (partition : ℕ) → partition < length lifted → RowBegun now (row_at old partition)
      (row_at lifted partition) (row_at rows partition)
  pub within_room : (id : ℕ) → has_device id before.devices ≡ true → drawn now id old lifted rows ≤
      want_in now id - have_in before id
  -- what takes room has been put
  pub put : (id : ℕ) → has_device id before.devices ≡ true → drawn now id old lifted rows + have_in
      before id ≤ have_in now id
  pub fills : Fills before now

-- ---- turns

-- The empty seats of all partitions can be put, and the devices have the seats that are on them.
pub record CanPlaceAll (load : Load) (old rows : List (List (Option ℕ))) : Type 0 where
  pub as_many : length old ≡ length rows
  pub can : (partition : ℕ) → partition < length rows → CanPlace load.devices (row_at old partition)
      (row_at rows partition)
  pub is_load : IsLoad load
  pub closed : OpenWant load
  pub counts : (id : ℕ) → has_device id load.devices ≡ true → have_in load id ≡ have_on id rows
  pub few : sum_by (λ row. length row) rows ≤ most_seats

-- An empty seat of a partition is put on a device that is chosen for it.
pub record IsSeatPut (load after : Load) (old rows next : List (List (Option ℕ)))
    (partition replica : ℕ) : Type 0 where
  pub id : ℕ
  pub chosen : IsChosen load (row_at rows partition) (slice_index_or (row_at old partition) replica
      None) id
  pub filled : after ≡ load_put load id
  pub written : next ≡ slice_set rows partition (slice_set (row_at rows partition) replica
      (Some id))
  pub is_load : IsLoad after

-- A partition has its turn: it puts an empty seat or waits, and in a turn of the rest it waits only
-- if it has none.
pub data IsTurnOf (kind : Turn) (load after : Load) (old rows next : List (List (Option ℕ)))
    (partition : ℕ) : Type 0 where
  Puts : (replica : ℕ) → slice_get (row_at rows partition) replica ≡ Some None →
      IsSeatPut load after old rows next partition replica →
      IsTurnOf kind load after old rows next partition
  Waits : (kind ≡ Rest → count_by is_empty (row_at rows partition) ≡ 0) → after ≡ load →
      next ≡ rows → IsTurnOf kind load after old rows next partition

-- What was put earlier stays as good, and within the room that there was before any was put.
abbrev pub KeepsPlaced : Load → Load → List (List (Option ℕ)) → List (List (Option ℕ)) →
    List (List (Option ℕ)) → Type 0
KeepsPlaced load after old rows next = (before : Load) (lifted : List (List (Option ℕ))) →
    SomePlaced before load old lifted rows → SomePlaced before after old lifted next

-- how many of its empty seats a partition puts at the least in so many turns, if it has as many
abbrev pub least_put : Turn → ℕ → ℕ
least_put Homeless count = 0
least_put Home count = 0
least_put Rest count = count

-- So many turns put empty seats, and what was put earlier stays as good.
pub record AreTurns (kind : Turn) (count : ℕ) (load after : Load)
    (old rows next : List (List (Option ℕ))) : Type 0 where
  pub as_many : length next ≡ length rows
  pub can : CanPlaceAll after old next
  pub keeps : KeepsPlaced load after old rows next
  pub fewer : (partition : ℕ) → partition < length rows → count_by is_empty
      (row_at next partition) ≤ count_by is_empty (row_at rows partition) - least_put kind count

-- These are some of the partitions, and no other has an empty seat; of each partition it is told
-- whether it keeps its home.
pub record AreWaiting (homes : List Bool) (order : List ℕ) (rows : List (List (Option ℕ))) : Type 0
  where
    pub told : length homes ≡ length rows
    pub below : All (λ partition. partition < length rows) order
    pub full : (partition : ℕ) → partition < length rows → is_among order partition ≡ false →
        count_by is_empty (row_at rows partition) ≡ 0

-- No seat of the partition is empty.
pub record IsFull (row : List (Option ℕ)) : Type 0 where
  pub first : first_empty row ≡ None
  pub none : count_by is_empty row ≡ 0

-- So it is with these partitions.
abbrev pub AreFull : List (List (Option ℕ)) → List ℕ → Type 0
AreFull rows order = All (λ partition. IsFull (row_at rows partition)) order
