-- What a rebalance of a ring would do, as compact JSON, its keys in byte order.
use Rattle.std.specs.Prelude.{◌≡◌, ℕ, ◌-◌, ◌≤◌, List, codes, count_by, map}
use Rattle.std.specs.List.{zip}
use Rattle.serde_json.specs.Data.{Data, string, array, object, Members, no_members, member, put}
use Rattle.serde_json.specs.View.{items_of}
use Rattle.serde_json.specs.Written.{compact_text}
use Rattle.ring_words.specs.declared.device.Device.{Device}
use Rattle.ring_messages.specs.Fields.{whole}
use Rattle.ring_model.specs.Ring.{RingRecord}
use Rattle.ring_place.specs.Rebalance.{changed_seats}
use Rattle.ring_place.specs.Seeded.{IsSeeded}
use Rattle.ring_share.specs.Figures.{ring_balance, ring_dispersion}
use Rattle.ring_share.specs.Room.{have}
use Rattle.ring_share.specs.Want.{AreWanted, is_open}
use Rattle.ring_metrics.specs.Locks.{locked_count}
use Rattle.ring_reads.specs.Moves.{changed_partitions, staying_seats}

-- What is told of the device of a number that wants so many seats, has so many before and so many
-- after, and of which so many stay. It gives those before that don't stay, and takes those after
-- that didn't stay.
abbrev pub moving_data : ℕ → ℕ → ℕ → ℕ → ℕ → Data
moving_data id want before after stay =
    object (member (codes "gives") (whole (before - stay))
    (member (codes "has") (whole before)
    (member (codes "id") (whole id)
    (member (codes "takes") (whole (after - stay))
    (member (codes "then") (whole after)
    (member (codes "wanted") (whole want) no_members))))))

-- what is told of a device of the old ring that wants so many seats, where the new ring comes of it
abbrev pub device_moves : RingRecord → RingRecord → Device → ℕ → Data
device_moves old new device want = moving_data device.id want (have old device.id)
    (have new device.id) (staying_seats old new device.id)

-- what is told of the devices of the old ring, by rising number, those that are marked to be
-- removed among them; the wants are in the order of the devices
abbrev pub devices_moves : RingRecord → RingRecord → List ℕ → List Data
devices_moves old new wants = map (λ e. device_moves old new e.0 e.1) (zip old.devices wants)

-- The numbers and the name that are told of a rebalance of a ring of this name at an hour with a
-- seed: of the new ring its balance, its dispersion and its version, of the old one how many
-- partitions are locked at the hour, and how many seats and partitions differ between the two.
abbrev pub preview_figures : List ℕ → ℕ → ℕ → RingRecord → RingRecord → Members
preview_figures name hour seed old new =
    member (codes "balance") (whole (ring_balance new))
    (member (codes "changed") (whole (changed_seats old new))
    (member (codes "dispersion") (whole (ring_dispersion new))
    (member (codes "hour") (whole hour)
    (member (codes "locked") (whole (locked_count old hour))
    (member (codes "partitions") (whole (changed_partitions old new))
    (member (codes "ring") (string name)
    (member (codes "seed") (whole seed)
    (member (codes "version") (whole new.version) no_members))))))))

-- what is told of a rebalance: these, and the devices of the old ring, which want so many seats
abbrev pub preview_data : List ℕ → ℕ → ℕ → RingRecord → List ℕ → RingRecord → Data
preview_data name hour seed old wants new =
    object (put (codes "devices") (array (items_of (devices_moves old new wants)))
    (preview_figures name hour seed old new))

-- The text of it.
abbrev pub preview_json : List ℕ → ℕ → ℕ → RingRecord → List ℕ → RingRecord → List ℕ
preview_json name hour seed old wants new = compact_text (preview_data name hour seed old wants new)

-- The text tells of a rebalance of a ring of this name at an hour with a seed that gives the new
-- ring.
abbrev pub TellsMoves : List ℕ → ℕ → ℕ → RingRecord → RingRecord → List ℕ → Type 0
TellsMoves name hour seed old new text =
    (wants : List ℕ) × AreWanted old wants × (text ≡ preview_json name hour seed old wants new)

-- The text is the preview of a ring of this name at an hour with a seed: it tells of the ring that
-- the seed gives. The ring has as many open devices as each partition has replicas, so that it can
-- be rebalanced.
pub record IsPreviewJson (name : List ℕ) (ring : RingRecord) (hour seed : ℕ) (text : List ℕ) :
    Type 0 where
  pub enough : ring.replicas ≤ count_by is_open ring.devices
  pub new : RingRecord
  pub seeded : IsSeeded ring hour seed new
  pub tells : TellsMoves name hour seed ring new text
