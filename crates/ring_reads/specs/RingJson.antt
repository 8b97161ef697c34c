-- A whole ring as compact JSON, its keys in byte order.
use Rattle.std.specs.Prelude.{◌≡◌, ℕ, List, codes, length, map}
use Rattle.std.specs.List.{zip}
use Rattle.serde_json.specs.Data.{Data, string, array, object, Members, no_members, member, put}
use Rattle.serde_json.specs.View.{items_of}
use Rattle.serde_json.specs.Written.{compact_text}
use Rattle.ring_words.specs.Texts.{address_text, hundredths_text}
use Rattle.ring_words.specs.declared.device.Device.{Device}
use Rattle.ring_messages.specs.Fields.{whole}
use Rattle.ring_model.specs.Ring.{RingRecord}
use Rattle.ring_share.specs.Figures.{ring_balance, ring_dispersion}
use Rattle.ring_share.specs.Room.{have}
use Rattle.ring_share.specs.Want.{AreWanted}
use Rattle.ring_metrics.specs.Locks.{IsRest, locked_count}
use Rattle.ring_tables.specs.Tables.{state_text}

-- what is told of a device that wants and has so many seats
abbrev pub device_data : Device → ℕ → ℕ → Data
device_data device want seats =
    object (member (codes "address") (string (address_text device.row.address))
    (member (codes "has") (whole seats)
    (member (codes "id") (whole device.id)
    (member (codes "name") (string device.row.name)
    (member (codes "port") (whole device.row.port)
    (member (codes "region") (whole device.row.region)
    (member (codes "state") (string (state_text device))
    (member (codes "wanted") (whole want)
    (member (codes "weight") (string (hundredths_text device.row.weight))
    (member (codes "zone") (whole device.row.zone) no_members))))))))))

-- what is told of a ring's devices, by rising number; the wants are in the order of the devices
abbrev pub devices_data : RingRecord → List ℕ → List Data
devices_data ring wants = map (λ e. device_data e.0 e.1 (have ring e.0.id)) (zip ring.devices wants)

-- the versions under which texts are published, by rising version
abbrev pub versions_data : RingRecord → List Data
versions_data ring = map (λ e. whole e.0) ring.published

-- the numbers and the name that are told of a ring of this name at an hour, whose last locked
-- partition is free after so many hours: `locked` is how many partitions are locked, and `seats` how
-- many seats are taken
abbrev pub ring_figures : List ℕ → RingRecord → ℕ → ℕ → Members
ring_figures name ring hour rest =
    member (codes "balance") (whole (ring_balance ring))
    (member (codes "dispersion") (whole (ring_dispersion ring))
    (member (codes "hour") (whole hour)
    (member (codes "locked") (whole (locked_count ring hour))
    (member (codes "min_hours") (whole ring.min_hours)
    (member (codes "next_id") (whole ring.next_id)
    (member (codes "power") (whole ring.power)
    (member (codes "replicas") (whole ring.replicas)
    (member (codes "rests") (whole rest)
    (member (codes "ring") (string name)
    (member (codes "seats") (whole (length ring.seats))
    (member (codes "version") (whole ring.version) no_members)))))))))))

-- what is told of a ring: these, its devices, which want so many seats, and the versions under which
-- it is published
abbrev pub ring_data : List ℕ → RingRecord → ℕ → List ℕ → ℕ → Data
ring_data name ring hour wants rest =
    object (put (codes "published") (array (items_of (versions_data ring)))
    (put (codes "devices") (array (items_of (devices_data ring wants)))
    (ring_figures name ring hour rest)))

-- The text is that of a ring of this name at an hour.
abbrev pub IsRingJson : List ℕ → RingRecord → ℕ → List ℕ → Type 0
IsRingJson name ring hour text =
    (wants : List ℕ) × AreWanted ring wants × (rest : ℕ) × IsRest ring hour rest
    × (text ≡ compact_text (ring_data name ring hour wants rest))
