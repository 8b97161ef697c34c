-- The nodes of a partition as compact JSON, its keys in byte order.
use Rattle.std.specs.Prelude.{ℕ, ◌==◌, List, codes, find, map}
use Rattle.std.specs.List.{filter_map}
use Rattle.serde_json.specs.Data.{Data, string, array, object, no_members, member}
use Rattle.serde_json.specs.View.{items_of}
use Rattle.serde_json.specs.Written.{compact_text}
use Rattle.ring_words.specs.Texts.{address_text}
use Rattle.ring_words.specs.declared.device.Device.{Device}
use Rattle.ring_messages.specs.Fields.{whole}
use Rattle.ring_model.specs.Ring.{RingRecord}

-- the devices of these numbers, in the order of the numbers; a number that no device has is left
-- out
abbrev pub devices_of : RingRecord → List ℕ → List Device
devices_of ring ids = filter_map (λ id. find (λ device. device.id == id) ring.devices) ids

-- what is told of a node: where its device stands, and its number
abbrev pub node_data : Device → Data
node_data device =
    object (member (codes "address") (string (address_text device.row.address))
    (member (codes "device") (string device.row.name)
    (member (codes "id") (whole device.id)
    (member (codes "port") (whole device.row.port)
    (member (codes "region") (whole device.row.region)
    (member (codes "zone") (whole device.row.zone) no_members))))))

-- what is told of a partition: its nodes, one of them a replica, and its number
abbrev pub nodes_data : RingRecord → ℕ → List ℕ → Data
nodes_data ring partition ids =
    object (member (codes "nodes") (array (items_of (map node_data (devices_of ring ids))))
    (member (codes "partition") (whole partition) no_members))

-- The text of the nodes of a partition.
abbrev pub nodes_json : RingRecord → ℕ → List ℕ → List ℕ
nodes_json ring partition ids = compact_text (nodes_data ring partition ids)
