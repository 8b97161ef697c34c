-- Rows: which there are, when two are one, and when they stand at one place.
use Rattle.std.specs.Prelude.{◌==◌, ◌&&◌, ◌<◌, ◌≤◌, Bool, IsTrue, List, nat_eq}
use Rattle.std.specs.Cmp.Lexicographic.{pointwise}
use Rattle.std.specs.List.{list_any}
use Rattle.ring_words.specs.Limits.{short_count}
use Rattle.ring_words.specs.Texts.{address_limit, greatest_weight, is_device_name}
use Rattle.ring_words.specs.declared.device.Device.{Device}
use Rattle.ring_words.specs.declared.device.Row.{Row}

-- The device has a name, an address, a port and a weight such as there are.
pub record IsProperRow (r : Row) : Type 0 where
  pub region : r.region < short_count
  pub zone : r.zone < short_count
  pub address : r.address < address_limit
  pub port : (1 ≤ r.port) × (r.port < short_count)
  pub name : IsTrue (is_device_name r.name)
  pub weight : r.weight ≤ greatest_weight

-- whether two rows have the same address, port and name
abbrev pub same_place : Row → Row → Bool
same_place a b = (a.address == b.address) && ((a.port == b.port) && pointwise nat_eq a.name b.name)

-- whether a device, marked or not, has a row's address, port and name
abbrev pub has_place : Row → List Device → Bool
has_place row devices = list_any (λ device. same_place device.row row) devices

-- whether two rows are one
abbrev pub is_same_row : Row → Row → Bool
is_same_row a b = (a.region == b.region) && ((a.zone == b.zone) && ((a.address == b.address) &&
    ((a.port == b.port) && (pointwise nat_eq a.name b.name && (a.weight == b.weight)))))
