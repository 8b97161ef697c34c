-- What the tables contain.
use Rattle.std.specs.Prelude.{ℕ, ℤ, List, string_bytes}
use Rattle.std.specs.Ordering.{int_cmp}
use Rattle.std.specs.FinMap.{FinMap, empty, insert, remove}
use Rattle.std.specs.Rc.{rc_str_bytes}
use Rattle.store_model.specs.Entries.{name_cmp, NameNumber, name_number_cmp, SeatKey, seat_cmp}
use Rattle.store_model.specs.Entries.{Meta, Ring, Device, Request, Part}
use Rattle.store_model.specs.declared.rows.MetaRow.{MetaRow}
use Rattle.store_model.specs.declared.rows.RingRow.{RingRow}
use Rattle.store_model.specs.declared.rows.DeviceRow.{DeviceRow}
use Rattle.store_model.specs.declared.rows.DeviceKey.{DeviceKey}
use Rattle.store_model.specs.declared.rows.KeptRequest.{KeptRequest}
use Rattle.store_model.specs.declared.rows.SeatRow.{SeatRow}
use Rattle.store_model.specs.declared.rows.MovedRow.{MovedRow}
use Rattle.store_model.specs.declared.rows.PublishedRow.{PublishedRow}
use Rattle.store_model.specs.declared.rows.RequestRow.{RequestRow}
use Rattle.store_model.specs.declared.rows.PartRow.{PartRow}

-- The contents of the store: a map for each table.
pub record Contents : Type 0 where
  pub meta : FinMap int_cmp Meta
  pub rings : FinMap name_cmp Ring
  pub devices : FinMap name_number_cmp Device
  pub seats : FinMap seat_cmp ℤ
  pub moved : FinMap name_number_cmp ℤ
  pub published : FinMap name_number_cmp (List ℕ)
  pub requests : FinMap name_number_cmp Request
  pub parts : FinMap name_number_cmp Part

-- ---- rows as entries

abbrev pub meta_of : MetaRow → ℤ × Meta
meta_of row = (row.one, record { schema = row.schema; hour = row.hour })

-- The key and the value that a row of `ring` stands for.
abbrev pub ring_of : RingRow → List ℕ × Ring
ring_of row = (
  string_bytes row.name,
  record {
    power = row.power;
    replicas = row.replicas;
    min_hours = row.min_hours;
    next_id = row.next_id;
    version = row.version;
  },
)

-- The key and the value that a row of `device` stands for.
abbrev pub device_of : DeviceRow → NameNumber × Device
device_of row = (
  (string_bytes row.ring, row.id),
  record {
    region = row.region;
    zone = row.zone;
    address = string_bytes row.address;
    port = row.port;
    name = string_bytes row.name;
    weight = row.weight;
    removed = row.removed;
  },
)

-- The key that a device's ring and number stand for.
abbrev pub device_key : DeviceKey → NameNumber
device_key key = (string_bytes key.ring, key.id)

-- The key and the value that a row of `seat` stands for.
abbrev pub seat_of : SeatRow → SeatKey × ℤ
seat_of row = ((string_bytes row.ring, (row.part, row.replica)), row.device)

-- The key and the value that a row of `moved` stands for.
abbrev pub moved_of : MovedRow → NameNumber × ℤ
moved_of row = ((string_bytes row.ring, row.part), row.hour)

-- The key and the value that a row of `published` stands for.
abbrev pub published_of : PublishedRow → NameNumber × List ℕ
published_of row = ((string_bytes row.ring, row.version), rc_str_bytes row.body)

-- The key and the value that a row of `request` stands for.
abbrev pub request_of : RequestRow → NameNumber × Request
request_of row = (
  (string_bytes row.caller, row.number),
  record {
    place = row.place;
    hour = row.hour;
    command = string_bytes row.command;
    reply = string_bytes row.reply;
  },
)

-- What a kept request stands for: its place, hour, command and reply.
abbrev pub kept_of : KeptRequest → Request
kept_of row = record {
  place = row.place;
  hour = row.hour;
  command = string_bytes row.command;
  reply = string_bytes row.reply;
}

-- The key and the value that a row of `part` stands for.
abbrev pub part_of : PartRow → NameNumber × Part
part_of row = (
  (string_bytes row.ring, row.part),
  record {
    devices = row.devices.items;
    hour = row.hour;
  },
)

-- ---- what a write makes of the contents

abbrev pub with_meta_row : Contents → ℤ → Meta → Contents
with_meta_row c key value = record c { meta = insert c.meta key value }

-- The contents with this row of `ring`, in place of one with its key.
abbrev pub with_ring_row : Contents → List ℕ → Ring → Contents
with_ring_row c key value = record c { rings = insert c.rings key value }

-- The contents with this row of `device`, in place of one with its key.
abbrev pub with_device_row : Contents → NameNumber → Device → Contents
with_device_row c key value = record c { devices = insert c.devices key value }

-- The contents without the row of `device` that has this key.
abbrev pub without_device : Contents → NameNumber → Contents
without_device c key = record c { devices = remove c.devices key }

-- The contents without the rows of `seat`.
abbrev pub without_seats : Contents → Contents
without_seats c = record c { seats = empty }

-- The contents without the rows of `moved`.
abbrev pub without_moved : Contents → Contents
without_moved c = record c { moved = empty }

-- The contents with this row of `published`, in place of one with its key.
abbrev pub with_published_row : Contents → NameNumber → List ℕ → Contents
with_published_row c key value = record c { published = insert c.published key value }

-- The contents with this row of `request`, in place of one with its key.
abbrev pub with_request : Contents → NameNumber → Request → Contents
with_request c key value = record c { requests = insert c.requests key value }

-- The contents with this row of `part`, in place of one with its key.
abbrev pub with_part : Contents → NameNumber → Part → Contents
with_part c key value = record c { parts = insert c.parts key value }
