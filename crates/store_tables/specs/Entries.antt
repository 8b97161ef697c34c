-- The rows of each table as entries: a key and what the row says of it.
use Rattle.std.specs.Prelude.{ℕ, ℤ, List, [], ◌∷◌, map}
use Rattle.std.specs.declared.cmp.Ordering.{Ordering}
use Rattle.std.specs.Ordering.{int_cmp}
use Rattle.std.specs.FinMap.{FinMap, from_entries}
use Rattle.sqlite_value.specs.declared.value.Value.TheVariants.{Int, Text, Blob}
use Rattle.sqlite_value.specs.Order.{Row, column, bytes}
use Rattle.sqlite_rules.specs.Edit.{id_in}
use Rattle.store_model.specs.Entries.{name_cmp, NameNumber, name_number_cmp, SeatKey, seat_cmp}
use Rattle.store_model.specs.Entries.{Meta, Ring, Device, Request, Part}
use Rattle.store_tables.specs.Plain.{Plain}
use Rattle.store_tables.specs.Tables as tables

-- How the rows of a plain table are read: the order of the keys, the columns of an entry, the entry
-- of a row, and the columns of the key.
pub record Layout (K V : Type 0) : Type 0 where
  pub plain : Plain
  pub cmp : K → K → Ordering
  pub values : K → V → Row
  pub entry : Row → K × V
  pub key : List ℕ

-- The map that rows stand for.
abbrev pub map_of : {K V : Type 0} (l : Layout K V) → List Row → FinMap l.cmp V
map_of l rows = from_entries {R = l.cmp} (map l.entry rows)

-- The shape of the row on the whole store.
abbrev pub meta_rows : Layout ℤ Meta
meta_rows = record {
  plain = tables.meta;
  cmp = int_cmp;
  values = λ key value. Int key ∷ Int value.schema ∷ Int value.hour ∷ [];
  entry = λ r. (
    id_in (column r 1),
    record {
      schema = id_in (column r 2);
      hour = id_in (column r 3);
    },
  );
  key = 1 ∷ [];
}

-- The shape of the rows of `ring`: their key, their value, and how both are read of a row.
abbrev pub ring_rows : Layout (List ℕ) Ring
ring_rows = record {
  plain = tables.ring;
  cmp = name_cmp;
  values = λ key value.
      Text key ∷ Int value.power ∷ Int value.replicas ∷ Int value.min_hours ∷ Int value.next_id ∷
      Int value.version ∷ [];
  entry = λ r. (
    bytes (column r 1),
    record {
      power = id_in (column r 2);
      replicas = id_in (column r 3);
      min_hours = id_in (column r 4);
      next_id = id_in (column r 5);
      version = id_in (column r 6);
    },
  );
  key = 1 ∷ [];
}

-- The shape of the rows of `device`: their key, their value, and how both are read of a row.
abbrev pub device_rows : Layout NameNumber Device
device_rows = record {
  plain = tables.device;
  cmp = name_number_cmp;
  values = λ key value.
      Text key.0 ∷ Int key.1 ∷ Int value.region ∷ Int value.zone ∷ Text value.address ∷
      Int value.port ∷ Text value.name ∷ Int value.weight ∷ Int value.removed ∷ [];
  entry = λ r. (
    (bytes (column r 1), id_in (column r 2)),
    record {
      region = id_in (column r 3);
      zone = id_in (column r 4);
      address = bytes (column r 5);
      port = id_in (column r 6);
      name = bytes (column r 7);
      weight = id_in (column r 8);
      removed = id_in (column r 9);
    },
  );
  key = 1 ∷ 2 ∷ [];
}

-- The shape of the rows of `seat`: their key, their value, and how both are read of a row.
abbrev pub seat_rows : Layout SeatKey ℤ
seat_rows = record {
  plain = tables.seat_table;
  cmp = seat_cmp;
  values = λ key device. Text key.0 ∷ Int key.1.0 ∷ Int key.1.1 ∷ Int device ∷ [];
  entry = λ r. ((bytes (column r 1), (id_in (column r 2), id_in (column r 3))), id_in (column r 4));
  key = 1 ∷ 2 ∷ 3 ∷ [];
}

-- The shape of the rows of `moved`: their key, their value, and how both are read of a row.
abbrev pub moved_rows : Layout NameNumber ℤ
moved_rows = record {
  plain = tables.moved;
  cmp = name_number_cmp;
  values = λ key hour. Text key.0 ∷ Int key.1 ∷ Int hour ∷ [];
  entry = λ r. ((bytes (column r 1), id_in (column r 2)), id_in (column r 3));
  key = 1 ∷ 2 ∷ [];
}

-- The shape of the rows of `published`: their key, their value, and how both are read of a row.
abbrev pub published_rows : Layout NameNumber (List ℕ)
published_rows = record {
  plain = tables.published;
  cmp = name_number_cmp;
  values = λ key body. Text key.0 ∷ Int key.1 ∷ Text body ∷ [];
  entry = λ r. ((bytes (column r 1), id_in (column r 2)), bytes (column r 3));
  key = 1 ∷ 2 ∷ [];
}

-- The shape of the rows of `request`: their key, their value, and how both are read of a row.
abbrev pub request_rows : Layout NameNumber Request
request_rows = record {
  plain = tables.request;
  cmp = name_number_cmp;
  values = λ key value.
      Text key.0 ∷ Int key.1 ∷ Int value.place ∷ Int value.hour ∷ Text value.command ∷
      Text value.reply ∷ [];
  entry = λ r. (
    (bytes (column r 1), id_in (column r 2)),
    record {
      place = id_in (column r 3);
      hour = id_in (column r 4);
      command = bytes (column r 5);
      reply = bytes (column r 6);
    },
  );
  key = 1 ∷ 2 ∷ [];
}

-- The shape of the rows of `part`: their key, their value, and how both are read of a row.
abbrev pub part_rows : Layout NameNumber Part
part_rows = record {
  plain = tables.part;
  cmp = name_number_cmp;
  values = λ key value. Text key.0 ∷ Int key.1 ∷ Blob value.devices ∷ Int value.hour ∷ [];
  entry = λ r. (
    (bytes (column r 1), id_in (column r 2)),
    record {
      devices = bytes (column r 3);
      hour = id_in (column r 4);
    },
  );
  key = 1 ∷ 2 ∷ [];
}
