-- The tables of the store, and its schema as they are made, one after another.
use Rattle.std.specs.Prelude.{false, [], ◌∷◌, codes, List, ℕ, map, take}
use Rattle.std.specs.List.{flat_map}
use Rattle.sqlite.specs.Schema.{Schema}
use Rattle.sqlite_schema.specs.declared.schema.Reference.{Reference}
use Rattle.sqlite_schema.specs.declared.schema.Action.TheVariants.{NoAction}
use Rattle.store_tables.specs.Plain.{PlainColumn, ColumnKind, Plain, text, number, bytes, table_of}
use Rattle.store_tables.specs.Plain.{indexes_of}

-- A column by its name and what it holds.
abbrev field : List ℕ → ColumnKind → PlainColumn
field name holds = record { name = name; holds = holds }

-- These columns name a row of another table.
abbrev names : List ℕ → List ℕ → List (List ℕ) → Reference
names columns parent parent_columns = record {
  columns = columns;
  parent = parent;
  parent_columns = parent_columns;
  on_delete = NoAction;
  on_update = NoAction;
  is_deferred = false;
}

-- The first column names a ring.
abbrev ring_of : List Reference
ring_of = names (1 ∷ []) (codes "ring") (codes "name" ∷ []) ∷ []

-- The one row on the whole store: its schema, and the greatest hour of a request.
abbrev pub meta : Plain
meta = record {
  name = codes "meta";
  tree = 0;
  fields =
      field (codes "one") number ∷
      field (codes "schema") number ∷
      field (codes "hour") number ∷ [];
  primary = [];
  uniques = (1 ∷ []) ∷ [];
  references = [];
}

-- The rings.
abbrev pub ring : Plain
ring = record {
  name = codes "ring";
  tree = 2;
  fields =
      field (codes "name") text ∷
      field (codes "power") number ∷
      field (codes "replicas") number ∷
      field (codes "min_hours") number ∷
      field (codes "next_id") number ∷
      field (codes "version") number ∷ [];
  primary = 1 ∷ [];
  uniques = (1 ∷ []) ∷ [];
  references = [];
}

-- The devices of the rings, with those that are marked to be removed. No two devices of a ring
-- have one address, port and name.
abbrev pub device : Plain
device = record {
  name = codes "device";
  tree = 4;
  fields =
      field (codes "ring") text ∷
      field (codes "id") number ∷
      field (codes "region") number ∷
      field (codes "zone") number ∷
      field (codes "address") text ∷
      field (codes "port") number ∷
      field (codes "name") text ∷
      field (codes "weight") number ∷
      field (codes "removed") number ∷ [];
  primary = 1 ∷ 2 ∷ [];
  uniques = (1 ∷ 2 ∷ []) ∷ (1 ∷ 5 ∷ 6 ∷ 7 ∷ []) ∷ [];
  references = ring_of;
}

-- The seats, in a store of schema 1 alone. A partition has a device once.
abbrev pub seat_table : Plain
seat_table = record {
  name = codes "seat";
  tree = 7;
  fields =
      field (codes "ring") text ∷
      field (codes "part") number ∷
      field (codes "replica") number ∷
      field (codes "device") number ∷ [];
  primary = 1 ∷ 2 ∷ 3 ∷ [];
  uniques = (1 ∷ 2 ∷ 3 ∷ []) ∷ (1 ∷ 2 ∷ 4 ∷ []) ∷ [];
  references = names (1 ∷ 4 ∷ []) (codes "device") (codes "ring" ∷ codes "id" ∷ []) ∷ [];
}

-- The hours of the last moves, in a store of schema 1 alone.
abbrev pub moved : Plain
moved = record {
  name = codes "moved";
  tree = 10;
  fields =
      field (codes "ring") text ∷
      field (codes "part") number ∷
      field (codes "hour") number ∷ [];
  primary = 1 ∷ 2 ∷ [];
  uniques = (1 ∷ 2 ∷ []) ∷ [];
  references = ring_of;
}

-- The texts of published rings.
abbrev pub published : Plain
published = record {
  name = codes "published";
  tree = 12;
  fields =
      field (codes "ring") text ∷
      field (codes "version") number ∷
      field (codes "body") text ∷ [];
  primary = 1 ∷ 2 ∷ [];
  uniques = (1 ∷ 2 ∷ []) ∷ [];
  references = ring_of;
}

-- The decided requests with their replies. No two requests have one place.
abbrev pub request : Plain
request = record {
  name = codes "request";
  tree = 14;
  fields =
      field (codes "caller") text ∷
      field (codes "number") number ∷
      field (codes "place") number ∷
      field (codes "hour") number ∷
      field (codes "command") text ∷
      field (codes "reply") text ∷ [];
  primary = 1 ∷ 2 ∷ [];
  uniques = (1 ∷ 2 ∷ []) ∷ (3 ∷ []) ∷ [];
  references = [];
}

-- The partitions of the rings, each with the devices of its replicas and the hour of its last move.
abbrev pub part : Plain
part = record {
  name = codes "part";
  tree = 17;
  fields =
      field (codes "ring") text ∷
      field (codes "part") number ∷
      field (codes "devices") bytes ∷
      field (codes "hour") number ∷ [];
  primary = 1 ∷ 2 ∷ [];
  uniques = (1 ∷ 2 ∷ []) ∷ [];
  references = ring_of;
}

-- The tables of the store, in the order in which they are made.
abbrev pub all_tables : List Plain
all_tables = meta ∷ ring ∷ device ∷ seat_table ∷ moved ∷ published ∷ request ∷ part ∷ []

-- The schema of these tables with the indexes on their keys, and nothing else.
abbrev pub schema_of : List Plain → Schema
schema_of made = record {
  tables = map table_of made;
  indexes = flat_map indexes_of made;
  views = [];
}

-- The schema with nothing in it.
abbrev pub no_tables : Schema
no_tables = schema_of []

-- The eight tables with their indexes, and nothing else.
abbrev pub store_schema : Schema
store_schema = schema_of all_tables

-- A store has so many tables.
abbrev pub table_count : ℕ
table_count = 8

-- The schema once the first so many tables are made, in the order above.
abbrev pub schema_of_first : ℕ → Schema
schema_of_first made = schema_of (take made all_tables)
