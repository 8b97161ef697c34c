-- Plain tables: STRICT, no column NULL, texts, whole numbers and bytes alone, and no rowid that a
-- column names.
use Rattle.std.specs.Prelude.{◌+◌, true, false, [], ◌∷◌, ◌++◌, None, List, ℕ, codes, map}
use Rattle.sqlite.specs.Collation.TheVariants.{Binary}
use Rattle.sqlite.specs.declared.types.Value.TheVariants.{Null}
use Rattle.sqlite.specs.Table.{Table}
use Rattle.sqlite.specs.Kind.{Kind}
use Rattle.sqlite.specs.Kind.TheVariants.{Integer, Text, Blob}
use Rattle.sqlite_schema.specs.declared.schema.Column.{Column}
use Rattle.sqlite_schema.specs.declared.schema.Reference.{Reference}
use Rattle.sqlite_schema.specs.declared.schema.Index.{Index}
use Rattle.sqlite_value.specs.Keys.{plain}

-- What a column holds.
pub data ColumnKind : Type 0 where
  text : ColumnKind
  number : ColumnKind
  bytes : ColumnKind

-- The kind of column that a value fits.
abbrev pub kind_of : ColumnKind → Kind
kind_of text = Text
kind_of number = Integer
kind_of bytes = Blob

-- A column by its name and what it holds.
pub record PlainColumn : Type 0 where
  pub name : List ℕ
  pub holds : ColumnKind

-- A column of a STRICT table that is never NULL.
abbrev pub column_of : PlainColumn → Column
column_of f = record {
  name = f.name;
  kind = kind_of f.holds;
  is_strict = true;
  not_null = true;
  default = Null;
  collation = Binary;
}

-- A plain table: its name, the tree of its rows, its columns, and its keys by their columns, the
-- primary one among them.
pub record Plain : Type 0 where
  pub name : List ℕ
  pub tree : ℕ
  pub fields : List PlainColumn
  pub primary : List ℕ
  pub uniques : List (List ℕ)
  pub references : List Reference

-- The same as the schema has it.
abbrev pub table_of : Plain → Table
table_of p = record {
  name = p.name;
  tree = p.tree;
  columns = map column_of p.fields;
  key = None;
  primary = p.primary;
  uniques = p.uniques;
  orders = map (λ _. plain) p.uniques;
  checks = [];
  references = p.references;
  computed = [];
  stamps = record { places = []; terms = []; formats = [] };
  is_counted = false;
}

-- The indexes that keep the keys of a table unique, from the key of this number on: each is named
-- after the table and the key, and its tree comes so many after the table's.
abbrev pub indexes_from : ℕ → Plain → List (List ℕ) → List Index
indexes_from key p [] = []
indexes_from key p (columns ∷ more) = record {
  name = codes "sqlite_autoindex_" ++ p.name ++ codes "_" ++ ((48 + key) ∷ []);
  tree = p.tree + key;
  table = p.tree;
  columns = columns;
  order = plain;
  is_unique = true;
} ∷ indexes_from (key + 1) p more

-- The indexes on all keys of a table.
abbrev pub indexes_of : Plain → List Index
indexes_of p = indexes_from 1 p p.uniques
