-- What the tables of a store have, and no table with more rules.
use Rattle.std.specs.Prelude.{◌≡◌, All, None, []}
use Rattle.sqlite.specs.Schema.{Schema}
use Rattle.sqlite.specs.Table.{Table}
use Rattle.sqlite.specs.declared.types.Value.TheVariants.{Null}

-- No defaults, no rowid that a column names, no CHECK, and no expression in a stamp.
pub record IsPlainTable (table : Table) : Type 0 where
  pub defaults : All (λ column. column.default ≡ Null) table.columns
  pub key : table.key ≡ None
  pub checks : table.checks ≡ []
  pub terms : table.stamps.terms ≡ []

-- Plain tables alone, and no view.
pub record IsPlainSchema (schema : Schema) : Type 0 where
  pub tables : All IsPlainTable schema.tables
  pub views : schema.views ≡ []
