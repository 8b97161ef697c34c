-- Rows of the tables.
use Rattle.std.specs.Prelude.{ℤ, ◌∷◌}
use Rattle.sqlite_value.specs.declared.value.Value.TheVariants.{Int}
use Rattle.sqlite_value.specs.Order.{Row}
use Rattle.store_tables.specs.Entries.{Layout}

-- The row of an entry: a rowid, and its columns.
abbrev pub table_row : {K V : Type 0} → Layout K V → ℤ → K → V → Row
table_row l id key value = Int id ∷ l.values key value
