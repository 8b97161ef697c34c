-- What a query shows of a table.
use Rattle.std.specs.Prelude.{◌≡◌, ◌∷◌, ◌++◌, [], ℕ, List, map, false, IfOk}
use Rattle.sqlite.specs.Effect.{Database, Reads, ReadsFirst}
use Rattle.sqlite.specs.Given.{IsPlain}
use Rattle.sqlite.specs.Listing.{reads_listing, understood}
use Rattle.sqlite_value.specs.declared.value.Value.TheVariants.{Null}
use Rattle.sqlite_value.specs.Order.{Row}
use Rattle.store_model.specs.Contents.{Contents}
use Rattle.store_tables.specs.Entries.{Layout}
use Rattle.store_tables.specs.Store.{HasMadeTables, begun_contents}
use Rattle.store_tables.specs.Tables.{schema_of_first}

-- The entry of a row as a query shows it: all its columns, and no rowid.
abbrev pub shown_as : {K V : Type 0} → Layout K V → Row → K × V
shown_as l r = l.entry (Null ∷ r)

-- The statement, without parameters, reads these rows of a database with the first so many tables.
abbrev pub ReadsAll : ℕ → List ℕ → Database → List Row → Type 0
ReadsAll made sql db rows = IfOk (understood (schema_of_first made) sql)
    (λ it. Reads it.command db [] rows)

-- The statement, without parameters, first reads these rows of such a database.
abbrev pub ReadsFront : ℕ → List ℕ → Database → List Row → Type 0
ReadsFront made sql db rows = IfOk (understood (schema_of_first made) sql)
    (λ it. ReadsFirst it.command db [] rows)

-- The statement is a plain query of the first so many tables, and what it reads where these are made
-- are these entries; what it reads first are the first of them.
pub record Lists (made : ℕ) (sql : List ℕ) {K V : Type 0} (l : Layout K V)
    (listed : Contents → List (K × V)) : Type 0 where
  pub plain : IsPlain (understood (schema_of_first made) sql)
  pub of_tables : reads_listing (schema_of_first made) sql ≡ false
  pub shows : (db : Database) (rows : List Row) → HasMadeTables made db → ReadsAll made sql db rows
      → map (shown_as l) rows ≡ listed (begun_contents made db.trees)
  pub begins : (db : Database) (rows : List Row) → HasMadeTables made db
      → ReadsFront made sql db rows → (rest : List (K × V))
      × (map (shown_as l) rows ++ rest ≡ listed (begun_contents made db.trees))
