-- What an INSERT of one row makes of the map of a table.
use Rattle.std.proofs.Common.{◌≡◌, ℕ, ◌+◌, ◌/◌, map, true, List, [], ◌∷◌, ◌++◌, length, slice_get}
use Rattle.std.proofs.Common.{Some, Ok}
use Rattle.std.proofs.Common.{ap, subst, ◌∙◌}
use Rattle.std.specs.List.{range_with_len}
use Rattle.std.specs.FinMap.{insert}
use Rattle.sqlite_value.specs.declared.value.Value.TheVariants.{Null}
use Rattle.sqlite_trees.specs.Tree.{put_row}
use Rattle.sqlite_sql.specs.Term.{Term}
use Rattle.sqlite_schema.specs.declared.schema.Schema.{Schema}
use Rattle.sqlite_schema.specs.declared.command.Source.{Source}
use Rattle.sqlite_schema.specs.declared.command.Source.TheVariants.{Values}
use Rattle.sqlite_schema.specs.declared.command.Command.TheVariants.{Insert}
use Rattle.sqlite_rules.specs.Edit.{next_rowid, are_fresh}
use Rattle.sqlite.specs.Term.{col, lit}
use Rattle.sqlite.specs.Effect.{value_rows}
use Rattle.sqlite.specs.State.{State, Executes}
use Rattle.store_tables.specs.Plain.{Plain, table_of}
use Rattle.store_tables.specs.Entries.{Layout, map_of}
use Rattle.store_tables.specs.Inner.Rows.{table_row}
use Rattle.store_tables.proofs.Plain.Maps.{inserted_puts, put_is}
use Rattle.store_tables.proofs.Plain.Queries.{Means}
use Rattle.store_tables.proofs.Plain.Writes.{inserts, inserted_shaped}
use Rattle.store_tables.proofs.Plain.Facts.{Facts, Lives, Turns, next_row, rows_in}

-- what is written of a row: no rowid, and a parameter for each column
abbrev pub given : Plain → List Term
given p = lit Null ∷ map (col 0) (range_with_len 0 (length p.fields))

abbrev pub width : Plain → ℕ
width p = length p.fields + 1

abbrev pub given_row : Plain → Source
given_row p = Values (given p) (width p)

-- the parameters are the columns of an entry
abbrev pub AreGiven : {K V : Type 0} → Layout K V → Type 0
AreGiven {K} {V} l = (k : K) (v : V) → value_rows (l.values k v ++ []) (width l.plain)
    (length (given l.plain) / width l.plain) (given l.plain) ≡ (Null ∷ l.values k v) ∷ []

-- the text adds the row of an entry: its columns in order are its parameters
pub record AddText (schema : Schema) {K V : Type 0} (l : Layout K V) (sql : List ℕ) : Type 0 where
  pub at : ℕ
  pub placed : slice_get schema.tables at ≡ Some (table_of l.plain)
  pub means : Means schema sql (Insert at (given_row l.plain))
  pub one : AreGiven l

module _ (schema : Schema) {K V : Type 0} (l : Layout K V) (f : Facts schema l) (sql : List ℕ)
    (text : AddText schema l sql) where
  pub adds_row : (key : K) (value : V) (old new : State) (count : ℕ) → Lives schema old.now
      → Executes sql (l.values key value) old new (Ok count)
      → Turns schema l old.now new.now (insert (map_of l (old.now.trees l.plain.tree)) key value)
  adds_row key value old new count lives h =
      let rows = old.now.trees l.plain.tree in
      let row = table_row l (next_rowid rows) key value in
      let done = inserts schema l.plain text.at sql (l.values key value)
      (Null ∷ l.values key value) (given l.plain) (width l.plain) old new count
      text.placed text.means.is text.means.plain (text.one key value) lives.schema_is h in
      let it = done.2 in
      let stored = next_row schema l f rows key value in
      let are = rows_in schema l f old.now lives in
      let after : Lives schema new.now = record {
        schema_is = done.1;
        sound = done.0.sound;
        ordered = inserted_shaped schema l.plain old.now.trees new.now.trees _ lives.ordered
            are.shaped it;
      } in
      let now = it.rows ∙ ap (λ r. put_row r rows) stored in
      let fresh = subst (λ r. are_fresh rows (r ∷ []) ≡ true) stored it.fresh in
      let put = inserted_puts f.total f.exact l.entry rows (new.now.trees l.plain.tree) row now
      fresh (rows_in schema l f new.now after).apart in
      let map = put_is f.total f.exact l.entry rows (new.now.trees l.plain.tree) row are.apart put
      in
      record {
        lives = after;
        others = it.tables;
        map = map ∙ ap (λ (e : K × V). insert (map_of l rows) e.0 e.1)
            (f.reads (next_rowid rows) key value);
      }
