-- What an INSERT OR REPLACE of one row makes of the map of a table.
use Rattle.std.proofs.Common.{◌≡◌, inl, inr, ℕ, ℤ, true, false, List, [], ◌∷◌}
use Rattle.std.proofs.Common.{slice_get, None, Some, Ok, refl, sym, ap, subst, ◌∙◌}
use Rattle.std.specs.Ordering.{is_eq, int_cmp, eq_by_cmp}
use Rattle.std.specs.FinMap.{insert}
use Rattle.sqlite_value.specs.declared.value.Value.TheVariants.{Null, Int}
use Rattle.sqlite_value.specs.Order.{Row, value_cmp}
use Rattle.sqlite_value.proofs.OrderLemmas.{value_cmp-Int}
use Rattle.sqlite_trees.specs.Tree.{rowid, put_row}
use Rattle.sqlite_schema.specs.declared.schema.Schema.{Schema}
use Rattle.sqlite_schema.specs.declared.command.Command.TheVariants.{InsertOr}
use Rattle.sqlite_schema.specs.declared.command.Conflict.TheVariants.{Replace}
use Rattle.sqlite_rules.specs.declared.error.Rowids.TheVariants.{Chosen}
use Rattle.sqlite_rules.specs.Cast.{cast_row}
use Rattle.sqlite_rules.specs.Keys.{AreConflicts, conflicts}
use Rattle.sqlite_rules.specs.Lists.{Has}
use Rattle.sqlite_rules.specs.Calls.{ids_of}
use Rattle.sqlite_rules.specs.Edit.{next_rowid, with_rowid, without_all, are_fresh}
use Rattle.sqlite_rules.proofs.TableLemmas.{has_put, put_has, put_all_keeps}
use Rattle.sqlite.specs.State.{State, Executes}
use Rattle.store_tables.specs.Plain.{table_of}
use Rattle.store_tables.specs.Entries.{Layout, map_of}
use Rattle.store_tables.specs.Inner.Rows.{table_row}
use Rattle.store_tables.proofs.Plain.Values.{is_fresh}
use Rattle.store_tables.proofs.Plain.Maps.{left_out, left_in, Puts, put_is}
use Rattle.store_tables.proofs.Plain.Queries.{Means}
use Rattle.store_tables.proofs.Plain.Writes.{IsQuiet, replaces, replaced_shaped}
use Rattle.store_tables.proofs.Plain.Facts.{Facts, AreRows, Lives, Turns, rows_in, key_is, number_is}
use Rattle.store_tables.proofs.Plain.Facts.{mended_row, next_row, stands}
use Rattle.store_tables.proofs.Plain.Adds.{AreGiven, given, given_row, width}

-- only the row with its key stands in the way of a row
abbrev pub Clashes : Schema → {K V : Type 0} → Layout K V → Type 0
Clashes schema {K} {V} l = (id new : ℤ) (k key : K) (v value : V)
    → is_eq (int_cmp id new) ≡ false
    → conflicts None schema.indexes (table_of l.plain) (table_row l new key value) (table_row l id k v)
    ≡ eq_by_cmp l.cmp k key

-- the text puts the row of an entry: its columns in order are its parameters, and only a row with
-- its key stands in its way
pub record PutText (schema : Schema) {K V : Type 0} (l : Layout K V) (sql : List ℕ) : Type 0 where
  pub at : ℕ
  pub placed : slice_get schema.tables at ≡ Some (table_of l.plain)
  pub quiet : IsQuiet schema l.plain
  pub means : Means schema sql (InsertOr at Replace (given_row l.plain) [])
  pub one : AreGiven l
  pub clash : Clashes schema l

module _ (schema : Schema) {K V : Type 0} (l : Layout K V) (f : Facts schema l) (sql : List ℕ)
    (text : PutText schema l sql) where
  -- a row conflicts with a new one where it has its key
  conflicts_are : (rows : List Row) (key : K) (value : V) → AreRows l rows → (x : Row) → Has rows x
      → conflicts None schema.indexes (table_of l.plain) (table_row l (next_rowid rows) key value) x
      ≡ eq_by_cmp l.cmp (l.entry x).0 key
  conflicts_are rows key value are x h =
      let new = next_rowid rows in
      let t = are.typed x h in
      let free : is_eq (value_cmp (rowid x) (Int new)) ≡ false = is_fresh rows are.shaped x h in
      let apart : is_eq (int_cmp t.0 new) ≡ false =
      ap is_eq (sym (value_cmp-Int t.0 new)) ∙ ap (λ i. is_eq (value_cmp i (Int new)))
      (sym (number_is schema l f x t)) ∙ free in
      ap (conflicts None schema.indexes (table_of l.plain) (table_row l new key value)) t.3
      ∙ text.clash t.0 new t.1 key t.2 value apart ∙ ap (λ k. eq_by_cmp l.cmp k key)
      (sym (key_is schema l f x t))

  -- what the write of one row makes of the rows
  rows_put : (old new : List Row) (key : K) (value : V) (found : List Row) → AreRows l old
      → AreConflicts None schema.indexes (table_of l.plain) old (table_row l (next_rowid old) key value)
      found
      → are_fresh (without_all old (ids_of found)) (table_row l (next_rowid old) key value ∷ []) ≡ true
      → new ≡ put_row (table_row l (next_rowid old) key value) (without_all old (ids_of found))
      → Puts f.total f.exact l.entry old new (table_row l (next_rowid old) key value)
  rows_put old new key value found are conflict fresh is =
      let row = table_row l (next_rowid old) key value in
      let left = without_all old (ids_of found) in
      let test = conflicts None schema.indexes (table_of l.plain) row in
      let own : (l.entry row).0 ≡ key = key_is schema l f row (next_rowid old, key, value, refl) in
      let tie : (x : Row) → Has old x → test x ≡ eq_by_cmp l.cmp (l.entry x).0 (l.entry row).0 =
      λ x h. conflicts_are old key value are x h ∙ ap (eq_by_cmp l.cmp (l.entry x).0) (sym own) in
      subst (λ rows. Puts f.total f.exact l.entry old rows row) (sym is) (record {
        there = has_put row left;
        others = λ x h. elim (put_has row left x h) [
          | inl same ↦ inl same
          | inr was ↦
              let r = left_out old found are.shaped.0 are.shaped.1 test conflict.sound
              conflict.complete x was in
              inr (r.0, sym (tie x r.0) ∙ r.1)
        ];
        kept = λ x h other. put_all_keeps (row ∷ []) left x fresh
            (left_in old found are.shaped.0 are.shaped.1 test conflict.sound conflict.complete x h
            (tie x h ∙ other));
      })

  pub puts_row : (key : K) (value : V) (old new : State) (count : ℕ) → Lives schema old.now
      → Executes sql (l.values key value) old new (Ok count)
      → Turns schema l old.now new.now (insert (map_of l (old.now.trees l.plain.tree)) key value)
  puts_row key value old new count lives h =
      let rows = old.now.trees l.plain.tree in
      let table = table_of l.plain in
      let row = table_row l (next_rowid rows) key value in
      let done = replaces schema l.plain text.at sql (l.values key value)
      (Null ∷ l.values key value) (given l.plain) (width l.plain) old new count
      text.placed text.quiet text.means.is text.means.plain (text.one key value) lives.schema_is h in
      let it = done.2 in
      let stored = ap (λ r. with_rowid Chosen rows (cast_row table r)) (mended_row schema l f key
      value) ∙ next_row schema l f rows key value in
      let conflict : AreConflicts None schema.indexes table rows row it.found =
      subst (λ r. AreConflicts None schema.indexes table rows r it.found) stored it.conflicts in
      let same = ap (cast_row table) stored ∙ stands schema l f (next_rowid rows) key value in
      let fresh = subst (λ r. are_fresh (without_all rows (ids_of it.found)) (r ∷ []) ≡ true) same
      it.fresh in
      let now = it.rows ∙ ap (λ r. put_row r (without_all rows (ids_of it.found))) same in
      let are = rows_in schema l f old.now lives in
      let put = rows_put rows (new.now.trees l.plain.tree) key value it.found are conflict fresh now
      in
      let entry = f.reads (next_rowid rows) key value in
      let map = put_is f.total f.exact l.entry rows (new.now.trees l.plain.tree) row are.apart put
      in
      record {
        lives = record {
          schema_is = done.1;
          sound = done.0.sound;
          ordered = replaced_shaped schema l.plain old.now.trees new.now.trees _ lives.ordered
              are.shaped it;
        };
        others = it.tables;
        map = map ∙ ap (λ (e : K × V). insert (map_of l rows) e.0 e.1) entry;
      }
