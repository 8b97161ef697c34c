-- What a DELETE makes of the map of a table: of the row of a key, and of all rows.
use Rattle.std.proofs.Common.{◌≡◌, inl, ℕ, ℤ, true, List, [], ◌∷◌, map, filter, slice_get, Some, Ok}
use Rattle.std.proofs.Common.{refl, sym, ap, subst, ◌∙◌, true≢false}
use Rattle.std.specs.List.Sorted.{IsPermutation}
use Rattle.std.specs.Ordering.{eq_by_cmp}
use Rattle.std.specs.FinMap.{empty, remove}
use Rattle.std.proofs.lemmas.List.Sorted.{IsPermutation-sym}
use Rattle.sqlite_value.specs.declared.value.Value.TheVariants.{Null}
use Rattle.sqlite_value.specs.Order.{Row}
use Rattle.sqlite_trees.specs.Tree.{Trees, rowid}
use Rattle.sqlite_rules.specs.Lists.{Has}
use Rattle.sqlite_rules.specs.Calls.{ids_of}
use Rattle.sqlite_rules.specs.Edit.{without_all}
use Rattle.sqlite_rules.proofs.ListLemmas.{has_filtered, has_kept}
use Rattle.sqlite_rules.proofs.ProbeLemmas.{has_mapped, mapped_has}
use Rattle.sqlite_schema.specs.declared.schema.Schema.{Schema}
use Rattle.sqlite_sql.specs.Query.{IsAnswer, output}
use Rattle.sqlite_sql.specs.Term.{Term}
use Rattle.sqlite.specs.Term.{col}
use Rattle.sqlite.specs.Command.TheVariants.{Delete}
use Rattle.sqlite.specs.Effect.{Database}
use Rattle.sqlite.specs.Program.{overlay}
use Rattle.sqlite.specs.State.{State, Executes}
use Rattle.store_tables.specs.Plain.{table_of}
use Rattle.store_tables.specs.Entries.{Layout, map_of}
use Rattle.store_tables.specs.Inner.Rows.{table_row}
use Rattle.store_tables.proofs.Plain.Maps.{left_out, left_in, Drops, drop_is, no_entries}
use Rattle.store_tables.proofs.Plain.Ordered.{moved}
use Rattle.store_tables.proofs.Plain.Writes.{IsQuiet, Spares, deletes, deleted_shaped}
use Rattle.store_tables.proofs.Plain.Facts.{Facts, Lives, Turns, rows_in}
use Rattle.store_tables.proofs.Plain.Queries.{Means, program_of, of_table, env_of, passes}
use Rattle.store_tables.proofs.Plain.Queries.{answer_picks, row_by_key}

module _ (schema : Schema) {K V : Type 0} (l : Layout K V) (f : Facts schema l) where
  -- the text deletes the rows that pass a test
  pub record DropText (sql : List ℕ) : Type 0 where
    pub at : ℕ
    pub test : List Term
    pub placed : slice_get schema.tables at ≡ Some (table_of l.plain)
    pub quiet : IsQuiet schema l.plain
    pub means : Means schema sql
        (Delete at (program_of (of_table l.plain.tree test (col 1 0 ∷ []) [])))
    pub numbers : (params r : Row)
        → (output (of_table l.plain.tree test (col 1 0 ∷ []) []) (env_of params r)).1 ≡ rowid r ∷ []

  module _ (sql : List ℕ) (text : DropText sql) (params : Row) where
    -- the rows that were found are those that pass
    pub record Finds (rows found : List Row) : Type 0 where
      pub sound : (x : Row) → Has found x → (r : Row) × Has rows r × (passes text.test params r
          ≡ true) × (x ≡ rowid r ∷ [])
      pub complete : (r : Row) → Has rows r → passes text.test params r ≡ true
          → Has found (rowid r ∷ [])

    finds : (db : Trees) (found : List Row)
        → IsAnswer (of_table l.plain.tree text.test (col 1 0 ∷ []) []) db params found
        → Finds (db l.plain.tree) found
    finds db found a =
        let rows = db l.plain.tree in
        let picks = passes text.test params in
        let out : Row → Row = λ r. (output (of_table l.plain.tree text.test (col 1 0 ∷ []) [])
        (env_of params r)).1 in
        let same : IsPermutation (map out (filter picks rows)) found =
        answer_picks l.plain.tree text.test (col 1 0 ∷ []) db params found a in
        record {
          sound = λ x h.
              let r = has_mapped out (filter picks rows) x
              (moved found (map out (filter picks rows)) x
              (IsPermutation-sym (map out (filter picks rows)) found same) h) in
              let was = has_filtered picks rows r.0 r.1 in
              (r.0, was.0, was.1, r.2 ∙ text.numbers params r.0);
          complete = λ r h passed.
              subst (Has found) (text.numbers params r) (moved (map out (filter picks rows)) found
              (out r) same (mapped_has out (filter picks rows) r (has_kept picks rows r h
              passed)));
        }

    -- the rows that pass are gone, and no others
    pub record Clears (old new : Database) : Type 0 where
      pub lives : Lives schema new
      pub others : Spares schema l.plain old.trees new.trees
      pub found : List Row
      pub finds : Finds (old.trees l.plain.tree) found
      pub rows : new.trees l.plain.tree ≡ without_all (old.trees l.plain.tree) (ids_of found)

    deleted : (old new : State) (count : ℕ) → Lives schema old.now
        → Executes sql params old new (Ok count) → Clears old.now new.now
    deleted old new count lives h =
        let done = deletes schema l.plain text.at sql params _ old new count text.placed text.quiet
        text.means.is text.means.plain lives.schema_is h in
        let found = done.2 in
        let it = done.4 in
        let are = rows_in schema l f old.now lives in
        let all = finds (overlay old.now.trees []) found (done.3.answer Null) in
        record {
          lives = record {
            schema_is = done.1;
            sound = done.0.sound;
            ordered = deleted_shaped schema l.plain old.now.trees new.now.trees found lives.ordered
                are.shaped it;
          };
          others = it.tables;
          found = found;
          finds = subst (λ rows. Finds rows found) (f.based old.now.trees) all;
          rows = it.rows;
        }

  module _ (sql : List ℕ) (text : DropText sql) (params : K → Row) (by_key : (id : ℤ) (k key : K)
      (v : V) → passes text.test (params key) (table_row l id k v) ≡ eq_by_cmp l.cmp k key) where
    pub drops_row : (key : K) (old new : State) (count : ℕ) → Lives schema old.now
        → Executes sql (params key) old new (Ok count)
        → Turns schema l old.now new.now (remove (map_of l (old.now.trees l.plain.tree)) key)
    drops_row key old new count lives h =
        let rows = old.now.trees l.plain.tree in
        let it = deleted sql text (params key) old new count lives h in
        let are = rows_in schema l f old.now lives in
        let found = it.found in
        let all = it.finds in
        let picks = passes text.test (params key) in
        let tie = row_by_key schema l f text.test params by_key rows are key in
        let less : Drops f.total f.exact l.entry rows (without_all rows (ids_of found)) key =
        record {
          others = λ x h. let was = left_out rows found are.shaped.0 are.shaped.1 picks all.sound
              all.complete x h in (was.0, sym (tie x was.0) ∙ was.1);
          kept = λ x h other. left_in rows found are.shaped.0 are.shaped.1 picks all.sound
              all.complete x h (tie x h ∙ other);
        } in
        record {
          lives = it.lives;
          others = it.others;
          map = drop_is f.total f.exact l.entry rows (new.now.trees l.plain.tree) key are.apart
              (subst (λ xs. Drops f.total f.exact l.entry rows xs key) (sym it.rows) less);
        }

  none_left : (rows : List Row) → ((x : Row) → Has rows x → ⊥) → rows ≡ []
  none_left [] none = refl
  none_left (x ∷ rows) none = absurd (none x (inl refl))

  module _ (sql : List ℕ) (text : DropText sql) (all_pass : (r : Row) →
      passes text.test [] r ≡ true) where
    pub drops_all : (old new : State) (count : ℕ) → Lives schema old.now
        → Executes sql [] old new (Ok count)
        → Turns schema l old.now new.now empty
    drops_all old new count lives h =
        let rows = old.now.trees l.plain.tree in
        let it = deleted sql text [] old new count lives h in
        let are = rows_in schema l f old.now lives in
        let found = it.found in
        let all = it.finds in
        let none = none_left (without_all rows (ids_of found)) (λ x h.
        let was = left_out rows found are.shaped.0 are.shaped.1 (passes text.test []) all.sound
        all.complete x h in
        true≢false (sym (all_pass x) ∙ was.1)) in
        record {
          lives = it.lives;
          others = it.others;
          map = ap (map_of l) (it.rows ∙ none) ∙ no_entries f.total f.exact;
        }
