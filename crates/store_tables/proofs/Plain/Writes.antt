-- What a write of one row makes of a table, whatever the table.
use Rattle.std.proofs.Common.{◌≡◌, ◌≢◌, ◌⊎◌, inl, inr, ℕ, ◌/◌, ℤ, true, List, [], ◌∷◌, ◌++◌, length}
use Rattle.std.proofs.Common.{slice_get, Some, None, Option, Ok, Err, Result, sym, ap, subst, ◌∙◌}
use Rattle.std.proofs.Common.{◌==◌}
use Rattle.std.specs.List.{AllByRecursion}
use Rattle.sqlite_value.specs.Order.{Row}
use Rattle.sqlite_trees.specs.Tree.{Trees, put_row}
use Rattle.sqlite_sql.specs.Term.{Term}
use Rattle.sqlite_schema.specs.declared.schema.Keys.TheVariants.{Enforced}
use Rattle.sqlite_schema.specs.declared.schema.Table.{Table}
use Rattle.sqlite_schema.specs.declared.schema.Schema.{Schema}
use Rattle.sqlite_schema.specs.declared.program.Program.{Program}
use Rattle.sqlite_schema.specs.declared.command.Source.TheVariants.{Values}
use Rattle.sqlite_schema.specs.declared.command.Command.TheVariants.{Insert, InsertOr, Delete}
use Rattle.sqlite_schema.specs.declared.command.Conflict.TheVariants.{Replace}
use Rattle.sqlite_rules.specs.declared.error.Rowids.TheVariants.{Chosen, Given}
use Rattle.sqlite_rules.specs.declared.error.Refusal.{Refusal}
use Rattle.sqlite_rules.specs.Cast.{cast_row}
use Rattle.sqlite_rules.specs.Keys.{AreConflicts}
use Rattle.sqlite_rules.specs.Lists.{Has}
use Rattle.sqlite_rules.specs.Calls.{ids_of}
use Rattle.sqlite_rules.specs.Edit.{edit_of, taken_by, with_rowid, without_all, are_fresh}
use Rattle.sqlite_rules.specs.Edit.{have_rowids}
use Rattle.sqlite_rules.specs.Action.{works}
use Rattle.sqlite_rules.proofs.ListLemmas.{all_has}
use Rattle.sqlite_rules.proofs.ActionLemmas.{no_works}
use Rattle.sqlite.specs.declared.error.Error.{Error}
use Rattle.sqlite.specs.Effect.{Database, Answers, value_rows}
use Rattle.sqlite.specs.Rows.{Task, Written, nothing, mended, Edited, Puts, Clears, Judged, Tries}
use Rattle.sqlite.specs.Rows.{TriesEach, InsertsOr, count_of, Inserts}
use Rattle.sqlite.specs.Does.{Tally, Does, Concludes}
use Rattle.sqlite.specs.declared.run.Mode.{Mode}
use Rattle.sqlite.specs.Listing.{understood}
use Rattle.sqlite.specs.State.{State, Writes, Executes, mode_of}
use Rattle.sqlite.proofs.Callers.{IsPlain, command_of, statement_of, runs_as, one_step}
use Rattle.sqlite_trees.specs.View.{IsShaped}
use Rattle.sqlite_trees.specs.declared.store.Shape.TheVariants as shape
use Rattle.sqlite_trees.proofs.TreeLemmas.{IsShaped-put_row}
use Rattle.std.proofs.lemmas.Bool.{cases_Bool, and_parts, eqb-true, eqb-false}
use Rattle.store_tables.proofs.Plain.Values.{left_shaped}
use Rattle.store_tables.specs.Plain.{Plain, table_of}

-- a part that gave a value did not stop on the way
pub went : {B E R : Type 0} {b : B} {Stops : E → Type 0} → ((stop : E) × Stops stop × (Ok b
    ≡ Err stop)) ⊎ R → R
went (inl stopped) = absurd (let e = stopped.2 in cc)
went (inr on) = on

pub same_value : {B E : Type 0} {a b : B} → ◌≡◌ {A = Result B E} (Ok a) (Ok b) → a ≡ b
same_value e = cc

-- the rowids of each table rise
abbrev pub AreShaped : Schema → Trees → Type 0
AreShaped schema db = (t : Table) → Has schema.tables t → IsShaped shape.Table (db t.tree)

module _ (schema : Schema) (p : Plain) where
  abbrev pub table : Table
  table = table_of p

  -- each other table is as it was
  abbrev pub Spares : Trees → Trees → Type 0
  Spares old new = (t : Table) → Has schema.tables t → t.tree ≢ p.tree → new t.tree ≡ old t.tree

  -- the same from what is said table by table
  pub spared : (old new : Trees)
      → AllByRecursion (λ t. t.tree ≢ p.tree → new t.tree ≡ old t.tree) schema.tables
      → Spares old new
  spared old new each = λ t. all_has _ schema.tables t each

  -- the row was put beside those that do not conflict with it
  pub record Replaced (old : Trees) (row : Row) (new : Trees) : Type 0 where
    pub found : List Row
    pub conflicts : AreConflicts None schema.indexes table (old p.tree) row found
    pub rows : new p.tree ≡ put_row (cast_row table row) (without_all (old p.tree) (ids_of found))
    pub fresh : are_fresh (without_all (old p.tree) (ids_of found)) (cast_row table row ∷ []) ≡ true
    pub keyed : have_rowids (cast_row table row ∷ []) ≡ true
    pub tables : Spares old new

  -- the row was put where its rowid was free
  pub record Inserted (old : Trees) (row : Row) (new : Trees) : Type 0 where
    pub rows : new p.tree ≡ put_row row (old p.tree)
    pub fresh : are_fresh (old p.tree) (row ∷ []) ≡ true
    pub keyed : have_rowids (row ∷ []) ≡ true
    pub tables : Spares old new

  -- no foreign key acts where rows are taken out
  abbrev pub IsQuiet : Type 0
  IsQuiet = (olds : List Row) → works schema Enforced 0 p.tree olds [] ≡ []

  module _ (limit : Option ℕ) (params : Row) (quiet : IsQuiet) where
    abbrev task : Task
    task = record {
      limit = limit;
      keys = Enforced;
      schema = schema;
      table = table;
      params =
          params;
    }

    pub puts : (row : Row) (db : Trees) (w : Written) → Puts task row db (Ok w)
        → Inserted db (cast_row table row) w.trees
    puts row db w h =
        let edit = edit_of db table [] Given 0 (row ∷ []) in
        let step = went h in
        let it = one_step schema Enforced db step.0 edit (no_works schema Enforced 0 p.tree
        edit.news) step.1 in
        let ok : ◌≡◌ {A = Result Written (Option Error)} (Ok w) (Ok _) = step.2 in
        let is : w.trees ≡ step.0 = ap (λ (x : Written). x.trees) (same_value ok) in
        record {
          rows = ap (λ (t : Trees). t p.tree) is ∙ it.rows;
          fresh = it.fresh;
          keyed =
              it.keyed;
          tables = subst (Spares db) (sym is) (spared db step.0 it.tables);
        }

    clears : (row : Row) (db : Trees) (found : List Row) (w : Written)
        → AreConflicts None schema.indexes table (db p.tree) row found
        → Clears task Replace row db found (Ok w) → Replaced db row w.trees
    clears row db [] w conflicts h =
        let put = puts row db w h in
        record {
          found = [];
          conflicts = conflicts;
          rows = put.rows;
          fresh = put.fresh;
          keyed =
              put.keyed;
          tables = put.tables;
        }
    clears row db (x ∷ more) w conflicts h =
        let edit = edit_of db table (ids_of (x ∷ more)) Given 0 [] in
        let step = went h in
        let it = one_step schema Enforced db step.0 edit (quiet (taken_by db edit)) step.1 in
        let put = puts row step.0 w step.2 in
        record {
          found = x ∷ more;
          conflicts = conflicts;
          rows = put.rows ∙ ap (put_row (cast_row table row)) it.rows;
          fresh = subst (λ rows. are_fresh rows (cast_row table row ∷ []) ≡ true) it.rows put.fresh;
          keyed = put.keyed;
          tables = λ t listed apart. put.tables t listed apart
              ∙ spared db step.0 it.tables t listed apart;
        }

    judged : (row : Row) (db : Trees) (verdict : Option Refusal) (w : Written)
        → Judged task Replace [] row db verdict (Ok w) → Replaced db row w.trees
    judged row db None w h = clears row db h.0 w h.1 h.2
    judged row db (Some why) w h = absurd (let e = h in cc)

    tries : (row : Row) (db : Trees) (w : Written) → Tries task Replace [] row db (Ok w)
        → Replaced db row w.trees
    tries row db w (inl h) = absurd (let e = h.1 in cc)
    tries row db w (inr h) = judged row db h.0 w h.2

    -- the row that a source is made
    abbrev pub table_row : Trees → Row → Row
    table_row db source = with_rowid Chosen (db p.tree) (cast_row table (mended Replace table source))

    each : (source : Row) (top : ℤ) (db : Trees) (out : Written × ℤ)
        → TriesEach task Replace [] (source ∷ []) top (nothing db) (Ok out)
        → Replaced db (table_row db source) out.0.trees
    each source top db out h =
        let step = went h in
        let ok : ◌≡◌ {A = Result (Written × ℤ) (Option Error)} (Ok out) (Ok _) = step.2 in
        subst (Replaced db (table_row db source))
        (sym (ap (λ (x : Written × ℤ). x.0.trees) (same_value ok))) (tries (table_row db source) db
        step.0 step.1)

    inserts_or : (terms : List Term) (width : ℕ) (source : Row) (db : Trees) (w : Written)
        → value_rows (params ++ []) width (length terms / width) terms ≡ source ∷ []
        → InsertsOr task Replace [] (Values terms width) db (Ok w)
        → Replaced db (table_row db source) w.trees
    inserts_or terms width source db w one h =
        let given = went h in
        let counter = went given.2 in
        let all = went counter.2 in
        let end = went all.2 in
        let last : ◌≡◌ {A = Result Written (Option Error)} (Ok w) (Ok _) = end.2 in
        let next : ◌≡◌ {A = Result Trees (Option Error)} (Ok end.0) (Ok _) = end.1 in
        let rows = given.1.1 ∙ one in
        let top = count_of counter.0 in
        let it = each source top db all.0 (subst (λ rs. TriesEach task Replace [] rs top
        (nothing db) (Ok all.0)) rows all.1) in
        subst (Replaced db (table_row db source)) (sym (ap (λ (x : Written). x.trees) (same_value last)
        ∙ same_value next)) it

  pub concluded : (limit : Option ℕ) (params : Row) (mode : Mode) (w : Written) (tally : Tally)
      (after : Database)
      → Concludes (record {
        limit = limit;
        keys = Enforced;
        schema = schema;
        table = table;
        params =
            params;
      }) mode None w (Ok (tally, after)) → (after ≡ record {
        schema = schema;
        trees =
            w.trees;
      }) × (tally.rows ≡ Some (length w.rows))
  concluded limit params mode w tally after h =
      let tested = went h in
      let returned = went tested.2 in
      let ok : ◌≡◌ {A = Result (Tally × Database) (Option Error)} (Ok (tally, after)) (Ok _) =
      returned.2 in (
        ap (λ (p : Tally × Database). p.1) (same_value ok),
        ap (λ (p : Tally × Database). p.0.rows) (same_value ok),
      )

  pub concludes : (limit : Option ℕ) (params : Row) (mode : Mode) (w : Written) (tally : Tally)
      (after : Database)
      → Concludes (record {
        limit = limit;
        keys = Enforced;
        schema = schema;
        table = table;
        params =
            params;
      }) mode None w (Ok (tally, after)) → after ≡ record {
        schema = schema;
        trees =
            w.trees;
      }
  concludes limit params mode w tally after h =
      let tested = went h in
      let returned = went tested.2 in
      let ok : ◌≡◌ {A = Result (Tally × Database) (Option Error)} (Ok (tally, after)) (Ok _) =
      returned.2 in
      ap (λ (p : Tally × Database). p.1) (same_value ok)

  -- `INSERT OR REPLACE INTO .. VALUES (..)`, one row, of which `source` has the values
  pub replaces : (at : ℕ) (sql : List ℕ) (params source : Row) (terms : List Term) (width : ℕ)
      (old new : State) (count : ℕ)
      → slice_get schema.tables at ≡ Some table → IsQuiet
      → command_of (understood schema sql) ≡ InsertOr at Replace (Values terms width) []
      → IsPlain (understood schema sql)
      → value_rows (params ++ []) width (length terms / width) terms ≡ source ∷ []
      → old.now.schema ≡ schema → Executes sql params old new (Ok count)
      → Writes old new None (InsertOr at Replace (Values terms width) [])
      (statement_of sql (understood schema sql)) params count
      × (new.now.schema ≡ schema)
      × Replaced old.now.trees (with_rowid Chosen (old.now.trees p.tree)
      (cast_row table (mended Replace table source))) new.now.trees
  replaces at sql params source terms width old new count placed quiet is plain one has h =
      let command = InsertOr at Replace (Values terms width) [] in
      let text = statement_of sql (understood schema sql) in
      let w = runs_as sql params old new schema has command is plain count h in
      let does = subst (λ s. Does old.step_limit (mode_of old) params (record old.now {
        schema =
            s;
      }) text None command (Ok (w.tally, new.now))) has w.changed in
      let done = went (rw placed at does) in
      let now = concludes old.step_limit params (mode_of old) done.0 w.tally new.now done.2 in
      let it = inserts_or old.step_limit params quiet terms width source old.now.trees done.0 one
      done.1 in (
        w,
        ap (λ (d : Database). d.schema) now,
        subst (Replaced old.now.trees _)
            (sym (ap (λ (d : Database). d.trees) now)) it,
      )

  -- `INSERT INTO .. VALUES (..)`, one row
  inserts_one : (limit : Option ℕ) (params : Row) (terms : List Term) (width : ℕ) (source : Row)
      (db : Trees) (w : Written) → value_rows (params ++ []) width (length terms / width) terms ≡
      source ∷ []
      → Inserts (record {
        limit = limit;
        keys = Enforced;
        schema = schema;
        table = table;
        params =
            params;
      }) (Values terms width) db (Ok w)
      → Inserted db (with_rowid Chosen (db p.tree) (cast_row table source)) w.trees
  inserts_one limit params terms width source db w one h =
      let given = went h in
      let rest = went given.2 in
      let step = went rest.2 in
      let end = went step.2 in
      let last : ◌≡◌ {A = Result Written (Option Error)} (Ok w) (Ok _) = end.2 in
      let next : ◌≡◌ {A = Result Trees (Option Error)} (Ok end.0) (Ok _) = end.1 in
      let rows : given.0 ≡ source ∷ [] = given.1.1 ∙ one in
      let edit = edit_of db table [] Chosen 0 (source ∷ []) in
      let wrote = subst (λ rs. Edited schema Enforced db (edit_of db table [] Chosen 0 rs)
      (Ok step.0)) rows step.1 in
      let it = one_step schema Enforced db step.0 edit (no_works schema Enforced 0 p.tree edit.news)
      wrote in
      let is : w.trees ≡ step.0 = ap (λ (x : Written). x.trees) (same_value last) ∙ same_value next
      in
      record {
        rows = ap (λ (t : Trees). t p.tree) is ∙ it.rows;
        fresh = it.fresh;
        keyed = it.keyed;
        tables = subst (Spares db) (sym is) (spared db step.0 it.tables);
      }

  pub inserts : (at : ℕ) (sql : List ℕ) (params source : Row) (terms : List Term) (width : ℕ)
      (old new : State) (count : ℕ)
      → slice_get schema.tables at ≡ Some table
      → command_of (understood schema sql) ≡ Insert at (Values terms width)
      → IsPlain (understood schema sql)
      → value_rows (params ++ []) width (length terms / width) terms ≡ source ∷ []
      → old.now.schema ≡ schema → Executes sql params old new (Ok count)
      → Writes old new None (Insert at (Values terms width))
      (statement_of sql (understood schema sql)) params count
      × (new.now.schema ≡ schema)
      × Inserted old.now.trees (with_rowid Chosen (old.now.trees p.tree) (cast_row table source))
      new.now.trees
  inserts at sql params source terms width old new count placed is plain one has h =
      let command = Insert at (Values terms width) in
      let text = statement_of sql (understood schema sql) in
      let w = runs_as sql params old new schema has command is plain count h in
      let does = subst (λ s. Does old.step_limit (mode_of old) params (record old.now {
        schema =
            s;
      }) text None command (Ok (w.tally, new.now))) has w.changed in
      let done = went (rw placed at does) in
      let now = concludes old.step_limit params (mode_of old) done.0 w.tally new.now done.2 in
      let it = inserts_one old.step_limit params terms width source old.now.trees done.0 one done.1
      in (
        w,
        ap (λ (d : Database). d.schema) now,
        subst (Inserted old.now.trees _)
            (sym (ap (λ (d : Database). d.trees) now)) it,
      )

  -- ---- rowids still rise

  pub still_shaped : (old new : Trees) → AreShaped schema old → Spares old new
      → IsShaped shape.Table (new p.tree) → AreShaped schema new
  still_shaped old new shaped spares here t h = elim (cases_Bool (t.tree == p.tree)) [
    | inl same ↦ subst (λ at. IsShaped shape.Table (new at)) (sym (eqb-true t.tree p.tree same))
        here
    | inr other ↦ subst (IsShaped shape.Table)
        (sym (spares t h (λ e. eqb-false t.tree p.tree other e)))
        (shaped t h)
  ]

  pub replaced_shaped : (old new : Trees) (row : Row) → AreShaped schema old
      → IsShaped shape.Table (old p.tree) → Replaced old row new → AreShaped schema new
  replaced_shaped old new row shaped here it =
      still_shaped old new shaped it.tables (subst (IsShaped shape.Table) (sym it.rows)
      (IsShaped-put_row (cast_row table row) (without_all (old p.tree) (ids_of it.found))
      (and_parts _ _ it.keyed).0 (left_shaped (old p.tree) (ids_of it.found) here)))

  pub inserted_shaped : (old new : Trees) (row : Row) → AreShaped schema old
      → IsShaped shape.Table (old p.tree) → Inserted old row new → AreShaped schema new
  inserted_shaped old new row shaped here it =
      still_shaped old new shaped it.tables (subst (IsShaped shape.Table) (sym it.rows)
      (IsShaped-put_row row (old p.tree) (and_parts _ _ it.keyed).0 here))

  -- ---- DELETE

  pub record Deleted (old : Trees) (found : List Row) (new : Trees) : Type 0 where
    pub rows : new p.tree ≡ without_all (old p.tree) (ids_of found)
    pub tables : Spares old new

  pub deletes : (at : ℕ) (sql : List ℕ) (params : Row) (q : Program) (old new : State) (count : ℕ)
      → slice_get schema.tables at ≡ Some table → IsQuiet
      → command_of (understood schema sql) ≡ Delete at q → IsPlain (understood schema sql)
      → old.now.schema ≡ schema → Executes sql params old new (Ok count)
      → Writes old new None (Delete at q) (statement_of sql (understood schema sql)) params count
      × (new.now.schema ≡ schema)
      × (found : List Row)
      × Answers (record { schema = schema; trees = old.now.trees }) q params found
      × Deleted old.now.trees found new.now.trees
  deletes at sql params q old new count placed quiet is plain has h =
      let command = Delete at q in
      let text = statement_of sql (understood schema sql) in
      let w = runs_as sql params old new schema has command is plain count h in
      let does = subst (λ s. Does old.step_limit (mode_of old) params (record old.now {
        schema =
            s;
      }) text None command (Ok (w.tally, new.now))) has w.changed in
      let done = went (rw placed at does) in
      let now = concludes old.step_limit params (mode_of old) done.0 w.tally new.now done.2 in
      let found = went done.1 in
      let step = went found.2 in
      let last : ◌≡◌ {A = Result Written (Option Error)} (Ok done.0) (Ok _) = step.2 in
      let edit = edit_of old.now.trees table (ids_of found.0) Given 0 [] in
      let it = one_step schema Enforced old.now.trees step.0 edit
      (quiet (taken_by old.now.trees edit)) step.1 in
      let trees : new.now.trees ≡ step.0 = ap (λ (d : Database). d.trees) now ∙ ap
      (λ (x : Written). x.trees) (same_value last) in (
        w,
        ap (λ (d : Database). d.schema) now,
        found.0,
        found.1,
        record {
          rows = ap (λ (t : Trees). t p.tree) trees ∙ it.rows;
          tables =
              subst (Spares old.now.trees) (sym trees) (spared old.now.trees step.0 it.tables);
        },
      )

  pub deleted_shaped : (old new : Trees) (found : List Row) → AreShaped schema old
      → IsShaped shape.Table (old p.tree) → Deleted old found new → AreShaped schema new
  deleted_shaped old new found shaped here it = still_shaped old new shaped it.tables
      (subst (IsShaped shape.Table) (sym it.rows) (left_shaped (old p.tree) (ids_of found) here))
