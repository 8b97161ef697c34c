-- A statement that is refused is told neither as a failure of the disk nor as a text that is none.
use Rattle.std.proofs.Common.{◌≡◌, ◌⊎◌, ℕ, ℤ, Bool, true, false, List, [], ◌∷◌, Option, Some, None, Err, refl, subst, inl, inr, slice_get, is_some}
use Rattle.std.specs.Option.{option_to_list}
use Rattle.std.specs.Prelude.{MatchBool, option_map}
use Rattle.sqlite_value.specs.Order.{Row}
use Rattle.sqlite_trees.specs.Tree.{Trees}
use Rattle.sqlite_schema.specs.declared.command.Command.{Command}
use Rattle.sqlite_schema.specs.declared.command.Command.TheVariants as command
use Rattle.sqlite_schema.specs.declared.command.Conflict.{Conflict}
use Rattle.sqlite_schema.specs.declared.command.Conflict.TheVariants.{Abort, Ignore, Replace}
use Rattle.sqlite_schema.specs.declared.command.Returning.{Returning}
use Rattle.sqlite_schema.specs.declared.command.Source.{Source}
use Rattle.sqlite_schema.specs.declared.command.Source.TheVariants.{Values, Query}
use Rattle.sqlite_schema.specs.declared.command.Upsert.{Upsert}
use Rattle.sqlite_schema.specs.declared.program.Program.{Program}
use Rattle.sqlite_schema.specs.declared.schema.Among.{Among}
use Rattle.sqlite_schema.specs.declared.schema.Constraint.TheVariants.{ForeignKey}
use Rattle.sqlite_schema.specs.declared.schema.Keys.{Keys}
use Rattle.sqlite_schema.specs.declared.schema.Schema.{Schema}
use Rattle.sqlite_schema.specs.declared.schema.Table.{Table}
use Rattle.sqlite_schema.specs.Rules.{Refers}
use Rattle.sqlite_rules.specs.Calls.{ids_of}
use Rattle.sqlite_rules.specs.Edit.{Edit, edit_of}
use Rattle.sqlite_rules.specs.declared.error.Rowids.TheVariants.{Given}
use Rattle.sqlite_rules.specs.declared.error.Refusal.{Refusal}
use Rattle.sqlite_rules.specs.declared.error.Refusal.TheVariants as rule
use Rattle.sqlite_catalog.specs.declared.error.Refusal as alter
use Rattle.sqlite_catalog.specs.declared.error.Refusal.TheVariants as why
use Rattle.sqlite.specs.declared.error.Error.{Error}
use Rattle.sqlite.specs.declared.error.Error.TheVariants.{SqliteFailure, InvalidQuery}
use Rattle.sqlite.specs.declared.error.ErrorCode.TheVariants as code
use Rattle.sqlite.specs.declared.run.Mode.{Mode}
use Rattle.sqlite.specs.Effect.{Database, IsNoText, RefusesQuery, RefusesSource, RefusesToAlter, RefusesToRead, alter_error, edit_error}
use Rattle.sqlite.specs.Rows.{Part, Gives, Refuses, Then, Queried, Sourced, Edited, Written, Task, CounterIn, Counter, CountsIn, Counts, counting, Updates, Deletes, Inserts, Puts, Clears, Resolves, Meets, Upserts, Judged, Tries, TriesEach, InsertsOr}
use Rattle.sqlite.specs.Does.{Tally, AtPlace, Tested, MakesTable, MakesSequence, MakesIndex, MakesView, Leaves, Counted, Defines, Shows, Returns, Concludes, WritesRows, OnRows, Empties, UncountsIn, Drops, HoldWithout, OnTable, Redefines, Does}
use Rattle.std.specs.Prelude.{◌||◌}
use Rattle.store_tables.specs.Failing.{is_no_text, tells_failure}

-- the error tells of the disk, or of a text
abbrev pub tells : Error → Bool
tells e = tells_failure e || is_no_text e

-- no error with which the part is refused tells of the disk or of a text
pub record Spares {A : Type 0} (P : Part A) : Type 0 where
  pub spared : (e : Error) → P (Err (Some e)) → tells e ≡ false

gives : {A : Type 0} (a : A) → Spares (Gives a)
gives a = record { spared = λ e h. absurd (let k = h in cc) }

pub is_spared : (e f : Error) → e ≡ f → tells f ≡ false → tells e ≡ false
is_spared e f same never = rw same never

refuses : {A : Type 0} (f : Error) → tells f ≡ false → Spares {A = A} (Refuses f)
refuses f never = record { spared = λ e h. is_spared e f (let k = h in cc) never }

then : {A B : Type 0} (First : Part A) (Next : A → Part B) → Spares First → ((a : A) → Spares (Next a)) → Spares (Then First Next)
then First Next first next = record {
  spared = λ e h. elim h [
    | inl stop ↦ first.spared e (subst (λ s. First (Err s)) (let k = stop.2 in cc) stop.1)
    | inr went ↦ (next went.0).spared e went.2
  ];
}

either : {A : Type 0} (b : Bool) (P Q : Part A) → Spares P → Spares Q → (e : Error) → MatchBool b (P (Err (Some e))) (Q (Err (Some e))) → tells e ≡ false
either true P Q p q e h = p.spared e h
either false P Q p q e h = q.spared e h

-- ---- the rows of a table

edit_spared : (r : Refusal) → tells (edit_error r) ≡ false
edit_spared (rule.Violates it) = refl
edit_spared rule.Mismatch = refl
edit_spared rule.BadReference = refl
edit_spared rule.NoRowid = refl
edit_spared rule.TooDeep = refl

named : (e : Error) (r : Option Refusal) → Some e ≡ option_map edit_error r → tells e ≡ false
named e None h = absurd (let k = h in cc)
named e (Some r) h = is_spared e (edit_error r) (let k = h in cc) (edit_spared r)

edited : (schema : Schema) (keys : Keys) (db : Trees) (edit : Edit) → Spares (Edited schema keys db edit)
edited schema keys db edit = record { spared = λ e h. named e h.0 h.2 }

refused_query : (limit : Option ℕ) (db : Database) (p : Program) (params : Row) (e : Error) → RefusesQuery limit db p params e → tells e ≡ false
refused_query limit db p params e (inl h) = is_spared e _ h.0 refl
refused_query limit db p params e (inr (inl h)) = is_spared e _ h.0 refl
refused_query limit db p params e (inr (inr h)) = is_spared e _ h.0 refl

queried : (limit : Option ℕ) (db : Database) (p : Program) (params : Row) → Spares (Queried limit db p params)
queried limit db p params = record { spared = λ e h. refused_query limit db p params e h }

unsourced : (limit : Option ℕ) (db : Database) (params : Row) (from : Source) (e : Error) → RefusesSource limit db params from e → tells e ≡ false
unsourced limit db params (Values terms width) e (inl h) = is_spared e _ h.0 refl
unsourced limit db params (Values terms width) e (inr h) = is_spared e _ h.0 refl
unsourced limit db params (Query q) e h = refused_query limit db q params e h

sourced : (limit : Option ℕ) (db : Database) (params : Row) (from : Source) → Spares (Sourced limit db params from)
sourced limit db params from = record { spared = λ e h. unsourced limit db params from e h }

module _ (task : Task) where
  open task use {limit, keys, schema, table, params}

  counter_in : (db : Trees) (counters : Option Table) → Spares (CounterIn task db counters)
  counter_in db None = refuses InvalidQuery refl
  counter_in db (Some counters) = gives _

  counter : (db : Trees) → Spares (Counter task db)
  counter db = record { spared = λ e h. either table.is_counted (CounterIn task db _) (Gives None) (counter_in db _) (gives None) e h }

  counts_in : (db : Trees) (count : Option Row) (top : ℤ) (counters : Option Table) → Spares (CountsIn task db count top counters)
  counts_in db count top None = refuses InvalidQuery refl
  counts_in db count top (Some counters) = edited schema keys db (counting db table counters top count)

  counts : (db : Trees) (count : Option Row) (top : ℤ) → Spares (Counts task db count top)
  counts db count top = record { spared = λ e h. either _ (CountsIn task db count top _) (Gives db) (counts_in db count top _) (gives db) e h }

  updates : (q : Program) (given : Row) (db : Trees) → Spares (Updates task q given db)
  updates q given db = then _ _ (queried limit _ q given) (λ rows. then _ _ (edited schema keys db _) (λ next. gives _))

  deletes : (q : Program) (db : Trees) → Spares (Deletes task q db)
  deletes q db = then _ _ (queried limit _ q params) (λ rows. then _ _ (edited schema keys db _) (λ next. gives _))

  inserts : (from : Source) (db : Trees) → Spares (Inserts task from db)
  inserts from db = then _ _ (sourced limit _ _ from) (λ rows. then _ _ (counter db) (λ count.
      then _ _ (edited schema keys db _) (λ mid. then _ _ (counts mid count _) (λ next. gives _))))

  puts : (new : Row) (db : Trees) → Spares (Puts task new db)
  puts new db = then _ _ (edited schema keys db _) (λ next. gives _)

  clears : (way : Conflict) (new : Row) (db : Trees) (found : List Row) → Spares (Clears task way new db found)
  clears way new db [] = puts new db
  clears Abort new db (x ∷ more) = puts new db
  clears Ignore new db (x ∷ more) = gives _
  clears Replace new db (x ∷ more) = then _ _ (edited schema keys db _) (puts new)

  resolves : (new : Row) (db : Trees) (there : Row) (q : Option Program) → Spares (Resolves task new db there q)
  resolves new db there None = gives _
  resolves new db there (Some q) = updates q _ db

  meets : (Otherwise : Part Written) → Spares Otherwise → (new : Row) (db : Trees) (clause : Upsert) (found : List Row) → Spares (Meets task Otherwise new db clause found)
  meets Otherwise so new db clause [] = so
  meets Otherwise so new db clause (there ∷ more) = resolves new db there clause.update

  upserts : (way : Conflict) (new : Row) (db : Trees) (clauses : List Upsert) → Spares (Upserts task way new db clauses)
  upserts way new db [] = record { spared = λ e h. (clears way new db h.0).spared e h.2 }
  upserts way new db (clause ∷ more) = record { spared = λ e h. (meets (Upserts task way new db more) (upserts way new db more) new db clause h.0).spared e h.2 }

  judged : (way : Conflict) (clauses : List Upsert) (new : Row) (db : Trees) (verdict : Option Refusal) → Spares (Judged task way clauses new db verdict)
  judged way clauses new db None = record { spared = λ e h. (upserts way new db clauses).spared e h }
  judged way clauses new db (Some r) = record { spared = λ e h. either _ (Gives _) (Refuses (edit_error r)) (gives _) (refuses (edit_error r) (edit_spared r)) e h }

  tries : (way : Conflict) (clauses : List Upsert) (new : Row) (db : Trees) → Spares (Tries task way clauses new db)
  tries way clauses new db = record {
    spared = λ e h. elim h [
      | inl out ↦ (refuses {A = Written} (SqliteFailure code.NoRowid) refl).spared e out.1
      | inr went ↦ (judged way clauses new db went.0).spared e went.2
    ];
  }

  tries_each : (way : Conflict) (clauses : List Upsert) (rows : List Row) (top : ℤ) (done : Written) → Spares (TriesEach task way clauses rows top done)
  tries_each way clauses [] top done = gives _
  tries_each way clauses (source ∷ more) top done = then _ _ (tries way clauses _ done.trees) (λ one. tries_each way clauses more _ _)

  inserts_or : (way : Conflict) (clauses : List Upsert) (from : Source) (db : Trees) → Spares (InsertsOr task way clauses from db)
  inserts_or way clauses from db = then _ _ (sourced limit _ _ from) (λ rows. then _ _ (counter db) (λ count.
      then _ _ (tries_each way clauses rows _ _) (λ done. then _ _ (counts done.0.trees count done.1) (λ next. gives _))))

-- ---- keys, tables and views

tested : (mode : Mode) (Holds : Among → Type 0) → Spares (Tested mode Holds)
tested mode Holds = record { spared = λ e h. is_spared e (SqliteFailure (code.ConstraintViolation ForeignKey)) (let k = h.1 in cc) refl }

alter_spared : (r : alter.Refusal) → tells (alter_error r) ≡ false
alter_spared (why.Invalid it) = refl
alter_spared why.NameTaken = refl
alter_spared why.BadName = refl
alter_spared why.BadKey = refl
alter_spared why.BadText = refl
alter_spared why.TooBig = refl
alter_spared (why.Violates it) = refl

altered : (Is : alter.Refusal → Type 0) (e : Error) → RefusesToAlter Is e → tells e ≡ false
altered Is e h = is_spared e _ h.2 (alter_spared h.0)

unmade : (text : List ℕ) (Is : alter.Refusal → Type 0) (e : Error) → IsNoText text e ⊎ RefusesToAlter Is e → tells e ≡ false
unmade text Is e (inl h) = is_spared e _ h.1 refl
unmade text Is e (inr h) = altered Is e h

makes_table : (text : List ℕ) (db : Database) → Spares (MakesTable text db)
makes_table text db = record { spared = λ e h. unmade text _ e h }

makes_sequence : (db : Database) → Spares (MakesSequence db)
makes_sequence db = record { spared = λ e h. either _ (MakesTable _ db) (Gives db) (makes_table _ db) (gives db) e h }

makes_index : (text : List ℕ) (db : Database) (table : Table) → Spares (MakesIndex text db table)
makes_index text db table = record { spared = λ e h. unmade text _ e h }

makes_view : (text : List ℕ) (db : Database) → Spares (MakesView text db)
makes_view text db = record { spared = λ e h. unmade text _ e h }

at_place : {X A : Type 0} (P : X → Part A) → ((x : X) → Spares (P x)) → (found : Option X) → Spares (AtPlace P found)
at_place P so None = refuses InvalidQuery refl
at_place P so (Some x) = so x

counted : (limit : Option ℕ) (rows : List Row) → Spares (Counted limit rows)
counted limit rows = record { spared = λ e h. is_spared e (SqliteFailure code.OperationInterrupted) (let k = h.1 in cc) refl }

leaves : (schema : Schema) (db : Trees) (Refused : Error → Type 0) → ((e : Error) → Refused e → tells e ≡ false) → Spares (Leaves schema db Refused)
leaves schema db Refused so = record { spared = so }

defines : (mode : Mode) (Makes : Part Database) → Spares Makes → Spares (Defines mode Makes)
defines mode Makes so = then _ _ so (λ after. gives _)

module _ (task : Task) where
  open task use {limit, keys, schema, table, params}

  shows : (what : Returning) (now : Trees) (rows : List Row) → Spares (Shows task what now rows)
  shows what now [] = gives _
  shows what now (row ∷ more) = then _ _ (sourced limit _ _ what.row) (λ first. then _ _ (shows what now more) (λ others. gives _))

  returns : (w : Written) (what : Option Returning) → Spares (Returns task w what)
  returns w None = gives _
  returns w (Some what) = then _ _ (shows what w.trees w.rows) (λ rows. then _ _ (counted limit rows) (λ done. gives _))

  concludes : (mode : Mode) (returning : Option Returning) (w : Written) → Spares (Concludes task mode returning w)
  concludes mode returning w = then _ _ (tested mode (λ among. Refers among schema w.trees)) (λ in_doubt. then _ _ (returns w returning) (λ rows. gives _))

  writes_rows : (db : Trees) (it : Command) → Spares (WritesRows task db it)
  writes_rows db (command.Insert at from) = inserts task from db
  writes_rows db (command.InsertOr at way from clauses) = inserts_or task way clauses from db
  writes_rows db (command.Update at q) = updates task q params db
  writes_rows db (command.Delete at q) = deletes task q db
  writes_rows db _ = refuses InvalidQuery refl

  on_rows : (mode : Mode) (returning : Option Returning) (it : Command) (db : Trees) → Spares (OnRows task mode returning it db)
  on_rows mode returning it db = then _ _ (writes_rows db it) (concludes mode returning)

  empties : (db : Trees) → Spares (Empties task db)
  empties db =
      let all = edit_of db table (ids_of (db table.tree)) Given 0 [] in
      record { spared = λ e h. either _ (Edited schema keys db all) (Gives db) (edited schema keys db all) (gives db) e h }

  uncounts_in : (db : Trees) (counters : Option Table) → Spares (UncountsIn task db counters)
  uncounts_in db None = gives db
  uncounts_in db (Some counters) = then _ _ (counter task db) (λ count. edited schema keys db (edit_of db counters (ids_of (option_to_list count)) Given 0 []))

  drops : (mode : Mode) (db : Trees) → Spares (Drops task mode db)
  drops mode db = then _ _ (empties db) (λ emptied. then _ _ (uncounts_in emptied _) (λ now. then _ _ (tested mode (HoldWithout task now)) (λ in_doubt.
      then _ _ (leaves _ now _ (λ e none. absurd none)) (λ after. gives _))))

module _ (limit : Option ℕ) (mode : Mode) (params : Row) (db : Database) where
  on_table : (at : ℕ) (P : Task → Part (Tally × Database)) → ((task : Task) → Spares (P task)) → Spares (OnTable limit mode params db at P)
  on_table at P so = at_place _ (λ table. so _) (slice_get db.schema.tables at)

  redefines : (text : List ℕ) (it : Command) → Spares (Redefines limit mode params db text it)
  redefines text command.CreateTable = defines mode _ (then _ _ (makes_table text db) makes_sequence)
  redefines text (command.CreateIndex at) = on_table at _ (λ task. defines mode _ (makes_index text db task.table))
  redefines text command.CreateView = defines mode _ (makes_view text db)
  redefines text (command.DropTable at) = on_table at _ (λ task. drops task mode db.trees)
  redefines text (command.DropIndex at) = at_place _ (λ index. defines mode _ (leaves _ db.trees _ (λ e h. altered _ e h))) (slice_get db.schema.indexes at)
  redefines text (command.DropView at) = at_place _ (λ view. defines mode _ (leaves _ db.trees _ (λ e h. is_spared e _ h.1 refl))) (slice_get db.schema.views at)
  redefines text _ = refuses InvalidQuery refl

  defined : (text : List ℕ) (returning : Option Returning) (it : Command) (e : Error) → MatchBool (is_some returning) (Refuses {A = Tally × Database} InvalidQuery (Err (Some e))) (Redefines limit mode params db text it (Err (Some e))) → tells e ≡ false
  defined text returning it e h = either (is_some returning) (Refuses InvalidQuery) (Redefines limit mode params db text it) (refuses InvalidQuery refl) (redefines text it) e h

  -- whatever the command is
  pub does : (text : List ℕ) (returning : Option Returning) (it : Command) → Spares (Does limit mode params db text returning it)
  does text returning (command.Insert at from) = on_table at _ (λ task. on_rows task mode returning (command.Insert at from) db.trees)
  does text returning (command.InsertOr at way from clauses) = on_table at _ (λ task. on_rows task mode returning (command.InsertOr at way from clauses) db.trees)
  does text returning (command.Update at q) = on_table at _ (λ task. on_rows task mode returning (command.Update at q) db.trees)
  does text returning (command.Delete at q) = on_table at _ (λ task. on_rows task mode returning (command.Delete at q) db.trees)
  does text returning it = record { spared = λ e h. defined text returning it e h }

-- what a query is refused with
pub reads : (limit : Option ℕ) (it : Command) (db : Database) (params : Row) (e : Error) → RefusesToRead limit it db params e → tells e ≡ false
reads limit (command.Select q names) db params e h = refused_query limit db q params e h
reads limit (command.Rows values width names) db params e h = is_spared e _ h.0 refl
reads limit _ db params e h = is_spared e _ h refl
