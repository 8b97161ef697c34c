-- A database that is a store, and what the calls do to it.
use Rattle.std.specs.Prelude.{◌≡◌, ℕ, Bool, cond, nat_lt, Result, OnOk, OnErr, IfOk, IsTrue}
use Rattle.std.specs.declared.cmp.Ordering.{Ordering}
use Rattle.std.specs.FinMap.{FinMap, empty}
use Rattle.sqlite_trees.specs.Tree.{Trees}
use Rattle.sqlite_trees.specs.View.{IsShaped}
use Rattle.sqlite_trees.specs.declared.store.Shape.TheVariants as shape
use Rattle.sqlite_schema.specs.declared.schema.Table.{Table}
use Rattle.sqlite_rules.specs.Lists.{Has}
use Rattle.sqlite.specs.Effect.{Database, IsDatabase}
use Rattle.sqlite.specs.State.{State, HasCleanDisk, IsUnchanged, KeepsCommit, Survives}
use Rattle.sqlite.specs.declared.error.Error.{Error}
use Rattle.store_tables.specs.Tables.{store_schema, schema_of_first}
use Rattle.store_model.specs.Contents.{Contents}
use Rattle.store_tables.specs.Contents.{contents_of}

-- The rowids of each table rise. A `Connection` keeps this true, and its contracts do not tell.
abbrev pub AreOrdered : Database → Type 0
AreOrdered db = (t : Table) → Has db.schema.tables t → IsShaped shape.Table (db.trees t.tree)

-- The database has the tables of the store and no other, and obeys their rules.
pub record IsStoreOf (db : Database) : Type 0 where
  pub schema : db.schema ≡ store_schema
  pub sound : IsDatabase db
  pub ordered : (t : Table) → Has store_schema.tables t → IsShaped shape.Table (db.trees t.tree)

-- The same, closed to searches.
unfoldable pub IsStore : Database → Type 0
IsStore db = IsStoreOf db

-- A clean connection sees a store.
abbrev pub SeesStore : State → Type 0
SeesStore s = HasCleanDisk s → IsStore s.now

-- The database is a store that contains this.
pub record Becomes (new : Database) (after : Contents) : Type 0 where
  pub store : IsStore new
  pub contents : contents_of new.trees ≡ after

-- These are the trees of a store that contains this.
abbrev pub IsStoreWith : Contents → Trees → Type 0
IsStoreWith after trees = Becomes (record { schema = store_schema; trees = trees }) after

-- A call within a transaction: where it answers Ok, the database is a store that contains
-- `after`, and the transaction goes on. Whatever it answers, nothing is committed, and a crash
-- leaves what it could leave before.
pub record Reaches (old new : State) {A : Type 0} (result : Result A Error) (after : Contents) :
    Type 0 where
  pub done : HasCleanDisk new → OnOk result (Becomes new.now after)
  pub inside : HasCleanDisk new → OnOk result (new.in_transaction ≡ old.in_transaction)
  pub kept : HasCleanDisk new → KeepsCommit old new
  pub survives : Survives old new (λ _. ⊥)

-- A call that reads of these contents: where it answers Ok, the answer is so of them, and nothing
-- changed. Whatever it answers, nothing is committed.
pub record ReadsContents (c : Contents) (old new : State) {A : Type 0} (result : Result A Error)
    (IsSo : Contents → A → Type 0) : Type 0 where
  pub answer : HasCleanDisk new → IfOk result (IsSo c)
  pub same : HasCleanDisk new → OnOk result (IsUnchanged old new)
  pub survives : Survives old new (λ _. ⊥)

-- A call that reads of what the tables contain.
abbrev pub ReadsTables : State → State → {A : Type 0} → Result A Error → (Contents → A → Type 0)
    → Type 0
ReadsTables old new result IsSo = ReadsContents (contents_of old.now.trees) old new result IsSo

-- A transaction of its own: where it answers Ok, the database is a store that contains `after`,
-- and that is committed. Where it answers Err and the store is still open, nothing was done. A
-- crash leaves what it could leave before, or the trees of a store that contains `after`.
pub record CommitsTables (old new : State) {A : Type 0} (result : Result A Error) (after : Contents)
    : Type 0 where
  pub done : HasCleanDisk new → OnOk result (IsTrue new.is_open × (new.now ≡ new.committed)
      × Becomes new.now after)
  pub none : HasCleanDisk new → IsTrue new.is_open → OnErr result ((new.now ≡ new.committed)
      × (new.committed ≡ old.committed))
  pub survives : Survives old new (IsStoreWith after)

-- ---- a store whose tables are being made

-- The database has the first so many tables of the store and no other, obeys their rules, and its
-- rowids rise.
pub record HasMadeTables (made : ℕ) (db : Database) : Type 0 where
  pub schema : db.schema ≡ schema_of_first made
  pub sound : IsDatabase db
  pub ordered : (t : Table) → Has (schema_of_first made).tables t
      → IsShaped shape.Table (db.trees t.tree)

-- A connection is open, and sees the first so many tables of a store.
pub record SeesFirst (made : ℕ) (s : State) : Type 0 where
  pub is_open : IsTrue s.is_open
  pub begun : HasMadeTables made s.now

-- A clean connection is so.
abbrev pub SeesTables : ℕ → State → Type 0
SeesTables made s = HasCleanDisk s → SeesFirst made s

-- The map that a table stands for where it is made, and else the empty one.
abbrev so_far : {K V : Type 0} {R : K → K → Ordering} → Bool → FinMap R V → FinMap R V
so_far is_made m = cond is_made m empty

-- What the first so many tables contain; the others stand for nothing.
abbrev pub begun_contents : ℕ → Trees → Contents
begun_contents made trees = let c = contents_of trees in record {
  meta = so_far (nat_lt 0 made) c.meta;
  rings = so_far (nat_lt 1 made) c.rings;
  devices = so_far (nat_lt 2 made) c.devices;
  seats = so_far (nat_lt 3 made) c.seats;
  moved = so_far (nat_lt 4 made) c.moved;
  published = so_far (nat_lt 5 made) c.published;
  requests = so_far (nat_lt 6 made) c.requests;
  parts = so_far (nat_lt 7 made) c.parts;
}
