-- A store is a database that lives by the schema of the store.
use Rattle.std.proofs.Common.{◌≡◌, ◌∙◌, ℕ, ◌==◌, if◌then◌else◌, List, ap, inl, inr, subst, sym}
use Rattle.std.specs.FinMap.{FinMap}
use Rattle.std.proofs.lemmas.Bool.{cases_Bool, eqb-true, eqb-false}
use Rattle.sqlite_value.specs.Order.{Row}
use Rattle.sqlite_trees.specs.Tree.{Trees}
use Rattle.sqlite_rules.specs.Lists.{Has}
use Rattle.sqlite.specs.Effect.{Database}
use Rattle.sqlite.specs.Table.{Table}
use Rattle.store_model.specs.Contents.{Contents}
use Rattle.store_tables.specs.Plain.{table_of}
use Rattle.store_tables.specs.Tables.{store_schema}
use Rattle.store_tables.specs.Entries.{Layout, map_of, meta_rows, ring_rows, device_rows, seat_rows}
use Rattle.store_tables.specs.Entries.{moved_rows, published_rows, request_rows, part_rows}
use Rattle.store_tables.specs.Contents.{contents_of}
use Rattle.store_tables.specs.Store.{Becomes, HasMadeTables, IsStore, IsStoreOf, IsStoreWith}
use Rattle.store_tables.proofs.Plain.Facts.{Facts, Lives, Turns}
use Rattle.store_tables.proofs.Tables.Facts.{meta_facts, ring_facts, device_facts, seat_facts}
use Rattle.store_tables.proofs.Tables.Facts.{moved_facts, published_facts, request_facts}
use Rattle.store_tables.proofs.Tables.Facts.{part_facts}

pub lives_in : (db : Database) → IsStore db → Lives store_schema db
unfolding IsStore
lives_in db is = record { schema_is = is.schema; sound = is.sound; ordered = is.ordered }

store_from : (db : Database) → Lives store_schema db → IsStore db
unfolding IsStore
store_from db it = record { schema = it.schema_is; sound = it.sound; ordered = it.ordered }

pub store_of : (db : Database) → IsStoreOf db → IsStore db
unfolding IsStore
store_of db it = it

-- once all tables are made, it is a store
pub store_begun : (db : Database) → HasMadeTables 8 db → IsStore db
unfolding IsStore
store_begun db it = record { schema = it.schema; sound = it.sound; ordered = it.ordered }

-- it is one by its trees alone
pub stored_as : (db : Database) (after : Contents) → Becomes db after → (trees : Trees)
    → trees ≡ db.trees → IsStoreWith after trees
stored_as db after is trees same = subst (IsStoreWith after) (sym same)
    (subst (λ s. Becomes (record { schema = s; trees = db.trees }) after)
    (lives_in db is.store).schema_is is)

-- trees that are the same in each table of the store contain the same
module _ (a b : Trees) (same : (t : Table) → Has store_schema.tables t → a t.tree ≡ b t.tree) where
  map_same : {K V : Type 0} (l : Layout K V) → Facts store_schema l
      → map_of l (a l.plain.tree) ≡ map_of l (b l.plain.tree)
  map_same l f = ap (map_of l) (same (table_of l.plain) f.listed)

  contents_same : contents_of a ≡ contents_of b
  contents_same = λ j. record {
    meta = map_same meta_rows meta_facts j;
    rings = map_same ring_rows ring_facts j;
    devices = map_same device_rows device_facts j;
    seats = map_same seat_rows seat_facts j;
    moved = map_same moved_rows moved_facts j;
    published = map_same published_rows published_facts j;
    requests = map_same request_rows request_facts j;
    parts = map_same part_rows part_facts j;
  }

-- the trees with these rows in one of them
abbrev with_rows : Trees → ℕ → List Row → Trees
with_rows trees at rows tree = if tree == at then rows else trees tree

-- where one table turned, only its part of the contents did
pub becomes : {K V : Type 0} (l : Layout K V) (put : Contents → FinMap l.cmp V → Contents)
    → ((trees : Trees) (rows : List Row) → contents_of (with_rows trees l.plain.tree rows)
    ≡ put (contents_of trees) (map_of l rows))
    → (old new : Database) (now : FinMap l.cmp V) → Turns store_schema l old new now
    → Becomes new (put (contents_of old.trees) now)
becomes l put part old new now it =
    let at = l.plain.tree in
    let others = contents_same new.trees (with_rows old.trees at (new.trees at)) (λ t listed.
    elim (cases_Bool (t.tree == at)) [
      | inl same ↦ rw same (ap new.trees (eqb-true t.tree at same))
      | inr other ↦ rw other (it.others t listed (λ e. eqb-false t.tree at other e))
    ]) in
    record {
      store = store_from new it.lives;
      contents = others ∙ part old.trees (new.trees at) ∙ ap (put (contents_of old.trees)) it.map;
    }
