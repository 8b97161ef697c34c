-- What is known of a connection that sees the tables.
use Rattle.std.proofs.Common.{◌≡◌, ◌∙◌, ◌≢◌, Bool, ap, arith, false, inl, inr, refl, subst, sym}
use Rattle.std.proofs.Common.{true}
use Rattle.std.proofs.Common.{true≢false}
use Rattle.std.specs.Prelude.{IsTrue}
use Rattle.request_book.specs.declared.keeper.KeepFault.{KeepFault}
use Rattle.request_book.specs.declared.keeper.KeepFault.TheVariants.{NoMemory, Store}
use Rattle.sqlite_trees.specs.Tree.{Trees}
use Rattle.sqlite_trees.specs.View.{IsShaped}
use Rattle.sqlite_trees.specs.Objects.{catalog_tree}
use Rattle.sqlite_trees.specs.declared.store.Shape.TheVariants as shape
use Rattle.sqlite_catalog.specs.Listing.{Lists}
use Rattle.sqlite_catalog.proofs.ReadLemmas.{lists_once}
use Rattle.sqlite_rules.specs.Lists.{Has}
use Rattle.sqlite.specs.Effect.{Database}
use Rattle.sqlite.specs.State.{HasCleanDisk, IsLive, State, Survives}
use Rattle.store_model.specs.Contents.{Contents}
use Rattle.store_tables.specs.Store.{Becomes, IsStoreWith}
use Rattle.store_tables.specs.Tables.{store_schema}
use Rattle.store_tables.proofs.Living.{lives_in, store_of, stored_as}
use Rattle.builder_store.specs.Inner.Tables.{HasTables, IsSettledState}
use Rattle.builder_store.specs.Opening.{AreDeclared}

-- who sees the tables while it is open sees a store
pub settled_from : (s : State) → IsLive s → (IsTrue s.is_open → s.now ≡ s.committed) → HasTables s
    → IsSettledState s
settled_from s live committed has = record {
  is_open = has.0;
  store = store_of s.now (record {
    schema = has.1;
    sound = (live has.0).0;
    ordered = λ t h. has.2 t (subst (λ d. Has d.tables t) (sym has.1) h);
  });
  committed = committed has.0;
}

-- and who sees a store sees its tables
pub tables_from : (s : State) → IsSettledState s → HasTables s
tables_from s is =
    let lives = lives_in s.now is.store in (
      is.is_open,
      lives.schema_is,
      λ t h. lives.ordered t (subst
          (λ d. Has d.tables t) lives.schema_is h),
    )

-- a call that commits nothing leaves what was committed
pub quiet_commit : (old new : State) → HasCleanDisk new → ((db : Trees) → old.may_leave db
    → db ≡ old.committed.trees) → new.may_leave new.committed.trees
    → Survives old new (λ _. ⊥) → new.committed.trees ≡ old.committed.trees
quiet_commit old new clean settled stays call = elim (call.crash clean new.committed.trees stays) [
  | inl was ↦ settled new.committed.trees was
  | inr none ↦ absurd none
]

-- the tables are still there where the trees are those that were
pub tables_stay : (old new : State) → IsSettledState old → IsLive old → IsLive new →
    IsTrue new.is_open
    → (IsTrue new.is_open → new.now ≡ new.committed)
    → new.committed.trees ≡ old.committed.trees → HasTables new
tables_stay old new was lived live is_open committed same =
    let trees : new.now.trees ≡ old.now.trees = ap (λ db. db.trees) (committed is_open) ∙ same ∙ ap
    (λ db. db.trees) (sym was.committed) in
    let before = lives_in old.now was.store in
    let listed : Lists (old.now.trees catalog_tree) new.now.schema = subst (λ db. Lists
    (db catalog_tree) new.now.schema) trees (live is_open).0.lists in
    let schema : new.now.schema ≡ old.now.schema = lists_once
    (old.now.trees catalog_tree) new.now.schema old.now.schema listed
    (lived was.is_open).0.lists in
    let is : new.now.schema ≡ store_schema = schema ∙ before.schema_is in (
      is_open,
      is,
      λ t h. subst (λ db. IsShaped shape.Table (db t.tree)) (sym trees)
          (before.ordered t (subst (λ d. Has d.tables t) is h)),
    )

-- a fault is one of two
pub wants_memory : (fault : KeepFault) → fault ≢ Store → fault ≡ NoMemory
wants_memory NoMemory h = refl
wants_memory Store h = absurd (h refl)

-- a store that isn't broken is open
pub open_if : (is_open broken : Bool) → (is_open ≡ false → IsTrue broken) → broken ≡ false
    → IsTrue is_open
open_if true broken shut whole = refl
open_if false broken shut whole = absurd (true≢false (sym (shut refl) ∙ whole))

-- the trees of a store have all tables declared
pub declared_in : (after : Contents) (db : Trees) → IsStoreWith after db → AreDeclared 8 db
declared_in after db is = (omega arith, (lives_in _ is.store).sound)

-- a store that was made in a transaction of its own is committed
pub committed_store : (s : State) (after : Contents) → s.now ≡ s.committed → Becomes s.now after
    → IsStoreWith after s.committed.trees
committed_store s after same is = stored_as s.now after is s.committed.trees
    (ap (λ (d : Database). d.trees) (sym same))
