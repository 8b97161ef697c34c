-- When a connection sees the tables of the store.
use Rattle.std.specs.Prelude.{◌≡◌, ℕ, IsTrue, List, [], ◌∷◌}
use Rattle.std.specs.Coded.{Coded-set, coded_bool, ×_prop, Π_prop, Unit-prop}
use Rattle.std.specs.List.{AllByRecursion-prop}
use Rattle.std.specs.Ordering.{Ordering-set}
use mathlib.Core.HLevel.{×₃_prop}
use Rattle.sqlite_value.specs.Order.{Row}
use Rattle.sqlite_trees.specs.Tree.{IsTable}
use Rattle.sqlite_trees.specs.View.{IsShaped}
use Rattle.sqlite_trees.specs.declared.store.Shape.TheVariants as shape
use Rattle.sqlite_schema.specs.contracts.schema.Schema.{the_row}
use Rattle.sqlite.specs.State.{HasCleanDisk, State}
use Rattle.store_tables.specs.Tables.{store_schema}
use Rattle.store_tables.specs.Store.{AreOrdered, HasMadeTables, IsStore}

-- The connection is open, and sees the tables of the store, with rising rowids.
abbrev pub HasTables : State → Type 0
HasTables s = IsTrue s.is_open × (s.now.schema ≡ store_schema) × AreOrdered s.now

-- The connection is open and sees a store, which is committed.
pub record IsSettledState (s : State) : Type 0 where
  pub is_open : IsTrue s.is_open
  pub store : IsStore s.now
  pub committed : s.now ≡ s.committed

-- The connection is open and sees the first so many tables of a store, which are committed.
pub record IsBegunState (made : ℕ) (s : State) : Type 0 where
  pub is_open : IsTrue s.is_open
  pub begun : HasMadeTables made s.now
  pub committed : s.now ≡ s.committed

table_prop : (rows : List Row) → IsProp (IsTable rows)
table_prop [] = Unit-prop
table_prop (r ∷ rows) = ×_prop (AllByRecursion-prop _ (λ x. Ordering-set _ _) rows)
    (table_prop rows)

shaped_prop : (rows : List Row) → IsProp (IsShaped shape.Table rows)
shaped_prop rows = ×_prop (table_prop rows) (AllByRecursion-prop _
    (λ r. Coded-set coded_bool _ _) rows)

pub HasTables-prop : (s : State) → IsProp (HasTables s)
HasTables-prop s = ×₃_prop (Coded-set coded_bool _ _) (Coded-set the_row.coded _ _) (Π_prop
    (λ t. Π_prop (λ h. shaped_prop (s.now.trees t.tree))))

pub fact_prop : (s : State) (faults : ℕ) → IsProp (faults ≡ 0 → HasCleanDisk s → HasTables s)
fact_prop s faults = Π_prop (λ none. Π_prop (λ clean. HasTables-prop s))
