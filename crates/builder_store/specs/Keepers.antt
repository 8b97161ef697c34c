-- What a keeper over a store holds, and what is left where it is not opened.
use Rattle.std.specs.Prelude.{◌<◌, [], cond, nat_lt}
use Rattle.sqlite_trees.specs.Tree.{Trees}
use Rattle.sqlite_trees.specs.View.{IsClean}
use Rattle.sqlite_trees.specs.declared.store.Store.{Ghosts}
use Rattle.sqlite.specs.Held.{state}
use Rattle.store_rows.specs.Stands.{RingContent}
use Rattle.builder_store.specs.Standing.{content_told, stands_for_one}
use Rattle.builder_store.specs.declared.keeper.SqlKeeper.{SqlKeeper}
use Rattle.builder_store.specs.declared.adopting.Left.{Left}
use Rattle.builder_store.specs.declared.adopting.Left.TheVariants as left

module _ {S : Type 0} {g : Ghosts S} where
  -- The content for which the tables stand, as the connection shows them; and where the store has
  -- failed, as the call in which it failed found them.
  abbrev pub content_of_keeper : SqlKeeper S g → RingContent
  content_of_keeper k =
      content_told (state g (cond (nat_lt 0 k.faults) k.last.value k.conn)).committed.trees
      (state g k.conn).is_clean
      (λ clean. stands_for_one (k.holds clean))
      (record { state = k.rings; book = []; hour = k.hour })

module _ {S : Type 0} (g : Ghosts S) where
  -- The disk of what is left has failed or refused.
  abbrev pub HasMetFaults : Left S → Type 0
  HasMetFaults (left.Connection conn) = 0 < g.faults conn.store
  HasMetFaults (left.Store store) = 0 < g.faults store

  -- The disk of what is left returned what was written.
  abbrev pub IsCleanLeft : Left S → Type 0
  IsCleanLeft (left.Connection conn) = IsClean (g.view conn.store)
  IsCleanLeft (left.Store store) = IsClean (g.view store)

  -- What a crash may leave of it.
  abbrev pub left_may_leave : Left S → Trees → Type 0
  left_may_leave (left.Connection conn) = g.recovers conn.store
  left_may_leave (left.Store store) = g.recovers store
