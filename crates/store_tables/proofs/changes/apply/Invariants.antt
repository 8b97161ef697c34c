use Rattle.std.proofs.Common.{◌≡◌, drop}
use Rattle.sqlite.specs.Held.{state}
use Rattle.sqlite.specs.State.{HasCleanDisk, KeepsCommit, Survives}
use Rattle.store_model.specs.Changes.{changed_all}
use Rattle.store_tables.specs.Contents.{contents_of}
use Rattle.store_tables.specs.Store.{SeesStore}
use Rattle.store_tables.proofs.changes.apply.Given as goal

-- the changes so far are made, and what is left goes on from there
abbrev pub invariant-changes : goal.invariant-changes
invariant-changes g l =
    let old = state g.S.Store l.fn.tx.conn.now in
    let now = state g.S.Store l.tx.conn.now in
    record {
      same_reference : l.tx.conn.ghost_name ≡ l.fn.tx.conn.ghost_name;
      store : SeesStore now;
      made : HasCleanDisk now
          → changed_all (contents_of now.now.trees) (drop l.change-index l.changes)
          ≡ changed_all (contents_of old.now.trees) l.changes;
      inside : HasCleanDisk now → now.in_transaction ≡ old.in_transaction;
      kept : HasCleanDisk now → KeepsCommit old now;
      survives : Survives old now (λ _. ⊥);
    }
