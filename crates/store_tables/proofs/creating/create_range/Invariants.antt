use Rattle.std.proofs.Common.{◌≡◌}
use Rattle.sqlite.specs.Held.{state}
use Rattle.sqlite.specs.State.{HasCleanDisk, KeepsCommit, Survives}
use Rattle.store_tables.specs.Store.{HasMadeTables, begun_contents}
use Rattle.store_tables.proofs.creating.create_range.Given as goal

-- the tables before this one are there, with what they contained
abbrev pub invariant-tables : goal.invariant-tables
invariant-tables g l =
    let old = state g.S.Store l.fn.tx.conn.now in
    let now = state g.S.Store l.tx.conn.now in
    record {
      same_reference : l.tx.conn.ghost_name ≡ l.fn.tx.conn.ghost_name;
      begun : HasCleanDisk now → HasMadeTables l.at now.now;
      same : HasCleanDisk now → begun_contents l.at now.now.trees
          ≡ begun_contents l.fn.made old.now.trees;
      inside : HasCleanDisk now → now.in_transaction ≡ old.in_transaction;
      kept : HasCleanDisk now → KeepsCommit old now;
      survives : Survives old now (λ _. ⊥);
    }
