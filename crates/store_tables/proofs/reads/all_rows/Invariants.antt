use Rattle.std.proofs.Common.{◌≡◌, false, map}
use Rattle.sqlite.specs.Held.{state}
use Rattle.sqlite.specs.State.{HasCleanDisk, Survives}
use Rattle.store_tables.proofs.Reading.{HasListed}
use Rattle.store_tables.proofs.reads.all_rows.Given as goal

-- the rows that were given so far are read, and nothing changed
abbrev pub invariant-rows : goal.invariant-rows
invariant-rows g l =
    let old = l.fn.conn in
    let now = l.shown.conn.now in
    record {
      same_reference : l.shown.conn.ghost_name ≡ l.initial.shown.conn.ghost_name;
      mode : old.in_transaction ≡ false → now.in_transaction ≡ false;
      survives : Survives (state g.S.Store old) (state g.S.Store now) (λ _. ⊥);
      listed : HasCleanDisk (state g.S.Store now) → HasListed g.S.Store l.fn.made
          g.T.Listed.layout g.T.Listed.listed old now (map g.T.Listed.entry l.rows.items);
    }
