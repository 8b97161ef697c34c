use Rattle.sqlite.specs.Held.{state}
use Rattle.store_tables.proofs.Steps.{clears_seat}
use Rattle.store_tables.proofs.Writing.{writes_so}
use Rattle.store_tables.proofs.writes.clear_seats.Goals as goal

pub returns-clause-writes : goal.returns-clause-writes
returns-clause-writes g c =
    let old = state g.S.Store c.args.tx.now.conn.now in
    let new = state g.S.Store c.run.new.tx.conn.now in
    writes_so _ _ old new _ (clears_seat old new) c.requires c.run.result
    c.run.ensures.done
    c.run.ensures.inside c.run.ensures.kept c.run.ensures.survives
