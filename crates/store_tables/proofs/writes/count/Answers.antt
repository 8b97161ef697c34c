use Rattle.sqlite.specs.Held.{state}
use Rattle.store_tables.proofs.Failing.{statement_fails}
use Rattle.store_tables.proofs.writes.count.Goals as goal

pub returns-clause-cause : goal.returns-clause-cause
returns-clause-cause g c =
    let old = state g.S.Store c.args.tx.now.conn.now in
    let new = state g.S.Store c.execute.new.self.conn.now in
    statement_fails _ _ old new c.execute.result c.execute.ensures.ended c.execute.ensures.runs
