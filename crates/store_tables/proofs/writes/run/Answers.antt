use Rattle.std.proofs.Common.{rules}
use Rattle.sqlite.specs.Held.{state}
use Rattle.store_tables.proofs.Failing.{hands_on, statement_fails}
use Rattle.store_tables.proofs.writes.run.Goals as goal

pub returns-in_err-execute-clause-cause : goal.returns-in_err-execute-clause-cause
returns-in_err-execute-clause-cause g c =
    let old = state g.S.Store c.args.tx.now.conn.now in
    let new = state g.S.Store c.execute.new.self.conn.now in
    hands_on old new c.execute.result c.from_residual.result c.in_err-execute.field-0.0
    (search rules) (search rules)
    (statement_fails _ _ old new c.execute.result c.execute.ensures.ended c.execute.ensures.runs)
