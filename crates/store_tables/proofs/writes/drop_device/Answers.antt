use Rattle.sqlite.specs.Held.{state}
use Rattle.store_model.specs.Contents.{device_key}
use Rattle.store_tables.proofs.Steps.{drops_device}
use Rattle.store_tables.proofs.Writing.{writes_so}
use Rattle.store_tables.proofs.writes.drop_device.Goals as goal

pub returns-clause-writes : goal.returns-clause-writes
returns-clause-writes g c =
    let old = state g.S.Store c.args.tx.now.conn.now in
    let new = state g.S.Store c.run.new.tx.conn.now in
    writes_so _ _ old new _ (drops_device old new (device_key c.args.key.now)) c.requires c.run.result
    (λ clean. rw (c.params-to_sql.ensures, c.params-to_sql-2.ensures) at (c.run.ensures.done clean))
    c.run.ensures.inside c.run.ensures.kept c.run.ensures.survives
