use Rattle.sqlite.specs.Held.{state}
use Rattle.store_model.specs.Contents.{published_of}
use Rattle.store_tables.proofs.Steps.{puts_published}
use Rattle.store_tables.proofs.Writing.{writes_so}
use Rattle.store_tables.proofs.writes.put_published.Goals as goal

pub returns-clause-writes : goal.returns-clause-writes
returns-clause-writes g c =
    let old = state g.S.Store c.args.tx.now.conn.now in
    let new = state g.S.Store c.run.new.tx.conn.now in
    let row = published_of c.args.row.now in
    writes_so _ _ old new _ (puts_published old new row.0 row.1) c.requires c.run.result
    (λ clean. rw (
      c.params-to_sql.ensures,
      c.params-to_sql-2.ensures,
      c.params-to_sql-3.ensures,
      c.as_str.ensures.value,
    ) at (c.run.ensures.done clean))
    c.run.ensures.inside c.run.ensures.kept c.run.ensures.survives
