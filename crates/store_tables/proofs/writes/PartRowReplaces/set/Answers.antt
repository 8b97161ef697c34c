use Rattle.std.proofs.Common.{arith}
use Rattle.std.proofs.lemmas.Result.{IfOk-weaker}
use Rattle.sqlite.specs.Held.{state}
use Rattle.store_model.specs.Contents.{part_of}
use Rattle.store_tables.proofs.Steps.{sets_part}
use Rattle.store_tables.proofs.writes.PartRowReplaces.set.Goals as goal

pub returns-clause-set : goal.returns-clause-set
returns-clause-set g c = λ clean.
    let old = state g.S.Store c.args.tx.now.conn.now in
    let new = state g.S.Store c.count.new.tx.conn.now in
    let row = part_of c.args.self.now in
    IfOk-weaker c.count.result _ _ (λ count ran. sets_part old new row.0 row.1 count
    (c.requires (omega (arith, c.count.ensures.survives.clean, clean))) ran)
    (rw (
      c.params-to_sql.ensures,
      c.params-to_sql-2.ensures,
      c.params-to_sql-3.ensures,
      c.params-to_sql-4.ensures,
    ) at (c.count.ensures.done clean))
