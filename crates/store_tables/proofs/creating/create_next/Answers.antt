use Rattle.std.proofs.Common.{◌<◌, arith}
use Rattle.std.proofs.lemmas.Result.{on_ok_weaker}
use Rattle.sqlite.specs.Held.{state}
use Rattle.store_tables.proofs.Creates.{creates_next}
use Rattle.store_tables.proofs.creating.create_next.Goals as goal

pub returns-clause-makes : goal.returns-clause-makes
returns-clause-makes g c =
    let old = state g.S.Store c.args.tx.now.conn.now in
    let new = state g.S.Store c.run.new.tx.conn.now in
    let run = c.run.ensures in
    let low : c.args.made < 8 = c.requires.missing in
    record {
      done = λ clean. on_ok_weaker c.run.result (λ ran.
          creates_next c.args.made low old new ran.0
          (c.requires.begun (omega (arith, run.survives.clean, clean))) ran.1)
          (rw c.create_text.ensures at (run.done clean));
      inside = run.inside;
      kept = run.kept;
      survives = run.survives;
    }
