use Rattle.std.proofs.Common.{◌≡◌, subst, arith}
use Rattle.sqlite.specs.Held.{state}
use Rattle.store_tables.specs.Store.{HasMadeTables, begun_contents}
use Rattle.store_tables.proofs.creating.create_range.Goals as goal

pub returns-clause-makes : goal.returns-clause-makes
returns-clause-makes g c =
    let old = state g.S.Store c.args.tx.now.conn.now in
    let new = state g.S.Store c.tables.tx.conn.now in
    let was = c.tables.invariant in
    let end : c.tables.at ≡ c.args.all = omega (
      arith,
      c.tables.auto.at,
      c.tables.auto.at-end,
      c.tables-test.false,
      c.requires.within,
    ) in
    record {
      done = λ clean. (
        subst (λ n. HasMadeTables n new.now) end (was.begun clean),
        subst (λ n. begun_contents n new.now.trees ≡ begun_contents c.args.made old.now.trees) end
            (was.same clean),
      );
      inside = was.inside;
      kept = was.kept;
      survives = was.survives;
    }
