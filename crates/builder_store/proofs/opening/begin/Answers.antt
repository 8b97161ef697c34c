use Rattle.std.proofs.Common.{arith, refl, sym}
use Rattle.sqlite.specs.Held.{state}
use Rattle.sqlite.specs.State.{HasCleanDisk}
use Rattle.sqlite.proofs.StateLemmas.{survives_weaker}
use Rattle.store_rows.proofs.Used.{bounds_none}
use Rattle.builder_store.specs.Opening.{nothing}
use Rattle.builder_store.proofs.Opens.{begun_stands, nothing_opens}
use Rattle.builder_store.proofs.Settled.{committed_store, tables_from}
use Rattle.builder_store.proofs.opening.begin.Goals as goal

pub returns-in-Ok-clause-opens : goal.returns-in-Ok-clause-opens
returns-in-Ok-clause-opens g c = λ empty.
    let old = state g.S.Store c.args.conn.now in
    let new = state g.S.Store c.prepare_store.new.conn in
    let did = c.in-Ok.ensures.commits in
    let opens = nothing_opens c.nothing_is_holdable.ensures in
    let was : HasCleanDisk new → HasCleanDisk old = λ clean. omega
    (arith, did.survives.clean, clean) in
    record {
      tables = λ clean. let done = did.done clean in tables_from new
          (record { is_open = done.0; store = done.2.store; committed = done.1 });
      found = λ clean. let done = did.done clean in record {
        content = nothing;
        opens = opens;
        stands = begun_stands _ _ new.committed.trees c.nothing_is_holdable.ensures (empty
            (was clean)) c.meta_row-meta.ensures (committed_store new _ done.1 done.2);
        rings = sym c.new.ensures;
        count = refl;
        hour = refl;
        callers = bounds_none _;
      };
      survives = survives_weaker old new _ _ (λ clean db is. (
        nothing,
        opens,
        begun_stands _ _ db c.nothing_is_holdable.ensures (empty (was clean))
            c.meta_row-meta.ensures is,
      )) did.survives;
    }

pub returns-in-Err-clause-opens : goal.returns-in-Err-clause-opens
returns-in-Err-clause-opens g c = λ empty.
    let old = state g.S.Store c.args.conn.now in
    let new = state g.S.Store c.prepare_store.new.conn in
    let did = c.in-Err.ensures.commits in
    let was : HasCleanDisk new → HasCleanDisk old = λ clean. omega
    (arith, did.survives.clean, clean) in
    record {
      tables = λ _. tt;
      found = λ _. tt;
      survives = survives_weaker old new _ _ (λ clean db is. (
        nothing,
        nothing_opens c.nothing_is_holdable.ensures,
        begun_stands _ _ db c.nothing_is_holdable.ensures (empty (was clean))
            c.meta_row-meta.ensures is,
      )) did.survives;
    }
