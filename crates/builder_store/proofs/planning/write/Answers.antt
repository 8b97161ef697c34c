use Rattle.std.proofs.Common.{arith, subst}
use Rattle.sqlite.specs.Effect.{Database}
use Rattle.sqlite.specs.Held.{state}
use Rattle.sqlite.specs.State.{HasCleanDisk}
use Rattle.sqlite.proofs.StateLemmas.{survives_then, survives_weaker}
use Rattle.store_tables.specs.Contents.{contents_of}
use Rattle.store_tables.specs.Store.{IsStoreWith}
use Rattle.builder_store.specs.Inner.Gains.{written}
use Rattle.builder_store.proofs.Settled.{committed_store, tables_from}
use Rattle.builder_store.proofs.planning.write.Goals as goal

pub returns-in-Ok-clause-tables : goal.returns-in-Ok-clause-tables
returns-in-Ok-clause-tables g c = λ clean _.
    let done = c.in-Ok.ensures.commits.done clean in
    tables_from (state g.S.Store c.commit_rows-done.new.conn)
    (record { is_open = done.0; store = done.2.store; committed = done.1 })

-- what the connection sees before is what it has committed
pub returns-in-Ok-clause-done : goal.returns-in-Ok-clause-done
returns-in-Ok-clause-done g c = λ clean.
    let old = state g.S.Store c.args.conn.now in
    let new = state g.S.Store c.commit_rows-done.new.conn in
    let was : HasCleanDisk old = omega (arith, c.in-Ok.ensures.commits.survives.clean, clean) in
    let before = c.settle.ensures.committed c.requires.mode (c.requires.tables was).0 in
    let done = c.in-Ok.ensures.commits.done clean in
    subst (λ (d : Database). IsStoreWith (written c.args.is_same_hour (contents_of d.trees)
    c.args.changes.now c.args.rows.now.request c.args.rows.now.meta) new.committed.trees) before
    (committed_store new _ done.1 done.2)

pub returns-in-Ok-clause-survives : goal.returns-in-Ok-clause-survives
returns-in-Ok-clause-survives g c =
    let old = state g.S.Store c.args.conn.now in
    let new = state g.S.Store c.commit_rows-done.new.conn in
    let commits = c.in-Ok.ensures.commits in
    survives_weaker old new _ _ (λ clean db is.
    let was : HasCleanDisk old = omega (arith, commits.survives.clean, clean) in
    subst (λ (d : Database). IsStoreWith (written c.args.is_same_hour (contents_of d.trees)
    c.args.changes.now c.args.rows.now.request c.args.rows.now.meta) db)
    (c.settle.ensures.committed c.requires.mode (c.requires.tables was).0) is) commits.survives

pub returns-in-Err-clause-survives : goal.returns-in-Err-clause-survives
returns-in-Err-clause-survives g c =
    let old = state g.S.Store c.args.conn.now in
    let mid = state g.S.Store c.commit_rows-done.new.conn in
    let new = state g.S.Store c.cause.new.conn in
    let commits = c.in-Err.ensures.commits in
    survives_then old mid new _ (λ _. ⊥) _ (λ clean db is.
    let early : HasCleanDisk mid = omega (arith, c.cause.ensures.survives.clean, clean) in
    let was : HasCleanDisk old = omega (arith, commits.survives.clean, early) in
    subst (λ (d : Database). IsStoreWith (written c.args.is_same_hour (contents_of d.trees)
    c.args.changes.now c.args.rows.now.request c.args.rows.now.meta) db)
    (c.settle.ensures.committed c.requires.mode (c.requires.tables was).0) is)
    (λ clean db none. absurd none) commits.survives c.cause.ensures.survives
