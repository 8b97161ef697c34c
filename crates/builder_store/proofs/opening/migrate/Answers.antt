use Rattle.sqlite.specs.Held.{state}
use Rattle.sqlite.proofs.StateLemmas.{survives_weaker}
use Rattle.store_tables.specs.Store.{begun_contents}
use Rattle.builder_store.proofs.Opens.{completed_stands, found_leads, found_opens}
use Rattle.builder_store.proofs.Settled.{committed_store, tables_from}
use Rattle.builder_store.proofs.opening.migrate.Goals as goal

pub returns-in-Ok-clause-tables : goal.returns-in-Ok-clause-tables
returns-in-Ok-clause-tables g c = λ clean.
    let done = c.in-Ok.ensures.commits.done clean in
    tables_from (state g.S.Store c.complete.new.conn)
    (record { is_open = done.0; store = done.2.store; committed = done.1 })

pub returns-in-Ok-clause-found : goal.returns-in-Ok-clause-found
returns-in-Ok-clause-found g c = λ clean content found.
    let was = begun_contents c.args.made (state g.S.Store c.args.conn.now).now.trees in
    let new = state g.S.Store c.complete.new.conn in
    let done = c.in-Ok.ensures.commits.done clean in
    found_leads was content c.args.judged new.committed.trees found
    (completed_stands was c.args.judged new.committed.trees (committed_store new _ done.1 done.2)
    content found)

pub returns-in-Ok-clause-survives : goal.returns-in-Ok-clause-survives
returns-in-Ok-clause-survives g c =
    let was = begun_contents c.args.made (state g.S.Store c.args.conn.now).now.trees in
    survives_weaker (state g.S.Store c.args.conn.now) (state g.S.Store c.complete.new.conn) _ _
    (λ clean db is content it. (
      content,
      found_opens was content c.args.judged it,
      completed_stands was c.args.judged db is content it,
    )) c.in-Ok.ensures.commits.survives

pub returns-in-Err-clause-survives : goal.returns-in-Err-clause-survives
returns-in-Err-clause-survives g c =
    let was = begun_contents c.args.made (state g.S.Store c.args.conn.now).now.trees in
    survives_weaker (state g.S.Store c.args.conn.now) (state g.S.Store c.complete.new.conn) _ _
    (λ clean db is content it. (
      content,
      found_opens was content c.args.judged it,
      completed_stands was c.args.judged db is content it,
    )) c.in-Err.ensures.commits.survives
