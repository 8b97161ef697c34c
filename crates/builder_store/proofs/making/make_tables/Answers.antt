use Rattle.sqlite.specs.Held.{state}
use Rattle.sqlite.proofs.StateLemmas.{survives_weaker}
use Rattle.builder_store.proofs.Made.{made_stands}
use Rattle.builder_store.proofs.Opens.{survives_same}
use Rattle.builder_store.proofs.Settled.{committed_store, tables_from}
use Rattle.builder_store.proofs.making.make_tables.Goals as goal

pub returns-in-Ok-prepare_store-clause-tables : goal.returns-in-Ok-prepare_store-clause-tables
returns-in-Ok-prepare_store-clause-tables g c = λ clean.
    let done = c.in-Ok-prepare_store.ensures.commits.done clean in
    tables_from (state g.S.Store c.prepare_store.new.conn)
    (record { is_open = done.0; store = done.2.store; committed = done.1 })

pub returns-in-Ok-prepare_store-clause-made : goal.returns-in-Ok-prepare_store-clause-made
returns-in-Ok-prepare_store-clause-made g c = λ clean.
    let done = c.in-Ok-prepare_store.ensures.commits.done clean in
    made_stands (state g.S.Store c.prepare_store.new.conn).committed.trees
    (state g.S.Store c.args.conn.now).now.trees c.args.rings.now c.args.hour c.in-Ok.change.0
    c.rows.result.now c.meta_row-meta.result c.rows.ensures c.meta_row-meta.ensures
    (c.in-Ok.ensures c.args.hour c.ranges.hour.fits)
    (committed_store (state g.S.Store c.prepare_store.new.conn) _ done.1 done.2)

pub returns-in-Ok-prepare_store-clause-survives : goal.returns-in-Ok-prepare_store-clause-survives
returns-in-Ok-prepare_store-clause-survives g c =
    survives_weaker (state g.S.Store c.args.conn.now) (state g.S.Store c.prepare_store.new.conn) _ _
    (λ clean db. made_stands db (state g.S.Store c.args.conn.now).now.trees c.args.rings.now
    c.args.hour c.in-Ok.change.0 c.rows.result.now c.meta_row-meta.result c.rows.ensures
    c.meta_row-meta.ensures (c.in-Ok.ensures c.args.hour c.ranges.hour.fits))
    c.in-Ok-prepare_store.ensures.commits.survives

pub returns-then-not-is_blank-clause-survives : goal.returns-then-not-is_blank-clause-survives
returns-then-not-is_blank-clause-survives g c = survives_same (state g.S.Store c.args.conn.now) _

pub returns-in_default-clause-survives : goal.returns-in_default-clause-survives
returns-in_default-clause-survives g c = survives_same (state g.S.Store c.args.conn.now) _

pub returns-clause-survives : goal.returns-clause-survives
returns-clause-survives g c =
    survives_weaker (state g.S.Store c.args.conn.now) (state g.S.Store c.prepare_store.new.conn) _ _
    (λ clean db. made_stands db (state g.S.Store c.args.conn.now).now.trees c.args.rings.now
    c.args.hour c.in-Ok.change.0 c.rows.result.now c.meta_row-meta.result c.rows.ensures
    c.meta_row-meta.ensures (c.in-Ok.ensures c.args.hour c.ranges.hour.fits))
    c.in-Err.ensures.commits.survives

pub prepare_store-requires-clause-begun : goal.prepare_store-requires-clause-begun
prepare_store-requires-clause-begun g c = λ clean. c.is_blank.ensures.begun c.if-not-is_blank.false
    (c.requires.fresh clean).is_open

pub returns-clause-unjudged : goal.returns-clause-unjudged
returns-clause-unjudged g c = c.fault_of.ensures.unjudged
