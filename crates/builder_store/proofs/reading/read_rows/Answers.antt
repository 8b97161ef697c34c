use Rattle.std.proofs.Common.{rules}
use Rattle.sqlite.specs.Held.{state}
use Rattle.store_tables.proofs.Inside.{quiet_on}
use Rattle.builder_store.proofs.Stops.{cause_after, reads_stop}
use Rattle.builder_store.proofs.reading.read_rows.Goals as goal

pub returns-in_err-moved-clause-reads : goal.returns-in_err-moved-clause-reads
returns-in_err-moved-clause-reads g c =
    let old = state g.S.Store c.args.conn.now in
    let mid = state g.S.Store c.read_first.new.conn in
    let new = state g.S.Store c.read_rest.new.conn in
    reads_stop _ old new (quiet_on old mid new c.read_first.ensures.reads.survives
    c.read_rest.ensures.reads.survives) c.from_residual-in_err-moved.result _
    c.from_residual-in_err-moved.ensures.0

pub returns-in_err-moved-clause-cause : goal.returns-in_err-moved-clause-cause
returns-in_err-moved-clause-cause g c =
    let old = state g.S.Store c.args.conn.now in
    let mid = state g.S.Store c.read_first.new.conn in
    let new = state g.S.Store c.read_rest.new.conn in
    cause_after old mid new c.read_first.ensures.reads.survives c.read_rest.ensures.reads.survives
    c.read_rest.result c.from_residual-in_err-moved.result c.in_err-moved.field-0.0
    c.in_err-moved.was (search rules) c.read_rest.ensures.cause
