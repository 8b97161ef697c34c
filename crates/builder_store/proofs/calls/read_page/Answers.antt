use Rattle.std.proofs.Common.{ap, arith, Err}
use Rattle.sqlite.specs.Held.{state}
use Rattle.sqlite.specs.State.{HasCleanDisk}
use Rattle.store_tables.proofs.Inside.{quiet_on}
use Rattle.builder_store.proofs.Settled.{quiet_commit, tables_stay, wants_memory}
use Rattle.builder_store.proofs.calls.read_page.Goals as goal

pub returns-in-Err-clause-tables : goal.returns-in-Err-clause-tables
returns-in-Err-clause-tables g c = λ clean other.
    let old = state g.S.Store c.args.conn.now in
    let mid = state g.S.Store c.requests_from-answer.new.conn in
    let new = state g.S.Store c.cause-fault.new.conn in
    let early : HasCleanDisk mid = omega (arith, c.cause-fault.ensures.survives.clean, clean) in
    let was : HasCleanDisk old = omega (
      arith,
      c.requests_from-answer.ensures.reads.survives.clean,
      early,
    ) in
    let before = c.settle.ensures.settled c.requires.mode (c.requires.tables was) in
    let shown = c.cause-fault.ensures.same clean (wants_memory c.cause-fault.result (λ e. other
    (ap Err e))) in
    let call = quiet_on old mid new c.requests_from-answer.ensures.reads.survives
    c.cause-fault.ensures.survives in
    let same = quiet_commit old new clean (λ db may. g.met.S.Store.settled c.args.conn.now.store db
    before.is_open may)
    (g.met.S.Store.stays c.cause-fault.new.conn.store shown.0.is_open) call in
    tables_stay old new before c.settle.ensures.live c.settle-in-Err.ensures.live shown.0.is_open
    (c.settle-in-Err.ensures.committed c.cause-fault.ensures.mode) same
