use Rattle.sqlite.specs.Held.{state}
use Rattle.builder_store.proofs.Asking.{silence_fails}
use Rattle.builder_store.proofs.starting.get_ready.Goals as goal

pub returns-in-Err-clause-failed : goal.returns-in-Err-clause-failed
returns-in-Err-clause-failed g c = λ clean told. silence_fails (state g.S.Store c.args.conn.now)
    (state g.S.Store c.ask_nothing.new.conn) c.in-Err.error c.fault_of.result told
    c.fault_of.ensures.failed (c.in-Err.ensures.unanswered clean)
