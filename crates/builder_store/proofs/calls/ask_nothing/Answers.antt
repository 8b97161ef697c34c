use Rattle.std.proofs.Common.{refl}
use Rattle.sqlite.specs.Held.{state}
use Rattle.store_tables.proofs.Plain.Unchanged.{commits_nothing}
use Rattle.builder_store.proofs.Asking.{answers, blank_plain, stays_silent}
use Rattle.builder_store.proofs.calls.ask_nothing.Goals as goal

pub returns-clause-answered : goal.returns-clause-answered
returns-clause-answered g c = λ clean. answers (state g.S.Store c.args.conn.now)
    (state g.S.Store c.query_all-answer.new.self) (λ rows. rows.items) c.query_all-answer.result
    c.told_nothing.result c.told_nothing.ensures.nothing (c.query_all-answer.ensures.ok clean)
    (c.query_all-answer.ensures.err clean)

pub returns-clause-unanswered : goal.returns-clause-unanswered
returns-clause-unanswered g c = λ clean. stays_silent (state g.S.Store c.args.conn.now)
    (state g.S.Store c.query_all-answer.new.self) c.query_all-answer.result c.told_nothing.result
    c.told_nothing.ensures.untold (c.query_all-answer.ensures.err clean)

pub returns-clause-survives : goal.returns-clause-survives
returns-clause-survives g c =
    let old = state g.S.Store c.args.conn.now in
    commits_nothing old.now.schema _ _ old (state g.S.Store c.query_all-answer.new.self) (λ _. refl)
    (blank_plain old.now.schema) c.query_all-answer.ensures.survives
