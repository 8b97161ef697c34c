use Rattle.std.proofs.Common.{rules}
use Rattle.sqlite.specs.Held.{state}
use Rattle.store_tables.proofs.Failing.{fails_late, hands_on}
use Rattle.store_tables.proofs.Inside.{calm_of, calm_on, quiet_on, reaches_none}
use Rattle.store_tables.proofs.changes.write_prepared.Goals as goal

pub returns-in_err-create_missing-clause-reaches :
    goal.returns-in_err-create_missing-clause-reaches
returns-in_err-create_missing-clause-reaches g c =
    let old = state g.S.Store c.args.tx.now.conn.now in
    let new = state g.S.Store c.create_missing.new.tx.conn.now in
    reaches_none old new _ (calm_of old new c.create_missing.result _
    c.create_missing.ensures.reaches) c.from_residual.result c.from_residual.ensures.0

pub returns-in_err-apply-clause-reaches : goal.returns-in_err-apply-clause-reaches
returns-in_err-apply-clause-reaches g c =
    let old = state g.S.Store c.args.tx.now.conn.now in
    let one = state g.S.Store c.create_missing.new.tx.conn.now in
    let new = state g.S.Store c.apply.new.tx.conn.now in
    reaches_none old new _ (calm_on old one new (calm_of old one c.create_missing.result _
    c.create_missing.ensures.reaches) (calm_of one new c.apply.result _ c.apply.ensures.writes))
    c.from_residual-in_err-apply.result c.from_residual-in_err-apply.ensures.0

pub returns-in_err-apply-clause-cause : goal.returns-in_err-apply-clause-cause
returns-in_err-apply-clause-cause g c =
    let old = state g.S.Store c.args.tx.now.conn.now in
    let one = state g.S.Store c.create_missing.new.tx.conn.now in
    let new = state g.S.Store c.apply.new.tx.conn.now in
    fails_late old one new (λ _. ⊥) (λ _. ⊥) c.from_residual-in_err-apply.result
    c.create_missing.ensures.reaches.survives c.apply.ensures.writes.survives
    (hands_on one new c.apply.result c.from_residual-in_err-apply.result c.in_err-apply.field-0.0
    c.in_err-apply.was (search rules) c.apply.ensures.cause)

pub returns-in_err-clear_seats-clause-reaches : goal.returns-in_err-clear_seats-clause-reaches
returns-in_err-clear_seats-clause-reaches g c =
    let old = state g.S.Store c.args.tx.now.conn.now in
    let one = state g.S.Store c.create_missing.new.tx.conn.now in
    let two = state g.S.Store c.apply.new.tx.conn.now in
    let new = state g.S.Store c.clear_seats.new.tx.conn.now in
    reaches_none old new _ (calm_on old two new (calm_on old one two (calm_of old one
    c.create_missing.result _ c.create_missing.ensures.reaches) (calm_of one two c.apply.result _
    c.apply.ensures.writes)) (calm_of two new c.clear_seats.result _ c.clear_seats.ensures.writes))
    c.from_residual-in_err-clear_seats.result c.from_residual-in_err-clear_seats.ensures.0

pub returns-in_err-clear_seats-clause-cause : goal.returns-in_err-clear_seats-clause-cause
returns-in_err-clear_seats-clause-cause g c =
    let old = state g.S.Store c.args.tx.now.conn.now in
    let one = state g.S.Store c.create_missing.new.tx.conn.now in
    let two = state g.S.Store c.apply.new.tx.conn.now in
    let new = state g.S.Store c.clear_seats.new.tx.conn.now in
    fails_late old two new (λ _. ⊥) (λ _. ⊥) c.from_residual-in_err-clear_seats.result
    (quiet_on old one two c.create_missing.ensures.reaches.survives c.apply.ensures.writes.survives)
    c.clear_seats.ensures.writes.survives
    (hands_on two new c.clear_seats.result c.from_residual-in_err-clear_seats.result
    c.in_err-clear_seats.field-0.0 c.in_err-clear_seats.was (search rules)
    c.clear_seats.ensures.cause)

pub returns-clause-reaches : goal.returns-clause-reaches
returns-clause-reaches g c = search rules
