use Rattle.std.proofs.Common.{◌≡◌, ◌∙◌, Err, rules, sym}
use Rattle.sqlite.specs.Held.{state}
use Rattle.sqlite.proofs.StateLemmas.{survives_then}
use Rattle.builder_store.specs.declared.fault.OpenFault.TheVariants.{BadRows, BadTables, BadTexts}
use Rattle.builder_store.proofs.Stops.{judges_none, only_on}
use Rattle.builder_store.proofs.starting.open_ready.Goals as goal

pub returns-in_err-opened-clause-bad : goal.returns-in_err-opened-clause-bad
returns-in_err-opened-clause-bad g c = λ bad.
    let was : c.open_tables.result ≡ Err c.in_err-opened.field-0.0 = search rules in
    let is : c.from_residual.result ≡ Err c.in_err-opened.field-0.0 = search rules in
    c.open_tables.ensures.bad (was ∙ sym is ∙ bad)

pub returns-in_err-get_ready-clause-survives : goal.returns-in_err-get_ready-clause-survives
returns-in_err-get_ready-clause-survives g c = survives_then (state g.S.Store c.args.conn.now)
    (state g.S.Store c.open_tables.new.conn) (state g.S.Store c.get_ready.new.conn) _ (λ _. ⊥) _
    (λ clean db made. made) (λ clean db none. absurd none) c.open_tables.ensures.survives
    c.get_ready.ensures.survives

pub returns-in_err-opened-clause-texts : goal.returns-in_err-opened-clause-texts
returns-in_err-opened-clause-texts g c = λ bad.
    let was : c.open_tables.result ≡ Err c.in_err-opened.field-0.0 = search rules in
    let is : c.from_residual.result ≡ Err c.in_err-opened.field-0.0 = search rules in
    c.open_tables.ensures.texts (was ∙ sym is ∙ bad)

pub returns-in_err-opened-clause-missing : goal.returns-in_err-opened-clause-missing
returns-in_err-opened-clause-missing g c = λ bad.
    let was : c.open_tables.result ≡ Err c.in_err-opened.field-0.0 = c.in_err-opened.was in
    let is : c.from_residual.result ≡ Err c.in_err-opened.field-0.0 = search rules in
    c.open_tables.ensures.missing (was ∙ sym is ∙ bad)

pub returns-in_err-opened-clause-failed : goal.returns-in_err-opened-clause-failed
returns-in_err-opened-clause-failed g c = only_on (state g.S.Store c.args.conn.now)
    (state g.S.Store c.open_tables.new.conn) c.open_tables.result c.from_residual.result
    c.in_err-opened.field-0.0 c.in_err-opened.was (search rules) c.open_tables.ensures.failed

pub returns-in_err-get_ready-clause-bad : goal.returns-in_err-get_ready-clause-bad
returns-in_err-get_ready-clause-bad g c = λ bad. absurd (judges_none c.get_ready.result
    c.from_residual-in_err-get_ready.result c.in_err-get_ready.field-0.0 BadRows tt
    c.get_ready.ensures.other c.in_err-get_ready.was (search rules) bad)

pub returns-in_err-get_ready-clause-texts : goal.returns-in_err-get_ready-clause-texts
returns-in_err-get_ready-clause-texts g c = λ bad. absurd (judges_none c.get_ready.result
    c.from_residual-in_err-get_ready.result c.in_err-get_ready.field-0.0 BadTexts tt
    c.get_ready.ensures.other c.in_err-get_ready.was (search rules) bad)

pub returns-in_err-get_ready-clause-missing : goal.returns-in_err-get_ready-clause-missing
returns-in_err-get_ready-clause-missing g c = λ bad. absurd (judges_none c.get_ready.result
    c.from_residual-in_err-get_ready.result c.in_err-get_ready.field-0.0 BadTables tt
    c.get_ready.ensures.other c.in_err-get_ready.was (search rules) bad)
