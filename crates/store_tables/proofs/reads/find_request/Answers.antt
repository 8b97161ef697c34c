use Rattle.std.proofs.Common.{◌∙◌, pos, ap, arith, slice_get, option_map, rules}
use Rattle.std.proofs.lemmas.Result.{IfOk-weaker}
use Rattle.sqlite.specs.Held.{state}
use Rattle.store_tables.specs.Inner.Told.{told}
use Rattle.store_model.specs.Entries.{NameNumber}
use Rattle.store_tables.specs.Inner.Texts.{pick_request}
use Rattle.store_tables.proofs.Tables.Lists.{key_params, request_picks}
use Rattle.store_tables.proofs.Steps.{picks_request}
use Rattle.store_tables.proofs.Reading.{reads_shown, reads_nothing}
use Rattle.store_tables.proofs.reads.find_request.Goals as goal

pub returns-in_err-shown-clause-reads : goal.returns-in_err-shown-clause-reads
returns-in_err-shown-clause-reads g c =
    let old = state g.S.Store c.args.conn.now in
    let new = state g.S.Store c.query_all.new.self in
    let survives = rw (c.params-to_sql.ensures, c.params-to_sql-2.ensures) at
    c.query_all.ensures.survives in
    reads_nothing pick_request request_picks.means.plain
    (key_params (c.args.caller.now, pos c.args.number)) old
    new c.requires survives c.from_residual.result _ c.in_err-shown.field-0.0 (search rules)

pub returns-clause-reads : goal.returns-clause-reads
returns-clause-reads g c =
    let old = state g.S.Store c.args.conn.now in
    let new = state g.S.Store c.query_all.new.self in
    let key : NameNumber = (c.args.caller.now, pos c.args.number) in
    let shown = c.in_ok-shown.shown.items in
    let survives = rw (c.params-to_sql.ensures, c.params-to_sql-2.ensures) at
    c.query_all.ensures.survives in
    let ok = rw (c.params-to_sql.ensures, c.params-to_sql-2.ensures) at c.in_ok-shown.ensures.ok in
    reads_shown pick_request request_picks.means.plain (key_params key) old new c.requires survives
    c.first_kept.result _ shown ok
    (λ clean. IfOk-weaker c.first_kept.result _ _
    (λ it is. is ∙ ap (λ rows. option_map told (slice_get rows 0)) c.deref.ensures.value
    ∙ picks_request old new key shown (c.requires (omega (
      arith,
      c.query_all.ensures.survives.clean,
      clean,
    ))) (ok clean))
    c.first_kept.ensures)
