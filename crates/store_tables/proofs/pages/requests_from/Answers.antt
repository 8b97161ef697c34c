use Rattle.std.proofs.Common.{pos, arith, rules, subst, sym}
use Rattle.std.proofs.lemmas.Result.{IfOk-weaker}
use Rattle.std.specs.FinMap.{entries}
use Rattle.sqlite.specs.Held.{state}
use Rattle.store_model.specs.Pages.{IsPage}
use Rattle.store_tables.specs.Contents.{contents_of}
use Rattle.store_tables.specs.Inner.Texts.{page_request}
use Rattle.store_tables.proofs.Tables.Placed.{page_means, page_params, shows_requests}
use Rattle.store_tables.proofs.Reading.{reads_shown, reads_nothing}
use Rattle.store_tables.proofs.pages.requests_from.Goals as goal

pub returns-in_err-shown-clause-reads : goal.returns-in_err-shown-clause-reads
returns-in_err-shown-clause-reads g c =
    let old = state g.S.Store c.args.conn.now in
    let new = state g.S.Store c.query_all.new.self in
    let survives = rw (c.params-to_sql.ensures, c.params-to_sql-2.ensures) at
    c.query_all.ensures.survives in
    reads_nothing page_request page_means.plain (page_params (pos c.args.place) c.args.most) old new
    c.requires survives c.from_residual.result _ c.in_err-shown.field-0.0 (search rules)

pub returns-clause-reads : goal.returns-clause-reads
returns-clause-reads g c =
    let old = state g.S.Store c.args.conn.now in
    let new = state g.S.Store c.query_all.new.self in
    let params = page_params (pos c.args.place) c.args.most in
    let shown = c.in_ok-shown.shown.items in
    let survives = rw (c.params-to_sql.ensures, c.params-to_sql-2.ensures) at
    c.query_all.ensures.survives in
    let ok = rw (c.params-to_sql.ensures, c.params-to_sql-2.ensures) at c.in_ok-shown.ensures.ok in
    reads_shown page_request page_means.plain params old new c.requires survives
    c.rows_in.result _ shown ok
    (λ clean. IfOk-weaker c.rows_in.result _ _
    (λ rows is. subst (IsPage (pos c.args.place) c.args.most (entries (contents_of
    old.now.trees).requests)) (sym is)
    (shows_requests old new (pos c.args.place) c.args.most shown (c.requires (omega (
      arith,
      c.query_all.ensures.survives.clean,
      clean,
    ))) (ok clean)))
    c.rows_in.ensures.rows)
