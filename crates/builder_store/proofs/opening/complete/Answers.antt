use Rattle.std.proofs.Common.{◌∙◌, ap, subst, sym}
use Rattle.sqlite.specs.Held.{state}
use Rattle.store_model.specs.Changes.{prepared}
use Rattle.store_tables.specs.Store.{CommitsTables, begun_contents}
use Rattle.builder_store.specs.Inner.Opened.{completed}
use Rattle.builder_store.proofs.Opens.{begun_whole}
use Rattle.builder_store.proofs.opening.complete.Goals as goal

pub returns-in-Some-clause-commits : goal.returns-in-Some-clause-commits
returns-in-Some-clause-commits g c =
    let was = begun_contents c.args.made (state g.S.Store c.args.conn.now).now.trees in
    subst (CommitsTables (state g.S.Store c.args.conn.now) (state g.S.Store c.prepare_store.new.conn)
    c.prepare_store.result) (ap (λ xs. prepared was xs c.meta_row.result) c.deref.ensures.value
    ∙ ap (prepared was c.in-Some.changes.items) c.meta_row.ensures
    ∙ ap (completed was c.args.hour) (sym c.in-Some.is)) c.prepare_store.ensures.commits

pub returns-then-made-eq-TABLE_COUNT-clause-commits :
    goal.returns-then-made-eq-TABLE_COUNT-clause-commits
returns-then-made-eq-TABLE_COUNT-clause-commits g c =
    let s = state g.S.Store c.args.conn.now in
    subst (CommitsTables s s _) (ap (completed (begun_contents c.args.made s.now.trees) c.args.hour)
    (sym c.in_default.is)) (begun_whole s c.args.made c.if-made-eq-TABLE_COUNT.true
    c.requires.begun)

pub returns-clause-commits : goal.returns-clause-commits
returns-clause-commits g c =
    let s = state g.S.Store c.args.conn.now in
    subst (CommitsTables s (state g.S.Store c.make_missing.new.conn) c.make_missing.result)
    (ap (completed (begun_contents c.args.made s.now.trees) c.args.hour) (sym c.in_default.is))
    c.make_missing.ensures.commits
