use Rattle.std.proofs.Common.{◌∙◌, ◌≤◌, Err, IfErr, ap, arith, inl, inr, subst, sym}
use Rattle.std.specs.Prelude.{IsErrAnd}
use Rattle.sqlite_trees.specs.View.{doubt}
use Rattle.sqlite.specs.Held.{state}
use Rattle.sqlite.specs.State.{HasCleanDisk}
use Rattle.store_tables.specs.Failing.{HasFailed}
use Rattle.builder_store.specs.Opening.{IsOpenedAs, JudgesRows, TellsFault}
use Rattle.builder_store.proofs.Finds.{alone_from}
use Rattle.builder_store.proofs.Taking.{met_while_open}
use Rattle.builder_store.proofs.Bounding.{bounds_alone}
use Rattle.builder_store.proofs.keeper.SqlKeeper.over.Goals as goal

pub holding-requires-clause-holds : goal.holding-requires-clause-holds
holding-requires-clause-holds g c = λ clean.
    let it = c.in-Ok.ensures.found clean in
    ∣ (
      it.content,
      alone_from c.one_content.ensures (state g.S.Store c.open_ready.new.conn).committed.trees
          it.content it.stands,
      it.rings,
      it.count,
      it.hour,
    ) ∣₁

pub holding-requires-clause-known : goal.holding-requires-clause-known
holding-requires-clause-known g c = λ clean.
    let it = c.in-Ok.ensures.found clean in
    bounds_alone (state g.S.Store c.open_ready.new.conn).committed.trees it.content
    c.in-Ok.opened.callers (alone_from c.one_content.ensures
    (state g.S.Store c.open_ready.new.conn).committed.trees it.content it.stands) it.callers

pub returns-in-Ok-clause-begins : goal.returns-in-Ok-clause-begins
returns-in-Ok-clause-begins g c =
    let old = state g.S.Store c.args.conn in
    let new = state g.S.Store c.open_ready.new.conn in
    let is = c.holding.ensures in
    record {
      limit = is.limit;
      faults = is.faults;
      clean = subst (λ h. doubt old.is_clean ≤ doubt (state g.S.Store h).is_clean) (sym is.same)
          c.open_ready.ensures.survives.clean;
      found = λ clean.
          let still : HasCleanDisk new = subst (λ h. HasCleanDisk (state g.S.Store h)) is.same
          clean in
          let it = c.in-Ok.ensures.found still in
          let alone = alone_from c.one_content.ensures new.committed.trees it.content it.stands in
          subst (λ x. IsOpenedAs old.committed.trees x) (sym (is.content it.content clean alone))
          it.opens;
    }

pub returns-in-Err-clause-refused : goal.returns-in-Err-clause-refused
returns-in-Err-clause-refused g c =
    let old = state g.S.Store c.args.conn in
    let new = state g.S.Store c.open_ready.new.conn in
    let survives = c.open_ready.ensures.survives in
    let before : HasCleanDisk new → HasCleanDisk old = λ clean. omega
    (arith, survives.clean, clean) in
    record {
      clean = survives.clean;
      rows = λ is. c.open_ready.ensures.bad (c.in-Err.is ∙ ap Err is);
      texts = λ is. c.open_ready.ensures.texts (c.in-Err.is ∙ ap Err is);
      tables = λ is. c.open_ready.ensures.missing (c.in-Err.is ∙ ap Err is);
      failed = λ is clean. met_while_open old new (c.requires.fresh (before clean)).is_open
          (subst (λ r. IfErr r (λ why. TellsFault why → HasFailed old new)) c.in-Err.is
          (c.open_ready.ensures.failed clean) is);
      kept = λ is clean db may. elim ((c.open_ready.ensures.quiet (subst
          (λ r. IsErrAnd r JudgesRows) (sym c.in-Err.is) is)).crash clean db may) [
            | inl was ↦ g.met.S.Store.settled c.args.conn.store db (c.requires.fresh
                (before clean)).is_open was
            | inr none ↦ absurd none
          ];
      crash = λ clean db may. elim (survives.crash clean db may) [
        | inl was ↦ inl (g.met.S.Store.settled c.args.conn.store db (c.requires.fresh
            (before clean)).is_open was)
        | inr made ↦ inr made
      ];
    }
