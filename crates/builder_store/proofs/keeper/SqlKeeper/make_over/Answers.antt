use Rattle.std.proofs.Common.{◌≤◌, Err, ap, arith, inl, inr, refl, subst, sym}
use Rattle.sqlite.specs.Effect.{Database, IsDatabase}
use Rattle.sqlite.specs.Held.{state}
use Rattle.sqlite.specs.State.{HasCleanDisk}
use Rattle.sqlite_catalog.specs.Listing.{Lists}
use Rattle.sqlite_catalog.proofs.ReadLemmas.{lists_once}
use Rattle.sqlite_trees.specs.Objects.{catalog_tree}
use Rattle.sqlite_trees.specs.View.{doubt}
use Rattle.store_tables.specs.Tables.{no_tables}
use Rattle.builder_store.specs.Making.{rings_alone}
use Rattle.builder_store.proofs.Finds.{alone_from}
use Rattle.builder_store.proofs.Taking.{met_while_open}
use Rattle.store_rows.proofs.Used.{bounds_none}
use Rattle.builder_store.proofs.Bounding.{bounds_alone}
use Rattle.builder_store.proofs.keeper.SqlKeeper.make_over.Goals as goal

pub holding-requires-clause-holds : goal.holding-requires-clause-holds
holding-requires-clause-holds g c = λ clean.
    let content = rings_alone c.args.rings c.args.hour in
    ∣ (
      content,
      alone_from c.one_content.ensures (state g.S.Store c.make_ready.new.conn).committed.trees
          content (c.in-Ok.ensures.made clean),
      refl,
      refl,
      refl,
    ) ∣₁

pub holding-requires-clause-known : goal.holding-requires-clause-known
holding-requires-clause-known g c = λ clean.
    let content = rings_alone c.args.rings c.args.hour in
    bounds_alone (state g.S.Store c.make_ready.new.conn).committed.trees content _ (alone_from
    c.one_content.ensures (state g.S.Store c.make_ready.new.conn).committed.trees content
    (c.in-Ok.ensures.made clean)) (bounds_none _)

pub returns-in-Ok-clause-begins : goal.returns-in-Ok-clause-begins
returns-in-Ok-clause-begins g c =
    let old = state g.S.Store c.args.conn in
    let new = state g.S.Store c.make_ready.new.conn in
    let content = rings_alone c.args.rings c.args.hour in
    let is = c.holding.ensures in
    record {
      limit = is.limit;
      faults = is.faults;
      clean = subst (λ h. doubt old.is_clean ≤ doubt (state g.S.Store h).is_clean) (sym is.same)
          c.in-Ok.ensures.survives.clean;
      made = λ clean.
          let still : HasCleanDisk new = subst (λ h. HasCleanDisk (state g.S.Store h)) is.same
          clean in
          is.content content clean (alone_from c.one_content.ensures new.committed.trees content
          (c.in-Ok.ensures.made still));
      nothing = λ clean.
          let still : HasCleanDisk new = subst (λ h. HasCleanDisk (state g.S.Store h)) is.same
          clean in
          let before : HasCleanDisk old = omega (arith, c.in-Ok.ensures.survives.clean, still) in
          let fresh = c.requires.made.fresh before in
          let sound = subst (λ (d : Database). IsDatabase (record {
            schema = old.now.schema;
            trees = d.trees;
          })) fresh.committed (fresh.live fresh.is_open).0 in (
            omega arith,
            subst (λ s. IsDatabase (record { schema = s; trees = old.committed.trees }))
                c.in-Ok.ensures.nothing sound,
          );
    }

pub returns-in-Err-clause-refused : goal.returns-in-Err-clause-refused
returns-in-Err-clause-refused g c =
    let old = state g.S.Store c.args.conn in
    let new = state g.S.Store c.make_ready.new.conn in
    let survives = c.in-Err.ensures.survives in
    let before : HasCleanDisk new → HasCleanDisk old = λ clean. omega
    (arith, survives.clean, clean) in
    record {
      clean = survives.clean;
      unjudged = c.in-Err.ensures.unjudged;
      of_connection = c.in-Err.ensures.of_connection;
      failed = λ is clean. met_while_open old new (c.requires.made.fresh (before clean)).is_open
          (c.in-Err.ensures.failed clean is);
      taken = λ is clean declared.
          let fresh = c.requires.made.fresh (before clean) in
          let listed : Lists (old.now.trees catalog_tree) no_tables = subst
          (λ (d : Database). Lists (d.trees catalog_tree) no_tables) (sym fresh.committed)
          declared.1.lists in
          (c.in-Err.ensures.taken (ap Err is)).1 (lists_once (old.now.trees catalog_tree)
          old.now.schema no_tables (fresh.live fresh.is_open).0.lists listed);
      stays = λ is clean db may. g.met.S.Store.settled c.args.conn.store db (c.requires.made.fresh
          (before clean)).is_open (subst (λ conn. (state g.S.Store conn).may_leave db)
          (c.in-Err.ensures.taken (ap Err is)).0 may);
      crash = λ clean db may. elim (survives.crash clean db may) [
        | inl was ↦ inl (g.met.S.Store.settled c.args.conn.store db (c.requires.made.fresh
            (before clean)).is_open was)
        | inr made ↦ inr made
      ];
    }
