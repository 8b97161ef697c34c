use Rattle.std.proofs.Common.{sym}
use Rattle.sqlite_trees.specs.Objects.{catalog_tree}
use Rattle.sqlite_catalog.proofs.ReadLemmas.{lists_once}
use Rattle.store_tables.specs.Tables.{schema_of_first}
use Rattle.builder_store.proofs.Declared.{made_once}
use Rattle.std.proofs.Common.{arith, subst}
use Rattle.std.specs.Prelude.{IfSome}
use Rattle.std.proofs.lemmas.Result.{IfOk-weaker}
use Rattle.sqlite.specs.Effect.{Database, IsDatabase}
use Rattle.sqlite.specs.Held.{state}
use Rattle.sqlite.specs.State.{HasCleanDisk}
use Rattle.sqlite.proofs.StateLemmas.{survives_weaker}
use Rattle.store_tables.specs.Store.{HasMadeTables, begun_contents}
use Rattle.store_tables.specs.Texts.{AreTexts}
use Rattle.builder_store.specs.Opening.{OpensAs}
use Rattle.builder_store.proofs.Opens.{declared_as, survives_same}
use Rattle.builder_store.proofs.starting.open_tables.Goals as goal

pub open_rows-requires-clause-begun : goal.open_rows-requires-clause-begun
open_rows-requires-clause-begun g c = λ clean.
    let s = state g.S.Store c.args.conn.now in
    let fresh = c.requires.fresh clean in
    record {
      is_open = fresh.is_open;
      begun = subst (λ o. IfSome o (λ made. HasMadeTables made s.now)) c.in-Ok-Some.field-0-is
          (c.in-Ok-Some.ensures.begun fresh.is_open fresh.ordered);
      committed = fresh.committed;
    }

pub returns-in-Ok-Some-clause-tables : goal.returns-in-Ok-Some-clause-tables
returns-in-Ok-Some-clause-tables g c = c.open_rows.ensures.opens.tables

pub returns-in-Ok-Some-clause-found : goal.returns-in-Ok-Some-clause-found
returns-in-Ok-Some-clause-found g c = λ clean.
    let s = state g.S.Store c.args.conn.now in
    let made = c.in-Ok-Some.made in
    let was : HasCleanDisk s = omega (arith, c.open_rows.ensures.opens.survives.clean, clean) in
    let fresh = c.requires.fresh was in
    let declared = declared_as s c.in-Ok-Some.field-0 made c.in-Ok-Some.field-0-is
    c.in-Ok-Some.ensures.declared fresh c.in-Ok-Some.ensures.begun in
    IfOk-weaker c.open_rows.result _ _ (λ held leads. record {
      content = leads.content;
      opens = (
        made,
        declared,
        subst (λ (d : Database). OpensAs (begun_contents made d.trees) leads.content)
            fresh.committed leads.opens,
      );
      stands = leads.stands;
      rings = leads.rings;
      count = leads.count;
      hour = leads.hour;
      callers = leads.callers;
    }) (c.open_rows.ensures.opens.found clean)

pub returns-in-Ok-Some-clause-survives : goal.returns-in-Ok-Some-clause-survives
returns-in-Ok-Some-clause-survives g c =
    let s = state g.S.Store c.args.conn.now in
    let new = state g.S.Store c.open_rows.new.conn in
    let made = c.in-Ok-Some.made in
    survives_weaker s new _ _ (λ clean db leads.
    let was : HasCleanDisk s = omega (arith, c.open_rows.ensures.opens.survives.clean, clean) in
    let fresh = c.requires.fresh was in (
      leads.0,
      (
        made,
        declared_as s c.in-Ok-Some.field-0 made c.in-Ok-Some.field-0-is
            c.in-Ok-Some.ensures.declared fresh c.in-Ok-Some.ensures.begun,
        subst (λ (d : Database). OpensAs (begun_contents made d.trees) leads.0) fresh.committed
            leads.1,
      ),
      leads.2,
    )) c.open_rows.ensures.opens.survives

pub returns-in-Ok-None-clause-survives : goal.returns-in-Ok-None-clause-survives
returns-in-Ok-None-clause-survives g c = survives_same (state g.S.Store c.args.conn.now) _

pub returns-in-Err-clause-survives : goal.returns-in-Err-clause-survives
returns-in-Err-clause-survives g c = survives_same (state g.S.Store c.args.conn.now) _

pub returns-in-Ok-Some-clause-bad : goal.returns-in-Ok-Some-clause-bad
returns-in-Ok-Some-clause-bad g c = λ bad clean content it.
    let s = state g.S.Store c.args.conn.now in
    let made = c.in-Ok-Some.made in
    let was : HasCleanDisk s = omega (arith, c.open_rows.ensures.opens.survives.clean, clean) in
    let fresh = c.requires.fresh was in
    let declared = declared_as s c.in-Ok-Some.field-0 made c.in-Ok-Some.field-0-is
    c.in-Ok-Some.ensures.declared fresh c.in-Ok-Some.ensures.begun in
    let same = made_once it.0 made it.1.0 declared.0 (lists_once (s.committed.trees catalog_tree)
    (schema_of_first it.0) (schema_of_first made) it.1.1.lists declared.1.lists) in
    c.open_rows.ensures.bad bad clean content (subst (λ (d : Database). OpensAs (begun_contents made
    d.trees) content) (sym fresh.committed) (subst (λ n. OpensAs (begun_contents n s.committed.trees)
    content) same it.2))

pub returns-in-Ok-None-clause-missing : goal.returns-in-Ok-None-clause-missing
returns-in-Ok-None-clause-missing g c = λ bad clean made declared.
    let s = state g.S.Store c.args.conn.now in
    let fresh = c.requires.fresh clean in
    let sound = (fresh.live fresh.is_open).0 in
    let told = subst (λ (d : Database). IsDatabase (record {
      schema = s.now.schema;
      trees = d.trees;
    })) fresh.committed sound in
    c.in-Ok-None.ensures.missing c.in-Ok-None.field-0-is made declared.0 (lists_once (s.committed.trees catalog_tree)
    s.now.schema (schema_of_first made) told.lists declared.1.lists)

pub returns-in-Ok-Some-clause-texts : goal.returns-in-Ok-Some-clause-texts
returns-in-Ok-Some-clause-texts g c = λ bad clean.
    let s = state g.S.Store c.args.conn.now in
    let made = c.in-Ok-Some.made in
    let was : HasCleanDisk s = omega (arith, c.open_rows.ensures.opens.survives.clean, clean) in
    let fresh = c.requires.fresh was in
    let declared = declared_as s c.in-Ok-Some.field-0 made c.in-Ok-Some.field-0-is
    c.in-Ok-Some.ensures.declared fresh c.in-Ok-Some.ensures.begun in (
      made,
      declared,
      λ texts. c.open_rows.ensures.texts bad clean (subst (λ (d : Database). AreTexts
          (begun_contents made d.trees)) (sym fresh.committed) texts),
    )
