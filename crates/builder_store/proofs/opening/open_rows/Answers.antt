use Rattle.std.proofs.Common.{Err, inl, inr}
use Rattle.store_rows.proofs.BookOpens.{refuted}
use Rattle.std.proofs.Common.{◌≡◌, ◌∙◌, ap, arith, subst, sym}
use Rattle.std.specs.Prelude.{IfOk}
use Rattle.sqlite.specs.Held.{state}
use Rattle.sqlite.specs.State.{HasCleanDisk}
use Rattle.sqlite.proofs.StateLemmas.{survives_then, survives_weaker}
use Rattle.store_model.specs.Contents.{Contents}
use Rattle.sqlite.specs.Effect.{Database}
use Rattle.store_tables.specs.Store.{HasMadeTables, begun_contents}
use Rattle.store_rows.specs.Judging.{IsFoundIn, Judges}
use Rattle.ring_words.specs.declared.spelling.SpellingFault.{SpellingFault}
use Rattle.ring_words.specs.declared.spelling.SpellingFault.TheVariants.{Bad}
use Rattle.builder_store.specs.Opening.{no_contents}
use Rattle.builder_store.specs.Inner.Opened.{LeadsInStore, LeadsTo}
use Rattle.builder_store.proofs.Judged.{no_judge, no_rows}
use Rattle.builder_store.proofs.Opens.{opens_after}
use Rattle.builder_store.proofs.Stops.{only_after}
use Rattle.builder_store.specs.declared.fault.OpenFault.TheVariants.{BadRows, BadTables, BadTexts}
use Rattle.builder_store.proofs.opening.open_rows.Goals as goal

pub begin-requires-clause-begun : goal.begin-requires-clause-begun
begin-requires-clause-begun g c = λ clean.
    let old = state g.S.Store c.args.conn.now in
    let was : HasCleanDisk old = omega (arith, c.in-Ok.ensures.reads.survives.clean, clean) in
    let same = c.in-Ok.ensures.reads.same clean in
    subst (HasMadeTables c.args.made) (sym same.0.now_is) (c.requires.begun was).begun

pub returns-then-is_empty-clause-opens : goal.returns-then-is_empty-clause-opens
returns-then-is_empty-clause-opens g c =
    let old = state g.S.Store c.args.conn.now in
    let mid = state g.S.Store c.read_rows.new.conn in
    let new = state g.S.Store c.begin.new.conn in
    let found : Contents = begun_contents c.args.made old.now.trees in
    let reads = c.in-Ok.ensures.reads in
    let empty : HasCleanDisk mid → found ≡ no_contents = λ clean. (c.is_empty.ensures found
    (reads.answer clean)).0 c.if-is_empty.true in
    let premise : HasCleanDisk mid → begun_contents c.args.made mid.now.trees ≡ no_contents = λ clean. ap (λ (d : Database). begun_contents c.args.made d.trees) (reads.same clean).0.now_is ∙ empty clean in
    opens_after found no_contents old mid new c.begin.result reads.survives (λ clean. sym (empty
    (omega (arith, (c.begin.ensures.opens premise).survives.clean, clean))))
    (c.begin.ensures.opens premise)

pub returns-in-Ok-judge-clause-opens : goal.returns-in-Ok-judge-clause-opens
returns-in-Ok-judge-clause-opens g c =
    let old = state g.S.Store c.args.conn.now in
    let mid = state g.S.Store c.read_rows.new.conn in
    let new = state g.S.Store c.migrate.new.conn in
    let found : Contents = begun_contents c.args.made old.now.trees in
    let reads = c.in-Ok.ensures.reads in
    let before : HasCleanDisk new → HasCleanDisk mid = λ clean. omega
    (arith, c.migrate.ensures.survives.clean, clean) in
    let same : HasCleanDisk new → begun_contents c.args.made mid.now.trees ≡ found = λ clean. ap (λ (d : Database). begun_contents c.args.made d.trees) (reads.same (before clean)).0.now_is in
    let judged = λ (clean : HasCleanDisk new). c.in-Ok-judge.ensures found (reads.answer
    (before clean)) in
    let is : (clean : HasCleanDisk new) → IsFoundIn (begun_contents c.args.made mid.now.trees)
    (judged clean).0 c.in-Ok-judge.judged =
    λ clean. subst (λ x. IsFoundIn x (judged clean).0 c.in-Ok-judge.judged) (sym (same clean))
    (judged clean).1 in
    record {
      tables = c.migrate.ensures.tables;
      found = λ clean. subst (λ x. IfOk c.migrate.result (LeadsTo x new.committed.trees))
          (same clean) (c.migrate.ensures.found clean (judged clean).0 (is clean));
      survives = survives_then old mid new (λ _. ⊥) _ (LeadsInStore found) (λ clean db none. absurd
          none)
          (λ clean db leads. subst (λ x. LeadsInStore x db) (same clean) (leads (judged clean).0
          (is clean)))
          reads.survives c.migrate.ensures.survives;
    }

pub returns-in-Err-clause-opens : goal.returns-in-Err-clause-opens
returns-in-Err-clause-opens g c =
    let old = state g.S.Store c.args.conn.now in
    let new = state g.S.Store c.read_rows.new.conn in
    record {
      tables = λ _. tt;
      found = λ _. tt;
      survives = survives_weaker old new _ _ (λ _ db none. absurd none)
          c.in-Err.ensures.reads.survives;
    }

pub returns-in-Err-NoMemory-clause-opens : goal.returns-in-Err-NoMemory-clause-opens
returns-in-Err-NoMemory-clause-opens g c = record {
  tables = λ _. tt;
  found = λ _. tt;
  survives = survives_weaker (state g.S.Store c.args.conn.now)
      (state g.S.Store c.read_rows.new.conn) _ _ (λ _ db none. absurd none)
      c.in-Ok.ensures.reads.survives;
}

pub returns-in-Err-Bad-clause-opens : goal.returns-in-Err-Bad-clause-opens
returns-in-Err-Bad-clause-opens g c = record {
  tables = λ _. tt;
  found = λ _. tt;
  survives = survives_weaker (state g.S.Store c.args.conn.now)
      (state g.S.Store c.read_rows.new.conn) _ _ (λ _ db none. absurd none)
      c.in-Ok.ensures.reads.survives;
}

pub returns-in-Err-NoMemory-clause-quiet : goal.returns-in-Err-NoMemory-clause-quiet
returns-in-Err-NoMemory-clause-quiet g c = λ _. c.in-Ok.ensures.reads.survives

pub returns-in-Err-Bad-clause-quiet : goal.returns-in-Err-Bad-clause-quiet
returns-in-Err-Bad-clause-quiet g c = λ _. c.in-Ok.ensures.reads.survives

pub returns-in-Ok-judge-clause-quiet : goal.returns-in-Ok-judge-clause-quiet
returns-in-Ok-judge-clause-quiet g c = λ bad. absurd
    (no_rows c.migrate.result c.migrate.ensures.other bad)

pub returns-then-is_empty-clause-quiet : goal.returns-then-is_empty-clause-quiet
returns-then-is_empty-clause-quiet g c = λ bad. absurd
    (no_rows c.begin.result c.begin.ensures.other bad)

pub returns-in-Err-clause-quiet : goal.returns-in-Err-clause-quiet
returns-in-Err-clause-quiet g c = λ _. c.in-Err.ensures.reads.survives

pub migrate-requires-clause-begun : goal.migrate-requires-clause-begun
migrate-requires-clause-begun g c = λ clean.
    let old = state g.S.Store c.args.conn.now in
    let was : HasCleanDisk old = omega (arith, c.in-Ok.ensures.reads.survives.clean, clean) in
    let shown = (c.in-Ok.ensures.reads.same clean).0 in
    let before = c.requires.begun was in
    record {
      is_open = shown.is_open;
      begun = subst (HasMadeTables c.args.made) (sym shown.now_is) before.begun;
      committed = shown.now_is ∙ before.committed ∙ sym shown.committed_is;
    }

pub returns-in-Err-Bad-clause-bad : goal.returns-in-Err-Bad-clause-bad
returns-in-Err-Bad-clause-bad g c = λ bad clean content opens.
    let found : Contents = begun_contents c.args.made (state g.S.Store c.args.conn.now).now.trees in
    let judged : Judges found (Err Bad) = subst (λ (f : SpellingFault). Judges found (Err f))
    c.in-Err-Bad.field-0-is (c.in-Err-Bad.ensures found (c.in-Ok.ensures.reads.answer clean)) in
    elim opens.stands [
      | inl second ↦ judged content (record {
        holdable = opens.holdable;
        stands = inl second;
      })
      | inr more ↦ elim more [
        | inl first ↦ judged content (record {
          holdable = opens.holdable;
          stands = inr first;
        })
        | inr none ↦ refuted _ _ c.if-is_empty.false (c.is_empty.ensures found
            (c.in-Ok.ensures.reads.answer clean)) none.0
      ]
    ]

pub returns-in-Ok-judge-clause-bad : goal.returns-in-Ok-judge-clause-bad
returns-in-Ok-judge-clause-bad g c = λ bad. absurd
    (no_judge c.migrate.result BadRows tt c.migrate.ensures.other bad)

pub returns-then-is_empty-clause-bad : goal.returns-then-is_empty-clause-bad
returns-then-is_empty-clause-bad g c = λ bad. absurd
    (no_judge c.begin.result BadRows tt c.begin.ensures.other bad)

pub returns-in-Ok-judge-clause-other : goal.returns-in-Ok-judge-clause-other
returns-in-Ok-judge-clause-other g c = no_judge c.migrate.result BadTables tt c.migrate.ensures.other

pub returns-then-is_empty-clause-other : goal.returns-then-is_empty-clause-other
returns-then-is_empty-clause-other g c = no_judge c.begin.result BadTables tt c.begin.ensures.other

pub returns-in-Ok-judge-clause-texts : goal.returns-in-Ok-judge-clause-texts
returns-in-Ok-judge-clause-texts g c = λ bad. absurd
    (no_judge c.migrate.result BadTexts tt c.migrate.ensures.other bad)

pub returns-then-is_empty-clause-texts : goal.returns-then-is_empty-clause-texts
returns-then-is_empty-clause-texts g c = λ bad. absurd
    (no_judge c.begin.result BadTexts tt c.begin.ensures.other bad)

pub returns-in-Err-clause-texts : goal.returns-in-Err-clause-texts
returns-in-Err-clause-texts g c = λ bad clean.
    let is : c.reading_fault.result ≡ BadTexts = cc in
    c.in-Err.ensures.no_text clean (c.reading_fault.ensures.texts.0 is)

pub returns-in-Err-clause-failed : goal.returns-in-Err-clause-failed
returns-in-Err-clause-failed g c = λ clean told. c.in-Err.ensures.cause clean
    (c.reading_fault.ensures.failed told)

pub returns-in-Ok-judge-clause-failed : goal.returns-in-Ok-judge-clause-failed
returns-in-Ok-judge-clause-failed g c = only_after (state g.S.Store c.args.conn.now)
    (state g.S.Store c.read_rows.new.conn) (state g.S.Store c.migrate.new.conn) _ c.migrate.result
    c.in-Ok.ensures.reads.survives c.migrate.ensures.survives c.migrate.ensures.failed

pub returns-then-is_empty-clause-failed : goal.returns-then-is_empty-clause-failed
returns-then-is_empty-clause-failed g c =
    let old = state g.S.Store c.args.conn.now in
    let mid = state g.S.Store c.read_rows.new.conn in
    let new = state g.S.Store c.begin.new.conn in
    let found : Contents = begun_contents c.args.made old.now.trees in
    let reads = c.in-Ok.ensures.reads in
    let empty : HasCleanDisk mid → found ≡ no_contents = λ clean. (c.is_empty.ensures found
    (reads.answer clean)).0 c.if-is_empty.true in
    let premise : HasCleanDisk mid → begun_contents c.args.made mid.now.trees ≡ no_contents = λ clean. ap (λ (d : Database). begun_contents c.args.made d.trees) (reads.same clean).0.now_is ∙ empty clean in
    only_after old mid new _ c.begin.result reads.survives (c.begin.ensures.opens premise).survives
    c.begin.ensures.failed
