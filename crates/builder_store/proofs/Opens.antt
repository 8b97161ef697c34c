-- What the steps of an opening lead to.
use Rattle.std.proofs.Common.{◌≡◌, ◌∙◌, [], None, Ok, Option, Some, ap, arith, inl, inr, refl}
use Rattle.std.proofs.Common.{subst, sym, ◌≤◌, ℕ}
use Rattle.std.specs.Prelude.{◌⊎◌, IfOk, IfSome, IsTrue, MatchOption, Result}
use Rattle.sqlite_trees.specs.Tree.{Trees}
use Rattle.sqlite.specs.Effect.{Database, IsDatabase}
use Rattle.sqlite.specs.State.{HasCleanDisk, State, Survives}
use Rattle.sqlite.specs.declared.error.Error.{Error}
use Rattle.sqlite.proofs.StateLemmas.{survives_then}
use Rattle.std.specs.declared.alloc.Global.{Global}
use Rattle.std.specs.declared.vec.Vec.{Vec}
use Rattle.store_model.specs.declared.change.RowChange.{RowChange}
use Rattle.store_model.specs.declared.rows.MetaRow.{MetaRow}
use Rattle.store_model.specs.Changes.{prepared}
use Rattle.store_model.specs.Contents.{Contents}
use Rattle.store_tables.specs.Store.{AreOrdered, CommitsTables, HasMadeTables, IsStoreWith}
use Rattle.store_tables.specs.Store.{begun_contents}
use Rattle.store_tables.specs.Tables.{schema_of_first}
use Rattle.store_tables.proofs.Living.{store_begun}
use Rattle.store_rows.specs.Judging.{IsFoundIn, meta_now}
use Rattle.store_rows.specs.Stands.{IsHoldable, RingContent, contents_for, first_contents_for}
use Rattle.store_rows.specs.declared.judging.Judged.{Judged}
use Rattle.builder_store.specs.Opening.{AreDeclared, OpensAs, Stands, no_contents, nothing}
use Rattle.builder_store.specs.Inner.Opened.{IsFresh, LeadsInStore, LeadsTo, OpensRows, completed}
use Rattle.builder_store.specs.Inner.Tables.{IsBegunState}
use Rattle.builder_store.specs.declared.fault.OpenFault.{OpenFault}
use Rattle.builder_store.specs.declared.reading.Opened.{Opened}
use Rattle.builder_store.proofs.Settled.{declared_in}

abbrev no_fault : Result (Unit {0}) Error
no_fault = Ok tt

pub survives_same : (s : State) (P : Trees → Type 0) → Survives s s P
survives_same s P = record {
  clean = omega arith;
  shield = λ h. h;
  counts = omega arith;
  limit = refl;
  closes = λ clean h. inl h;
  crash = λ clean db h. inl h;
}

-- tables without a row stand for nothing
pub nothing_opens : IsHoldable nothing → OpensAs no_contents nothing
nothing_opens holdable = record { holdable = holdable; stands = inr (inr (refl, refl)) }

-- and what is made of them stands for it too
pub begun_stands : (x : Contents) (meta : MetaRow) (db : Trees) → IsHoldable nothing
    → x ≡ no_contents → meta ≡ meta_now 0 → IsStoreWith (prepared x [] meta) db → Stands db nothing
begun_stands x meta db holdable empty is made = record {
  declared = declared_in _ db made;
  holdable = holdable;
  contents = made.contents ∙ ap (λ y. prepared y [] meta) empty ∙ ap (prepared no_contents []) is;
}

-- one step after a step that commits nothing
pub opens_after : (c d : Contents) (old mid new : State) (r : Result Opened OpenFault)
    → Survives old mid (λ _. ⊥) → (HasCleanDisk new → d ≡ c) → OpensRows d mid new r
    → OpensRows c old new r
opens_after c d old mid new r quiet is opens = record {
  tables = opens.tables;
  found = λ clean. subst (λ x. IfOk r (LeadsTo x new.committed.trees)) (is clean)
      (opens.found clean);
  survives = survives_then old mid new (λ _. ⊥) (LeadsInStore d) (LeadsInStore c) (λ clean db none.
      absurd none)
      (λ clean db leads. subst (λ x. LeadsInStore x db) (is clean) leads) quiet opens.survives;
}

-- the content that was found in the rows
pub found_opens : (c : Contents) (content : RingContent) (judged : Judged)
    → IsFoundIn c content judged → OpensAs c content
found_opens c content judged found = record {
  holdable = found.holdable;
  stands = by_schema
      judged.migration found.stands;
}
  where
    by_schema : (o : Option (Vec RowChange Global)) → MatchOption o (c ≡ contents_for content)
        (λ changes. (c ≡ first_contents_for content) × (prepared c changes.items
        (meta_now content.hour) ≡ contents_for content))
        → (c ≡ contents_for content) ⊎ ((c ≡ first_contents_for content) ⊎ ((c ≡ no_contents) ×
        (content ≡ nothing)))
    by_schema None is = inl is
    by_schema (Some changes) is = inr (inl is.0)

-- and what is held of it, where these tables stand for it
pub found_leads : (c : Contents) (content : RingContent) (judged : Judged) (db : Trees)
    → IsFoundIn c content judged → Stands db content
    → LeadsTo c db (record {
      rings = judged.rings;
      count = judged.count;
      hour = judged.hour;
      callers = judged.callers;
    })
found_leads c content judged db found stands = record {
  content = content;
  opens = found_opens c content judged found;
  stands = stands;
  rings = sym found.rings;
  count = sym found.count;
  hour = sym found.hour;
  callers = found.callers;
}

-- and once it is completed, the tables stand for it
completed_is : (c : Contents) (content : RingContent) (hour : ℕ) (o : Option (Vec RowChange Global))
    → hour ≡ content.hour → MatchOption o (c ≡ contents_for content)
    (λ changes. (c ≡ first_contents_for content) × (prepared c changes.items
    (meta_now content.hour) ≡ contents_for content)) → completed c hour o ≡ contents_for content
completed_is c content hour None same is = is
completed_is c content hour (Some changes) same both =
    ap (λ n. prepared c changes.items (meta_now n)) same ∙ both.1

pub completed_stands : (c : Contents) (judged : Judged) (db : Trees)
    → IsStoreWith (completed c judged.hour judged.migration) db → (content : RingContent)
    → IsFoundIn c content judged → Stands db content
completed_stands c judged db stands content found = record {
  declared = declared_in _ db stands;
  holdable = found.holdable;
  contents = stands.contents ∙ completed_is c content judged.hour judged.migration found.hour
      found.stands;
}

-- where all tables are there, nothing is missing
pub begun_whole : (s : State) (made : ℕ) → made ≡ 8
    → (HasCleanDisk s → IsBegunState made s)
    → CommitsTables s s no_fault (begun_contents made s.now.trees)
begun_whole s made all begun = record {
  done = λ clean.
      let it = begun clean in (
        it.is_open,
        it.committed,
        record {
          store = store_begun s.now (subst (λ n. HasMadeTables n s.now) all it.begun);
          contents = ap (λ n. begun_contents n s.now.trees) (sym all);
        },
      );
  none = λ _ _. tt;
  survives = survives_same s _;
}

-- tables that were counted are declared in what is committed
pub declared_as : (s : State) (found : Option ℕ) (made : ℕ) → found ≡ Some made
    → IfSome found (λ n. (n ≤ 8) × (s.now.schema ≡ schema_of_first n)) → IsFresh s
    → (IsTrue s.is_open → AreOrdered s.now → IfSome found (λ n. HasMadeTables n s.now))
    → AreDeclared made s.committed.trees
declared_as s found made is told fresh begun =
    let it : (made ≤ 8) × (s.now.schema ≡ schema_of_first made) = subst (λ o. IfSome o
    (λ n. (n ≤ 8) × (s.now.schema ≡ schema_of_first n))) is told in
    let sound : IsDatabase s.now = (subst (λ o. IfSome o (λ n. HasMadeTables n s.now)) is
    (begun fresh.is_open fresh.ordered)).sound in (
      it.0,
      subst (λ schema. IsDatabase (record { schema = schema; trees = s.committed.trees })) it.1
          (subst (λ (d : Database). IsDatabase (record {
            schema = s.now.schema;
            trees = d.trees;
          })) fresh.committed sound),
    )
