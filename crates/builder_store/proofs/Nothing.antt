-- Tables without a row stand for no ring and no request.
use Rattle.std.proofs.Common.{◌≡◌, ◌∙◌, ◌∷◌, List, [], ap, arith, inl, inr, refl, subst, sym, ℤ}
use Rattle.std.specs.Prelude.{All, is_some, cond, length, ◌+◌}
use Rattle.std.specs.declared.cmp.Ordering.{Ordering}
use Rattle.std.proofs.lemmas.List.Elements.{All-nil}
use Rattle.std.specs.Cmp.{int_cmp_total}
use Rattle.std.specs.FinMap.{empty, entries, get-empty, insert, len, len-empty, len-entries}
use Rattle.std.specs.FinMap.{len-insert}
use Rattle.std.specs.Ordering.{int_cmp}
use Rattle.sqlite_trees.specs.Objects.{catalog_tree}
use Rattle.sqlite_catalog.specs.Listing.{Lists}
use Rattle.sqlite_catalog.proofs.ReadLemmas.{lists_once}
use Rattle.sqlite.specs.Effect.{Database, IsDatabase}
use Rattle.sqlite.specs.State.{State}
use Rattle.sqlite.specs.Steps.{IsEmpty}
use Rattle.store_model.specs.Contents.{Contents}
use Rattle.store_tables.specs.Store.{begun_contents}
use Rattle.store_tables.specs.Tables.{schema_of_first}
use Rattle.store_model.specs.Entries.{Meta}
use Rattle.store_rows.specs.Stands.{IsHoldable, RingContent}
use Rattle.builder_store.proofs.Declared.{made_once}
use Rattle.builder_store.proofs.Opens.{nothing_opens}
use Rattle.builder_store.specs.Opening.{AreDeclared, HasBadTexts, IsOpenedAs, OpensAs, no_contents}
use Rattle.builder_store.specs.Opening.{nothing}
use Rattle.store_tables.specs.Texts.{AreDeviceTexts, AreMovedTexts, ArePartTexts, ArePublishedTexts}
use Rattle.store_tables.specs.Texts.{AreRequestTexts, AreRingTexts, AreSeatTexts, AreTexts}

pub one_row : (key : ℤ) (m : Meta) → insert (empty {X = Meta} {R = int_cmp}) key m ≡ empty → ⊥
one_row key m is =
    let one = len-insert int_cmp_total (empty {X = Meta} {R = int_cmp}) key m ∙ ap (λ o. cond
    (is_some o) (len (empty {X = Meta} {R = int_cmp})) (len
    (empty {X = Meta} {R = int_cmp}) + 1)) (get-empty int_cmp key) in
    let none = ap len is ∙ len-empty int_cmp Meta in
    let zero = len-empty int_cmp Meta in
    omega (arith, one, none, zero)

pub nothing_only : (content : RingContent) → OpensAs no_contents content → content ≡ nothing
nothing_only content opens = elim opens.stands [
  | inl is ↦ absurd (one_row _ _ (ap (λ (c : Contents). c.meta) (sym is)))
  | inr more ↦ elim more [
    | inl is ↦ absurd (one_row _ _ (ap (λ (c : Contents). c.meta) (sym is)))
    | inr none ↦ none.1
  ]
]

nil_of : {X : Type 0} (xs : List X) → length xs ≡ 0 → xs ≡ []
nil_of [] none = refl
nil_of (x ∷ xs) none = cc

-- of a table without a row everything holds
of_none : {K V : Type 0} (R : K → K → Ordering) (P : K × V → Type 0)
    → All P (entries (empty {X = V} {R = R}))
of_none {V = V} R P = subst (All P) (sym (nil_of (entries (empty {X = V} {R = R}))
    (sym (len-entries (empty {X = V} {R = R})) ∙ len-empty R V))) (All-nil P)

-- nothing has a text that is none
nothing_texts : AreTexts no_contents
nothing_texts = record {
  rings = of_none _ AreRingTexts;
  devices = of_none _ AreDeviceTexts;
  seats = of_none _ AreSeatTexts;
  moved = of_none _ AreMovedTexts;
  published = of_none _ ArePublishedTexts;
  requests = of_none _ AreRequestTexts;
  parts = of_none _ ArePartTexts;
}

-- what is opened of nothing
pub opened_empty : (s : State) → IsEmpty s → (content : RingContent)
    → IsOpenedAs s.committed.trees content → content ≡ nothing
opened_empty s e content it =
    let trees : s.committed.trees ≡ s.now.trees = ap (λ d. d.trees) (sym e.0.clean) in
    let listed : Lists (s.now.trees catalog_tree) (schema_of_first it.0) = subst (λ db. Lists
    (db catalog_tree) (schema_of_first it.0)) trees it.1.1.lists in
    let made : it.0 ≡ 0 = made_once it.0 0 it.1.0 (omega arith) (lists_once
    (s.now.trees catalog_tree) (schema_of_first it.0) s.now.schema listed
    (e.1 e.0.is_open).0.lists ∙ e.2) in
    nothing_only content (subst (λ n. OpensAs (begun_contents n s.committed.trees) content) made
    it.2)

-- and it is opened, since there are no tables
pub empty_declared : (s : State) → IsEmpty s → AreDeclared 0 s.committed.trees
empty_declared s e = (
  omega arith,
  subst (λ schema. IsDatabase (record { schema = schema; trees = s.committed.trees })) e.2
      (subst (λ (d : Database). IsDatabase (record {
        schema = s.now.schema;
        trees = d.trees;
      })) e.0.clean (e.1 e.0.is_open).0),
)

pub empty_opens : (s : State) → IsEmpty s → IsHoldable nothing → IsOpenedAs s.committed.trees nothing
empty_opens s e holdable = (0, empty_declared s e, nothing_opens holdable)

-- nor has it a text
pub empty_texts : (s : State) → IsEmpty s → HasBadTexts s.committed.trees → ⊥
empty_texts s e it =
    let trees : s.committed.trees ≡ s.now.trees = ap (λ d. d.trees) (sym e.0.clean) in
    let listed : Lists (s.now.trees catalog_tree) (schema_of_first it.0) = subst (λ db. Lists
    (db catalog_tree) (schema_of_first it.0)) trees it.1.1.lists in
    let made : it.0 ≡ 0 = made_once it.0 0 it.1.0 (omega arith) (lists_once
    (s.now.trees catalog_tree) (schema_of_first it.0) s.now.schema listed
    (e.1 e.0.is_open).0.lists ∙ e.2) in
    it.2 (subst (λ n. AreTexts (begun_contents n s.committed.trees)) (sym made) nothing_texts)
