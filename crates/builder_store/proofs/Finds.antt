-- An opening of what was left.
use Rattle.std.proofs.Common.{◌≡◌, ◌∙◌, ◌∷◌, None, Option, Some, [], ap, inl, inr, subst}
use Rattle.std.proofs.Common.{sym, ℕ, ℤ}
use Rattle.std.specs.Prelude.{pos}
use Rattle.std.specs.Cmp.{int_cmp_total}
use Rattle.std.specs.FinMap.{from_entries, get, get-from_entries}
use Rattle.std.specs.Ordering.{int_cmp}
use Rattle.sqlite_trees.specs.Objects.{catalog_tree}
use Rattle.sqlite_trees.specs.Tree.{Trees}
use Rattle.sqlite_catalog.proofs.ReadLemmas.{lists_once}
use Rattle.store_model.specs.Contents.{Contents}
use Rattle.store_tables.specs.Contents.{contents_of}
use Rattle.store_model.specs.Entries.{Meta}
use Rattle.store_tables.specs.Store.{begun_contents}
use Rattle.store_tables.specs.Tables.{schema_of_first}
use Rattle.store_rows.specs.Stands.{IsHoldable, RingContent, contents_for, first_contents_for}
use Rattle.store_rows.specs.Stands.{meta_value}
use Rattle.builder_store.specs.Opening.{AreDeclared, IsMadeOf, IsOpenedAs, OpensAs}
use Rattle.builder_store.specs.Opening.{Stands}
use Rattle.builder_store.specs.Standing.{StandsAlone}
use Rattle.builder_store.specs.Inner.Finding.{stands_opens}
use Rattle.builder_store.proofs.Declared.{made_once}
use Rattle.builder_store.proofs.Nothing.{nothing_only, one_row}

-- that no store stands for two contents
abbrev pub OneContent : Type 0
OneContent = (a b : RingContent) → IsHoldable a → IsHoldable b → contents_for a ≡ contents_for b
    → a ≡ b

-- nor any of schema 1
abbrev pub OneFirst : Type 0
OneFirst = (a b : RingContent) → IsHoldable a → IsHoldable b
    → first_contents_for a ≡ first_contents_for b → a ≡ b

abbrev schema_in : Option Meta → ℤ
schema_in None = pos 0
schema_in (Some m) = m.schema

-- no store is of both schemas
schemas_apart : (hour other : ℕ) → from_entries {R = int_cmp}
    ((pos 1, meta_value 2 hour) ∷ []) ≡ from_entries {R = int_cmp}
    ((pos 1, meta_value 1 other) ∷ []) → ⊥
schemas_apart hour other is =
    let here : pos 2 ≡ pos 1 =
    ap schema_in (sym (get-from_entries int_cmp_total ((pos 1, meta_value 2 hour) ∷ []) (pos 1))
    ∙ ap (λ m. get m (pos 1)) is ∙ get-from_entries int_cmp_total
    ((pos 1, meta_value 1 other) ∷ []) (pos 1)) in
    cc

-- as many tables are declared as in one way only
pub as_many : (db : Trees) (made other : ℕ) → AreDeclared made db → AreDeclared other db
    → made ≡ other
as_many db made other is also = made_once made other is.0 also.0 (lists_once (db catalog_tree)
    (schema_of_first made) (schema_of_first other) is.1.lists also.1.lists)

-- what is opened of trees in which so many tables are declared
pub opened_of : (db : Trees) (made : ℕ) (content : RingContent) → AreDeclared made db
    → IsOpenedAs db content → OpensAs (begun_contents made db) content
opened_of db made content declared it = subst (λ n. OpensAs (begun_contents n db) content)
    (as_many db it.0 made it.1 declared) it.2

pub left_only : OneContent → (db : Trees) (content other : RingContent) → Stands db content
    → IsOpenedAs db other → other ≡ content
left_only one db content other stands it =
    let opens : OpensAs (contents_of db) other = opened_of db 8 other stands.declared it in
    elim opens.stands [
      | inl is ↦ one other content opens.holdable stands.holdable (sym is ∙ stands.contents)
      | inr more ↦ elim more [
        | inl is ↦ absurd (schemas_apart content.hour other.hour (ap (λ (c : Contents). c.meta)
            (sym stands.contents ∙ is)))
        | inr none ↦ absurd (one_row _ _ (ap (λ (c : Contents). c.meta) (sym stands.contents
            ∙ none.0)))
      ]
    ]

-- who stands for a content stands for it alone
pub alone_from : OneContent → (db : Trees) (content : RingContent) → Stands db content
    → StandsAlone db content
alone_from one db content is = (is, λ other it. left_only one db content other is it)

-- what an opening finds of what an earlier one made, it would have found before
pub made_opened : OneContent → (old db : Trees) (content : RingContent) → IsMadeOf old db
    → IsOpenedAs db content → IsOpenedAs old content
made_opened one old db content made it =
    subst (IsOpenedAs old) (sym (left_only one db made.0 content made.2 it)) made.1

-- of whatever trees an opening finds one content at most
pub opened_once : OneContent → OneFirst → (db : Trees) (a b : RingContent) → IsOpenedAs db a
    → IsOpenedAs db b → b ≡ a
opened_once one first db a b it other =
    let opens = it.2 in
    let also : OpensAs (begun_contents it.0 db) b = opened_of db it.0 b it.1 other in
    let meta = λ (c : Contents). c.meta in
    elim opens.stands [
      | inl is ↦ elim also.stands [
        | inl same ↦ one b a also.holdable opens.holdable (sym same ∙ is)
        | inr more ↦ elim more [
          | inl same ↦ absurd (schemas_apart a.hour b.hour (ap meta (sym is ∙ same)))
          | inr none ↦ absurd (one_row _ _ (ap meta (sym is ∙ none.0)))
        ]
      ]
      | inr more ↦ elim more [
        | inl is ↦ elim also.stands [
          | inl same ↦ absurd (schemas_apart b.hour a.hour (ap meta (sym same ∙ is)))
          | inr more ↦ elim more [
            | inl same ↦ first b a also.holdable opens.holdable (sym same ∙ is)
            | inr none ↦ absurd (one_row _ _ (ap meta (sym is ∙ none.0)))
          ]
        ]
        | inr none ↦ nothing_only b (subst (λ c. OpensAs c b) none.0 also) ∙ sym none.1
      ]
    ]

-- and all that it would have found
pub made_opens : OneContent → OneFirst → (old db : Trees) (content : RingContent) → IsMadeOf old db
    → IsOpenedAs old content → IsOpenedAs db content
made_opens one first old db content made it =
    subst (IsOpenedAs db) (opened_once one first old content made.0 it made.1)
    (stands_opens db made.0 made.2)
