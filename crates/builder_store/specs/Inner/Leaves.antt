-- From what `sqlite` says of a crash to what a keeper promises.
use Rattle.std.specs.Prelude.{◌≡◌, ◌⊎◌, Option, Some, None, IsSomeAnd}
use Rattle.std.proofs.Common.{refl, subst, sym, inl, inr}
use Rattle.std.proofs.Math.Logic.{∥∥₁_elim, ∥∥₁_map}
use mathlib.Core.HLevel.{⊥_prop}
use mathlib.Core.Logic.{∥∥₁_prop}
use Rattle.sqlite_trees.specs.Tree.{Trees}
use Rattle.sqlite.specs.State.{State, HasCleanDisk, Survives}
use Rattle.request_book.specs.Keeper.{CrashLeaves, LeavesOnly}
use Rattle.store_rows.specs.Stands.{RingContent}
use Rattle.builder_store.specs.Opening.{IsOpenedAs}
use Rattle.builder_store.specs.Inner.Finding.{stands_opens}
use Rattle.builder_store.specs.Standing.{WouldFind, IsKnown, MayLeave, content_told}
use Rattle.builder_store.specs.Standing.{StandsAlone}
use Rattle.sqlite_trees.specs.View.{doubt}
use Rattle.builder_store.specs.Inner.Known.{told_stands}
use Rattle.builder_store.specs.Inner.Codes.{content_set}

-- What an opening finds of trees that stand for a content is that content.
pub found_only : (db : Trees) (c : RingContent) → ∥ StandsAlone db c ∥₁ → (left : Option
    (RingContent)) → WouldFind db left → IsSomeAnd left (λ d. d ≡ c)
found_only db c stands None none = ∥∥₁_elim stands ⊥_prop (λ h. none c (stands_opens db c h.0))
found_only db c stands (Some d) is = ∥∥₁_elim stands (content_set d c) (λ h. h.1 d is)

-- Something is found where of each thing that may be left an opening finds something.
pub something_left : (s : State) → ∥ ((db : Trees) × s.may_leave db) ∥₁ → ((db : Trees)
    → s.may_leave db → ∥ ((c : RingContent) × IsOpenedAs db c) ∥₁)
    → ∥ ((left : Option (RingContent)) × MayLeave s left) ∥₁
something_left s some each = ∥∥₁_elim some ∥∥₁_prop (λ db. ∥∥₁_map (each db.0 db.1) (λ h.
    (Some h.0, (db.0, db.1, h.1))))

-- Whatever may be left stands for this content, or for that one.
abbrev pub StandsForOne : State → RingContent → RingContent → Type 0
StandsForOne s c d = (db : Trees) → s.may_leave db → ∥ StandsAlone db c ∥₁ ⊎ ∥ StandsAlone db d ∥₁

stands_for_some : (s : State) (c d : RingContent) → StandsForOne s c d → (db : Trees)
    → s.may_leave db → ∥ ((c : RingContent) × IsOpenedAs db c) ∥₁
stands_for_some s c d each db may = elim (each db may) [
  | inl h ↦ ∥∥₁_map h (λ is.
      (c, stands_opens db c is.0))
  | inr h ↦ ∥∥₁_map h (λ is. (d, stands_opens db d is.0))
]

found_if : (left : Option (RingContent)) (c : RingContent) (P : RingContent → Type 0) → P c
    → IsSomeAnd left (λ d. d ≡ c) → IsSomeAnd left P
found_if None c P h is = is
found_if (Some d) c P h is = subst P (sym is) h

-- What a crash leaves where it leaves one of two contents.
pub leaves_one : (s : State) (c d : RingContent) (P : RingContent → Type 0) → ∥ ((db : Trees)
    × s.may_leave db) ∥₁ → StandsForOne s c d → P c → P d → CrashLeaves (MayLeave s) P
leaves_one s c d P some each first second = record {
  something = something_left s some (stands_for_some s c d each);
  each = λ left may. elim (each may.0 may.1) [
    | inl h ↦ found_if left c P first (found_only may.0 c h left may.2)
    | inr h ↦ found_if left d P second (found_only may.0 d h left may.2)
  ];
}

-- What a crash leaves where it leaves this content alone.
pub leaves_only : (s : State) (c : RingContent) (P : RingContent → Type 0) → ∥ ((db : Trees)
    × s.may_leave db) ∥₁ → ((db : Trees) → s.may_leave db → ∥ StandsAlone db c ∥₁) → P c
    → CrashLeaves (MayLeave s) P
leaves_only s c P some each is = leaves_one s c c P some (λ db may. inl (each db may)) is is

-- An open store leaves its last commit.
pub open_leaves : (s : State) (c : RingContent) (P : RingContent → Type 0) → ((db : Trees)
    → s.may_leave db → db ≡ s.committed.trees) → s.may_leave s.committed.trees
    → ∥ StandsAlone s.committed.trees c ∥₁ → P c → CrashLeaves (MayLeave s) P
open_leaves s c P settled stays stands is = leaves_only s c P ∣ (s.committed.trees, stays) ∣₁
    (λ db may. subst (λ t. ∥ StandsAlone t c ∥₁) (sym (settled db may)) stands) is

-- What a call may leave that commits nothing, or what stands for the second content.
pub after_call : (old new : State) (CommitsThat : Trees → Type 0) (c d : RingContent)
    → HasCleanDisk new → Survives old new CommitsThat → ((db : Trees) → old.may_leave db
    → ∥ StandsAlone db c ∥₁) → ((db : Trees) → CommitsThat db → ∥ StandsAlone db d ∥₁)
    → StandsForOne new c d
after_call old new CommitsThat c d clean call was is = λ db may. elim
    (call.crash clean db may) [ inl h ↦ inl (was db h) | inr h ↦ inr (is db h) ]

-- An open store leaves the content that is told.
pub leaves_still : (s : State) (db : Trees) (known : doubt s.is_clean ≡ 0 → IsKnown db)
    (other : RingContent) → HasCleanDisk s → db ≡ s.committed.trees
    → ((db : Trees) → s.may_leave db → db ≡ s.committed.trees) → s.may_leave s.committed.trees
    → LeavesOnly (MayLeave s) (content_told db s.is_clean known other)
leaves_still s db known other clean is settled stays =
    open_leaves s (content_told db s.is_clean known other) _ settled stays (subst
    (λ t. ∥ StandsAlone t (content_told db s.is_clean known other) ∥₁) is
    (told_stands db s.is_clean known other clean)) refl

-- After a call that commits nothing a crash leaves what the open store held before it.
pub quiet_leaves : (old new : State) (c : RingContent) → HasCleanDisk new → ∥ ((db : Trees)
    × new.may_leave db) ∥₁ → Survives old new (λ _. ⊥)
    → ((db : Trees) → old.may_leave db → db ≡ old.committed.trees)
    → ∥ StandsAlone old.committed.trees c ∥₁ → LeavesOnly (MayLeave new) c
quiet_leaves old new c clean some call settled stands = leaves_only new c _ some (λ db may. elim
    (call.crash clean db may) [
      | inl was ↦ subst (λ t. ∥ StandsAlone t c ∥₁) (sym (settled db was)) stands
      | inr none ↦ absurd none
    ]) refl
