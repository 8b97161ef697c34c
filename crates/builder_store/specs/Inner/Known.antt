-- What is known of a content by the tables that stand for it.
use Rattle.std.specs.Prelude.{◌≡◌, ℕ, Bool, true, false, cond, length, nat_lt}
use Rattle.std.proofs.Common.{◌∙◌, ap, refl, subst, sym}
use mathlib.Core.HLevel.{×₃_prop}
use Rattle.std.specs.Coded.{Coded-set, coded_ℕ}
use Rattle.std.proofs.Math.Logic.{∥∥₁_elim}
use Rattle.sqlite_trees.specs.Tree.{Trees}
use Rattle.sqlite_trees.specs.View.{doubt}
use Rattle.sqlite_trees.specs.declared.store.Store.{Ghosts}
use Rattle.sqlite.specs.Held.{Held, state}
use Rattle.store_rows.specs.RingRows.{NamedRings}
use Rattle.store_rows.specs.Stands.{RingContent}
use Rattle.builder_store.specs.Standing.{Holds, StandsAlone, IsKnown, stands_for_one, the_content}
use Rattle.builder_store.specs.Standing.{content_told}
use Rattle.builder_store.specs.Inner.Codes.{content_set}
use Rattle.builder_store.specs.Inner.Finding.{stands_opens}
use Rattle.builder_store.specs.Inner.Sets.{state_set}
use Rattle.builder_store.specs.Doubt.{undoubted}

-- there is some doubt of a disk that isn't clean
doubted : doubt false ≡ 0 → ⊥
unfolding doubt
doubted h = cc

-- while the disk is clean, the tables stand for the content that is told
pub told_stands : (db : Trees) (clean : Bool) (known : doubt clean ≡ 0 → IsKnown db)
    (other : RingContent) → doubt clean ≡ 0 → ∥ StandsAlone db
    (content_told db clean known other) ∥₁
told_stands db true known other is = (the_content db (known undoubted)).1
told_stands db false known other is = absurd (doubted is)

-- and it is the one that they stand for
pub told_is : (db : Trees) (clean : Bool) (known : doubt clean ≡ 0 → IsKnown db)
    (other c : RingContent) → doubt clean ≡ 0 → ∥ StandsAlone db c ∥₁
    → content_told db clean known other ≡ c
told_is db clean known other c is h =
    ∥∥₁_elim h (content_set _ c) (λ k. ∥∥₁_elim (told_stands db clean known other is)
    (content_set _ c) (λ j. k.1 _ (stands_opens db _ j.0)))

-- the connection of a keeper whose store hasn't failed
pub whole_store : {A : Type 0} (n : ℕ) (last conn : A) → n ≡ 0 → cond (nat_lt 0 n) last conn ≡ conn
whole_store n last conn e = subst (λ m. cond (nat_lt 0 m) last conn ≡ conn) (sym e) refl

-- and what it committed
pub whole_trees : {S : Type 0} (g : Ghosts S) (n : ℕ) (last conn : Held S) → n ≡ 0 → (state g (cond
    (nat_lt 0 n) last conn)).committed.trees ≡ (state g conn).committed.trees
whole_trees g n last conn e = ap (λ h. (state g h).committed.trees) (whole_store n last conn e)

-- what is told has the rings, the count and the hour that are held
pub told_agrees : (db : Trees) (clean : Bool) (rings : NamedRings) (count hour : ℕ)
    (held : doubt clean ≡ 0 → Holds db rings count hour) (other : RingContent) → doubt clean ≡ 0
    → ((content_told db clean (λ i. stands_for_one (held i)) other).state ≡ rings) × (length
    (content_told db clean (λ i. stands_for_one (held i)) other).book ≡ count) ×
    ((content_told db clean (λ i. stands_for_one (held i)) other).hour ≡ hour)
told_agrees db clean rings count hour held other is =
    let told : RingContent = content_told db clean (λ i. stands_for_one (held i)) other in
    ∥∥₁_elim (held is) (×₃_prop (state_set told.state rings) (Coded-set coded_ℕ
    (length told.book) count) (Coded-set coded_ℕ told.hour hour)) (λ h.
    let same : told ≡ h.0 = told_is db clean (λ i. stands_for_one (held i)) other h.0 is ∣ h.1 ∣₁ in
    (ap (λ c. c.state) same ∙ h.2, ap (λ c. length c.book) same ∙ h.3, ap (λ c. c.hour) same ∙ h.4))

-- equal trees tell equal contents
pub told_same : (db after : Trees) (clean still : Bool) (known : doubt clean ≡ 0 → IsKnown db)
    (later : doubt still ≡ 0 → IsKnown after) (other more : RingContent) → after ≡ db
    → doubt clean ≡ 0 → doubt still ≡ 0
    → content_told after still later more ≡ content_told db clean known other
told_same db after clean still known later other more same is now =
    told_is after still later more _ now (subst (λ t. ∥ StandsAlone t
    (content_told db clean known other) ∥₁) (sym same) (told_stands db clean known other is))
