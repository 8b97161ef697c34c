-- The content for which the tables stand, and what a crash may leave of it.
use Rattle.std.specs.Prelude.{◌≡◌, ℕ, length, Bool, true, false, Option, Some, None}
use Rattle.std.proofs.Math.Logic.{∥∥₁_elim, ∥∥₁_map}
use mathlib.Core.Logic.{∥∥₁_prop}
use mathlib.Core.HLevel.{Σ_prop_path}
use Rattle.sqlite_trees.specs.Tree.{Trees}
use Rattle.sqlite_trees.specs.View.{doubt}
use Rattle.sqlite.specs.State.{State}
use Rattle.store_rows.specs.RingRows.{NamedRings}
use Rattle.store_rows.specs.Stands.{RingContent}
use Rattle.builder_store.specs.Opening.{IsOpenedAs, Stands}
use Rattle.builder_store.specs.Inner.Finding.{stands_opens}
use Rattle.builder_store.specs.Inner.Codes.{content_set}
use Rattle.builder_store.specs.Doubt.{undoubted}

-- The tables in these trees stand for this content, and an opening of them finds no other.
abbrev pub StandsAlone : Trees → RingContent → Type 0
StandsAlone db content = Stands db content × ((other : RingContent) → IsOpenedAs db other
    → other ≡ content)

-- They stand for one content.
abbrev pub IsKnown : Trees → Type 0
IsKnown db = ∥ ((content : RingContent) × StandsAlone db content) ∥₁

alike : (db : Trees) (c d : RingContent) → ∥ StandsAlone db c ∥₁ → ∥ StandsAlone db d ∥₁ → c ≡ d
alike db c d p q = ∥∥₁_elim p (content_set c d) (λ h. ∥∥₁_elim q (content_set c d)
    (λ k. k.1 c (stands_opens db c h.0)))

only_one : (db : Trees) → IsProp ((c : RingContent) × ∥ StandsAlone db c ∥₁)
only_one db u v = Σ_prop_path (λ c. ∥∥₁_prop) (alike db u.0 v.0 u.1 v.1)

-- The content for which they stand.
pub the_content : (db : Trees) → IsKnown db → (content : RingContent) × ∥ StandsAlone db content ∥₁
the_content db known = ∥∥₁_elim known (only_one db) (λ s. (s.0, ∣ s.1 ∣₁))

-- The content for which they stand, while the disk is clean. Else nothing is known, and it is this
-- one.
abbrev pub content_told : (db : Trees) (is_clean : Bool) → (doubt is_clean ≡ 0 → IsKnown db)
    → RingContent → RingContent
content_told db true known other = (the_content db (known undoubted)).0
content_told db false known other = other

-- They stand for one content, and it has these rings, so many requests and this hour.
abbrev pub Holds : Trees → NamedRings → ℕ → ℕ → Type 0
Holds db rings count hour = ∥ ((content : RingContent) × StandsAlone db content ×
    (content.state ≡ rings) × (length content.book ≡ count) × (content.hour ≡ hour)) ∥₁

-- Where they hold that, they stand for one content.
abbrev pub stands_for_one : {db : Trees} {rings : NamedRings} {count hour : ℕ}
    → Holds db rings count hour → IsKnown db
stands_for_one held = ∥∥₁_map held (λ h. (h.0, h.1))

-- An opening of these trees finds this content, or, as None, it finds none.
abbrev pub WouldFind : Trees → Option RingContent → Type 0
WouldFind db None = (content : RingContent) → ¬ IsOpenedAs db content
WouldFind db (Some content) = IsOpenedAs db content

-- A crash may leave trees of which an opening finds this.
abbrev pub MayLeave : State → Option RingContent → Type 0
MayLeave s left = (db : Trees) × s.may_leave db × WouldFind db left
