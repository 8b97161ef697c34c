-- A query leaves the database as it is.
use Rattle.std.proofs.Common.{◌≡◌, ℕ, List, sym, ap, subst, ◌∙◌, arith}
use Rattle.sqlite_value.specs.Order.{Row}
use Rattle.sqlite_schema.specs.declared.schema.Schema.{Schema}
use Rattle.sqlite.specs.Listing.{understood}
use Rattle.sqlite.specs.Clock.{timed}
use Rattle.sqlite.specs.State.{State, HasCleanDisk, Survives, IsUnchanged, Shown, ShowsRows}
use Rattle.sqlite.specs.State.{CommitsShowing}
use Rattle.sqlite.proofs.StateLemmas.{survives_weaker}
use Rattle.sqlite.proofs.Callers.{IsPlain, never_commits}

pub shown_unchanged : (schema : Schema) (sql : List ℕ) (params : Row) (old new : State)
    (rows : List Row) → old.now.schema ≡ schema → IsPlain (understood schema sql) →
    Shown sql params old new rows → IsUnchanged old new
unfolding Shown
shown_unchanged schema sql params old new rows has plain h =
    let known = sym h.1.is ∙ ap (λ s. understood s sql) has in
    let bare = subst IsPlain (sym known) plain in
    let it = subst (ShowsRows old new sql h.0 (timed params h.0.formats h.1.now) rows) bare.0 h.2 in
    it.3

pub commits_nothing : (schema : Schema) (sql : List ℕ) (params : Row) (old new : State)
    → (HasCleanDisk old → old.now.schema ≡ schema) → IsPlain (understood schema sql)
    → Survives old new (CommitsShowing sql params old) → Survives old new (λ _. ⊥)
commits_nothing schema sql params old new has plain s =
    survives_weaker old new _ _ (λ clean db. never_commits sql params old db
    (subst (λ k. IsPlain (understood k sql)) (sym (has (omega (arith, s.clean)))) plain)) s
