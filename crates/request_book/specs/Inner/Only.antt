-- What a crash leaves alone.
use Rattle.std.specs.Prelude.{◌≡◌, IsSomeAnd, Option, Some, refl}
use Rattle.std.proofs.Common.{subst, sym}
use Rattle.request_book.specs.Content.{Content}
use Rattle.request_book.specs.Keeper.{LeavesOnly}

-- the same where the content itself may be left, and each thing that may be left is it
abbrev pub is_only : {S C R : Type 0} (may_leave : Option (Content S C R) → Type 0)
    (content : Content S C R) → may_leave (Some content) → ((left : Option (Content S C R)) →
    may_leave left → left ≡ Some content) → LeavesOnly may_leave content
is_only may_leave content stays only = record {
  something = ∣ (Some content, stays) ∣₁;
  each = λ left may. subst (λ o. IsSomeAnd o (λ c. c ≡ content)) (sym (only left may)) refl;
}
