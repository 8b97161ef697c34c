use Rattle.std.proofs.Common.{◌≡◌, ◌+◌, ◌*◌, ◌<◌, ◌≤◌, ℕ, List, Option, Some, None, Bor, length, get_or}
use Rattle.std.proofs.Common.{IfSome, refl, sym, ◌∙◌}
use Rattle.std.specs.List.{HoldsAt, slice_get}
use Rattle.std.specs.Option.{MatchOption, option_copied}
use Rattle.std.proofs.lemmas.Option.{slice_get_past, slice_get_read}
use Rattle.ring_model.proofs.ring.Ring.seat.Goals as goal

-- What a list has at a place is what was looked up there.
looked_up : (xs : List ℕ) (i : ℕ) (r : Option (Bor ℕ)) →
    IfSome r (λ x. x.now ≡ get_or xs i x.now) →
    MatchOption r (length xs ≤ i) (λ x. (i < length xs) × HoldsAt (λ y. x.now ≡ y) xs i) →
    option_copied r ≡ slice_get xs i
looked_up xs i None here at = sym (slice_get_past xs i at)
looked_up xs i (Some x) here at = sym (slice_get_read xs (length xs) i x.now refl at.0 here)

at_seat : (xs ys : List ℕ) (n p q r s : ℕ) → xs ≡ ys → p ≡ q → r ≡ s →
    slice_get xs (n * p + r) ≡ slice_get ys (n * q + s)
at_seat xs ys n p q r s list width place = rw (list, width, place) refl

pub returns : goal.returns
returns c = rw (← c.self.view_is) (c.copied.ensures ∙ (looked_up c.deref.result.now
    (c.args.partition * c.from.result + c.from-2.result) c.get-2.result c.get-2.ensures.lookup.1
    c.get-2.ensures.lookup.3 ∙ at_seat c.deref.result.now c.self.inside.parts.seats.items
    c.args.partition c.from.result c.self.inside.parts.replicas c.from-2.result c.args.replica
    c.deref.ensures.value (c.from.ensures ∙ c.get.ensures.value) c.from-2.ensures))
