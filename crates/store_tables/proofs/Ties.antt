-- Orders that end in a tie.
use Rattle.std.proofs.Common.{◌≡◌, Bool, true, false, ◌||◌, Ordering, Less, Equal, Greater, refl}
use Rattle.std.specs.Ordering.{ordering_then}

pub first_of : (a : Ordering) → ordering_then a Equal ≡ a
first_of Less = refl
first_of Equal = refl
first_of Greater = refl

pub then_equal : (a b : Ordering) → ordering_then a (ordering_then b Equal) ≡ ordering_then a b
then_equal Less b = refl
then_equal Greater b = refl
then_equal Equal b = first_of b

pub then_equals : (a b c : Ordering)
    → ordering_then a (ordering_then b (ordering_then c Equal))
    ≡ ordering_then a (ordering_then b c)
then_equals Less b c = refl
then_equals Greater b c = refl
then_equals Equal b c = then_equal b c

pub or_false : (b : Bool) → (b || false) ≡ b
or_false true = refl
or_false false = refl
