-- Texts that stand one behind the other.
use Rattle.std.proofs.Common.{◌≡◌, ℕ, List, ◌++◌, append_assoc, refl, sym}

-- two, which are these
pub two_parts : (a b a_is b_is : List ℕ) → a ≡ a_is → b ≡ b_is → a ++ b ≡ a_is ++ b_is
two_parts a b a_is b_is first second = rw (first, second) refl

-- three
pub three_parts : (a b c a_is b_is c_is : List ℕ) → a ≡ a_is → b ≡ b_is → c ≡ c_is →
    a ++ (b ++ c) ≡ a_is ++ b_is ++ c_is
three_parts a b c a_is b_is c_is first second third =
    rw (first, second, third) (sym (append_assoc a_is b_is c_is))

-- six, of which the first is this
pub six_parts : (a b c d e f a_is : List ℕ) → a ≡ a_is →
    a ++ (b ++ (c ++ (d ++ (e ++ f)))) ≡ a_is ++ b ++ c ++ d ++ e ++ f
six_parts a b c d e f a_is first = rw first (simp append_assoc)

-- seven, of which the second and the sixth are these
pub seven_parts : (a b c d e f g b_is f_is : List ℕ) → b ≡ b_is → f ≡ f_is →
    a ++ (b ++ (c ++ (d ++ (e ++ (f ++ g))))) ≡ a ++ b_is ++ c ++ d ++ e ++ f_is ++ g
seven_parts a b c d e f g b_is f_is second sixth = rw (second, sixth) (simp append_assoc)
