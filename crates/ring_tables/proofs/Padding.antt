-- Spaces up to a width.
use Rattle.std.proofs.Common.{◌≡◌, ◌<◌, ℕ, ◌+◌, ◌/◌, ◌%◌, List, [], ◌∷◌, ◌++◌, sym, ◌∙◌}
use Rattle.std.proofs.Common.{append_assoc, arith, decimal}
use Rattle.std.proofs.lemmas.Fmt.{decimal_digit}
use Rattle.ring_words.specs.Texts.{two_digits}
use Rattle.std.specs.Prelude.{replicate}
use Rattle.std.proofs.lemmas.List.{replicate-append-replicate}

-- one more at the end
pub one_more : (n c : ℕ) → replicate (n + 1) c ≡ replicate n c ++ c ∷ []
one_more n c = sym (replicate-append-replicate n 1 c)

-- two digits that were added one by one behind a point
pub two_added : (t0 t1 t2 t3 end : List ℕ) (cents : ℕ) → cents < 100 → t1 ≡ t0 ++ 46 ∷ []
    → t2 ≡ t1 ++ (decimal (cents / 10) ++ []) → t3 ≡ t2 ++ (decimal (cents % 10) ++ end)
    → t3 ≡ t0 ++ (46 ∷ two_digits cents ++ end)
two_added t0 t1 t2 t3 end cents low e1 e2 e3 =
    let high : cents / 10 < 10 = omega arith in
    let rest : cents % 10 < 10 = omega arith in
    e3 ∙ rw (decimal_digit (cents % 10) rest, e2, decimal_digit (cents / 10) high, e1)
    (simp append_assoc)
