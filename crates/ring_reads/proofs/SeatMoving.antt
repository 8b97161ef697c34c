-- Seats that differ, one after another.
use Rattle.std.proofs.Common.{◌≡◌, ℕ, ◌+◌, ◌<◌, ◌≤◌, ◌∙◌, Bool, true, false, List, [], ◌∷◌, ◌++◌}
use Rattle.std.proofs.Common.{length, map, ap, arith, append_assoc, refl, sym}
use Rattle.std.specs.Prelude.{filter, nat_lt}
use Rattle.std.specs.List.{flat_map, range_with_len}
use Rattle.std.proofs.lemmas.Bool.{le-ltb, lt-ltb}
use Rattle.std.proofs.lemmas.List.{flat_map_more, length-append}
use Rattle.std.proofs.lemmas.List.Elements.{filter-append}
use Rattle.std.proofs.lemmas.List.FromFn.{filter_of_map_range_with_len_more}
use Rattle.std.proofs.lemmas.List.FromFn.{map-range_with_len_more}

same_numbers : (ns : List ℕ) → map (λ (n : ℕ). n) ns ≡ ns
same_numbers [] = refl
same_numbers (n ∷ ns) = ap (λ (ms : List ℕ). n ∷ ms) (same_numbers ns)

-- the numbers below one more
pub one_further : (n : ℕ) → range_with_len 0 (n + 1) ≡ range_with_len 0 n ++ n ∷ []
one_further n = sym (same_numbers (range_with_len 0 (n + 1)))
    ∙ map-range_with_len_more (λ (k : ℕ). k) 0 n n (omega arith)
    ∙ ap (λ (ms : List ℕ). ms ++ n ∷ []) (same_numbers (range_with_len 0 n))

-- what passes of one more element
pub kept_more : {X : Type 0} (p : X → Bool) (f : ℕ → X) (n : ℕ) (start before after : List X) (x : X)
    → before ≡ start ++ filter p (map f (range_with_len 0 n)) → x ≡ f n →
    after ≡ before ++ filter p (x ∷ []) → after ≡ start ++ filter p (map f (range_with_len 0 (n + 1)))
kept_more {X} p f n start before after x so_far is more =
    more ∙ ap (λ (xs : List X). xs ++ filter p (x ∷ [])) so_far
    ∙ ap (λ (y : X). (start ++ filter p (map f (range_with_len 0 n))) ++ filter p (y ∷ [])) is
    ∙ append_assoc start (filter p (map f (range_with_len 0 n))) (filter p (f n ∷ []))
    ∙ ap (λ (xs : List X). start ++ xs)
    (sym (filter_of_map_range_with_len_more p f 0 n n (omega arith)))

-- what passes of one more number
pub passed_more : (p : ℕ → Bool) (n : ℕ)
    → filter p (range_with_len 0 (n + 1)) ≡ filter p (range_with_len 0 n) ++ filter p (n ∷ [])
passed_more p n = ap (filter p) (one_further n) ∙ filter-append p (range_with_len 0 n) (n ∷ [])

-- the parts of one more number
pub parts_more : {X : Type 0} (f : ℕ → List X) (n : ℕ) (before after : List X) →
    before ≡ flat_map f (range_with_len 0 n) → after ≡ before ++ f n →
    after ≡ flat_map f (range_with_len 0 (n + 1))
parts_more {X} f n before after so_far more =
    more ∙ ap (λ (xs : List X). xs ++ f n) so_far ∙ flat_map_more f [] (range_with_len 0 n) n
    ∙ ap (flat_map f) (sym (one_further n))

-- four words, a space behind each but the last
pub four_words : (t0 t1 t2 t3 t4 a b c d : List ℕ) → t1 ≡ t0 ++ (a ++ 32 ∷ []) →
    t2 ≡ t1 ++ (b ++ 32 ∷ []) → t3 ≡ t2 ++ (c ++ 32 ∷ []) → t4 ≡ t3 ++ (d ++ 10 ∷ []) →
    t4 ≡ t0 ++ (a ++ 32 ∷ (b ++ 32 ∷ (c ++ 32 ∷ (d ++ 10 ∷ []))))
four_words t0 t1 t2 t3 t4 a b c d e1 e2 e3 e4 = e4 ∙ rw (e3, e2, e1) (simp append_assoc)

-- a list has grown where something was put behind it
pub has_grown : {X : Type 0} (start more all : List X) (before after : ℕ) → before ≡ length start →
    after ≡ length all → all ≡ start ++ more → before < after → nat_lt 0 (length more) ≡ true
has_grown start more all before after first last is grown =
    let long : length all ≡ length start + length more = ap length is ∙ length-append start more in
    lt-ltb 0 (length more) (omega (arith, first, last, long, grown))

-- and hasn't where nothing was
pub has_stayed : {X : Type 0} (start more all : List X) (before after : ℕ) → before ≡ length start →
    after ≡ length all → all ≡ start ++ more → after ≤ before → nat_lt 0 (length more) ≡ false
has_stayed start more all before after first last is stayed =
    let long : length all ≡ length start + length more = ap length is ∙ length-append start more in
    le-ltb 0 (length more) (omega (arith, first, last, long, stayed))
