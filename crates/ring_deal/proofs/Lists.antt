-- Lists that grow by one more number.
use Rattle.std.proofs.Common.{◌≡◌, ◌∙◌, ℕ, ◌+◌, ◌<◌, ◌++◌, ◌∷◌, [], List, ap, arith, get_or, length, map, refl, sym, take}
use Rattle.std.specs.List.{flat_map, range_with_len}
use Rattle.std.proofs.lemmas.List.{append_assoc, append-nil, flat_map_more, map-append, take_more}
use Rattle.std.proofs.lemmas.List.FromFn.{map-range_with_len_more}

map_same : (xs : List ℕ) → map (λ n. n) xs ≡ xs
map_same [] = refl
map_same (x ∷ xs) = ap (λ ys. x ∷ ys) (map_same xs)

-- one more number
pub range_more : (n : ℕ) → range_with_len 0 (n + 1) ≡ range_with_len 0 n ++ n ∷ []
range_more n = sym (map_same (range_with_len 0 (n + 1))) ∙ map-range_with_len_more (λ k. k) 0 n n
    (omega arith) ∙ ap (λ ys. ys ++ n ∷ []) (map_same (range_with_len 0 n))

-- what all numbers below one give, and what it gives
pub flat_more : (f : ℕ → List ℕ) (place : ℕ) (cards here next : List ℕ)
    → cards ≡ flat_map f (range_with_len 0 place) → here ≡ f place → next ≡ cards ++ here
    → next ≡ flat_map f (range_with_len 0 (place + 1))
flat_more f place cards here next before this is =
    is ∙ ap (λ cs. cards ++ cs) this ∙ ap (λ cs. cs ++ f place) before
    ∙ flat_map_more f [] (range_with_len 0 place) place
    ∙ ap (flat_map f) (sym (range_more place))

-- what all numbers below one give, and it gives nothing
pub flat_none : (f : ℕ → List ℕ) (place : ℕ) (cards next : List ℕ)
    → cards ≡ flat_map f (range_with_len 0 place) → [] ≡ f place → next ≡ cards
    → next ≡ flat_map f (range_with_len 0 (place + 1))
flat_none f place cards next before none is =
    flat_more f place cards [] next before none (is ∙ sym (append-nil cards))

-- behind others, what each number below one gives, and what it gives
pub map_behind : {X : Type 0} (front : List X) (f : ℕ → X) (n : ℕ) (items next : List X) (x : X)
    → items ≡ front ++ map f (range_with_len 0 n) → next ≡ items ++ x ∷ [] → x ≡ f n
    → next ≡ front ++ map f (range_with_len 0 (n + 1))
map_behind front f n items next x before is this =
    is ∙ ap (λ y. items ++ y ∷ []) this ∙ ap (λ ys. ys ++ f n ∷ []) before
    ∙ append_assoc front (map f (range_with_len 0 n)) (f n ∷ [])
    ∙ ap (λ ys. front ++ ys) (sym (map-range_with_len_more f 0 n n (omega arith)))

-- so with what gives lists
pub flat_behind : {X : Type 0} (front : List X) (f : ℕ → List X) (n : ℕ) (items here next : List X)
    → items ≡ front ++ flat_map f (range_with_len 0 n) → next ≡ items ++ here → here ≡ f n
    → next ≡ front ++ flat_map f (range_with_len 0 (n + 1))
flat_behind front f n items here next before is this =
    is ∙ ap (λ ys. items ++ ys) this ∙ ap (λ ys. ys ++ f n) before
    ∙ append_assoc front (flat_map f (range_with_len 0 n)) (f n)
    ∙ ap (λ ys. front ++ ys) (flat_map_more f [] (range_with_len 0 n) n
    ∙ ap (flat_map f) (sym (range_more n)))

-- what each number of the first of a list gives, and what the next gives
pub map_take_more : {X : Type 0} (f : ℕ → X) (xs : List ℕ) (n : ℕ) (items next : List X) (x : X)
    → n < length xs → items ≡ map f (take n xs) → next ≡ items ++ x ∷ [] → x ≡ f (get_or xs n 0)
    → next ≡ map f (take (n + 1) xs)
map_take_more f xs n items next x lt before is this =
    is ∙ ap (λ y. items ++ y ∷ []) this ∙ ap (λ ys. ys ++ f (get_or xs n 0) ∷ []) before
    ∙ sym (map-append f (take n xs) (get_or xs n 0 ∷ []))
    ∙ ap (map f) (sym (take_more xs n 0 lt))
