-- The lines of partitions.
use Rattle.std.proofs.Common.{lit≤, ◌≡◌, ℕ, zero, suc, ◌+◌, ◌*◌, ◌-◌, ◌^◌, ◌<◌, ◌≤◌, List, [], ◌∷◌}
use Rattle.ring_words.specs.Limits.{greatest_short}
use Rattle.std.proofs.Common.{◌++◌, length, get_or, take, drop, map, decimal, Bor, refl, sym, ap}
use Rattle.std.proofs.Common.{ap₂, ◌∙◌, arith}
use Rattle.std.specs.Prelude.{All, ◌==◌}
use Rattle.std.specs.List.{join_with_byte, slice_split, slice_range, range_with_len}
use Rattle.std.proofs.lemmas.List.{get_or-map, length-map, length-append, length-take-le}
use Rattle.std.proofs.lemmas.List.{length-drop, map-append, map_more, map_push, take_all, drop_at}
use Rattle.std.proofs.lemmas.List.{take-append-le, drop-append-le}
use Rattle.std.proofs.lemmas.List.Elements.{All-head, All-tail, All-get_or, All-weaker, All-map}
use Rattle.std.proofs.lemmas.List.Elements.{All-append, All-cons, All-nil, All-take, All-drop}
use Rattle.std.proofs.lemmas.List.Splits.{join_with_byte-slice_split}
use Rattle.std.proofs.lemmas.List.FromFn.{get_or-map-range_with_len, map-range_with_len_more}
use Rattle.std.proofs.lemmas.List.FromFn.{length-map-range_with_len}
use Rattle.std.proofs.Math.Seq.{take-add}
use Rattle.std.proofs.Math.Nat.{mul-le-mul_right}
use Rattle.ring_words.proofs.Decimals.{same_number}
use Rattle.ring_text.specs.Spelling.{partition_line, partition_lines}
use Rattle.ring_words.specs.Spelling.{SpellsNumber}
use Rattle.ring_text.specs.Inner.Reading.{text_at, AreNumbers, IsPartitionLine, ArePartitionLines}
use Rattle.ring_text.proofs.Graphic.{AreGraphic, Lacks, graphic-decimal, lacks_of_graphic}
use Rattle.ring_text.proofs.Graphic.{parts-joined}

abbrev joined : List (List ℕ) → List ℕ
joined words = join_with_byte 32 words

-- ---- the numbers of one line

pub number_inside : (words : List (Bor (List ℕ))) (i : ℕ) (word : Bor (List ℕ)) (ns : List ℕ) →
    i < length words → AreNumbers (map (λ w. w.now) words) ns → (n : ℕ) ×
    SpellsNumber (get_or words i word).now 0 greatest_short n
number_inside words i word ns lt are =
    let n : ℕ = get_or ns i 0 in
    let long : length words ≡ length ns = simp length-map at (ap (λ (x : List (List ℕ)). length x)
    are.are) in
    let below : i < length ns = omega arith in
    let small : n < 2 ^ 16 = All-get_or (λ (x : ℕ). x < 2 ^ 16) ns i 0 below are.limits in
    let at : (get_or words i word).now ≡ decimal n =
    sym (get_or-map (λ (w : Bor (List ℕ)). w.now) words i word [] lt) ∙ ap
    (λ (x : List (List ℕ)). text_at x i) are.are ∙ get_or-map decimal ns i 0 [] below in
    (n, record { is = at; above = omega arith; below = omega arith })

-- one number more is read
pub number_pushed : (words : List (Bor (List ℕ))) (i : ℕ) (word : Bor (List ℕ)) (ns : List ℕ)
    (n : ℕ) → i < length words → AreNumbers (map (λ w. w.now) (take i words)) ns
    → SpellsNumber (get_or words i word).now 0 greatest_short n
    → AreNumbers (map (λ w. w.now) (take (i + 1) words)) (ns ++ n ∷ [])
number_pushed words i word ns n lt so_far is = record {
  are = map_more (λ (w : Bor (List ℕ)). w.now) words i word lt
      ∙ ap₂ (λ (xs : List (List ℕ)) (x : List ℕ). xs ++ x ∷ []) so_far.are is.is
      ∙ sym (map-append decimal ns (n ∷ []));
  limits = All-append (λ (x : ℕ). x < 2 ^ 16) ns (n ∷ []) so_far.limits
      (All-cons (λ (x : ℕ). x < 2 ^ 16) n [] (omega (arith, is.below)) (All-nil (λ (x : ℕ). x < 2 ^ 16)));
}

pub graphic-numbers : (ns : List ℕ) → All (λ n. n < 2 ^ 16) ns → All AreGraphic (map decimal ns)
graphic-numbers ns small = All-map AreGraphic decimal ns (All-weaker (λ (n : ℕ). n < 2 ^ 16)
    (λ n. AreGraphic (decimal n)) (λ n lt. graphic-decimal n (omega arith)) ns small)

pub split-numbers : (ns : List ℕ) → 0 < length ns → All (λ n. n < 2 ^ 16) ns →
    slice_split (λ b. b == 32) (joined (map decimal ns)) ≡ map decimal ns
split-numbers [] some small = absurd (omega arith)
split-numbers (n ∷ ns) some small = parts-joined 32 (decimal n) (map decimal ns)
    (All-weaker AreGraphic (Lacks 32) (λ w g. lacks_of_graphic 32 w (lit≤ tt) g) (decimal n ∷
    map decimal ns) (graphic-numbers (n ∷ ns) small))

pub words_of_partition : (replicas : ℕ) (line : List ℕ) (words : List (List ℕ)) (ns : List ℕ) →
    0 < replicas → words ≡ slice_split (λ b. b == 32) line → IsPartitionLine replicas line ns →
    words ≡ map decimal ns
words_of_partition replicas line words ns some e is = let long : 0 < length ns =
    omega (arith, is.count) in e ∙ ap (slice_split (λ b. b == 32)) is.is ∙ split-numbers ns long
    is.limits

pub numbers_of_partition : (replicas : ℕ) (line : List ℕ) (words : List (List ℕ)) (ns : List ℕ) →
    0 < replicas → words ≡ slice_split (λ b. b == 32) line → IsPartitionLine replicas line ns →
    AreNumbers words ns
numbers_of_partition replicas line words ns some e is =
    record { are = words_of_partition replicas line words ns some e is; limits = is.limits }

pub partition_of_numbers : (replicas : ℕ) (line : List ℕ) (words : List (List ℕ)) (ns : List ℕ) →
    words ≡ slice_split (λ b. b == 32) line → length words ≡ replicas → AreNumbers words ns →
    IsPartitionLine replicas line ns
partition_of_numbers replicas line words ns e count are = record {
  is = sym (join_with_byte-slice_split 32 line) ∙ ap joined (sym e ∙ are.are);
  count = sym (simp length-map at (ap (λ (x : List (List ℕ)). length x) are.are)) ∙ count;
  limits = are.limits;
}

same_numbers : (ns ms : List ℕ) → All (λ n. n < 2 ^ 16) ns → All (λ n. n < 2 ^ 16) ms →
    map decimal ns ≡ map decimal ms → ns ≡ ms
same_numbers [] [] h i e = refl
same_numbers [] (m ∷ ms) h i e = cc
same_numbers (n ∷ ns) [] h i e = cc
same_numbers (n ∷ ns) (m ∷ ms) h i e =
    let short : ℕ → Type 0 = λ x. x < 2 ^ 16 in
    let sn : n < 2 ^ 16 = All-head short n ns h in
    let sm : m < 2 ^ 16 = All-head short m ms i in
    let first = same_number n m (omega arith) (omega arith) (ap (λ (t : List (List ℕ)). text_at t 0)
    e) in
    let rest = same_numbers ns ms (All-tail short n ns h) (All-tail short m ms i)
    (ap (λ (t : List (List ℕ)). drop 1 t) e) in
    ap₂ (λ (x : ℕ) (more : List ℕ). x ∷ more) first rest

pub one_partition : (replicas : ℕ) (line : List ℕ) (ns ms : List ℕ) → 0 < replicas →
    IsPartitionLine replicas line ns → IsPartitionLine replicas line ms → ns ≡ ms
one_partition replicas line ns ms some h i =
    same_numbers ns ms h.limits i.limits (sym (words_of_partition replicas line _ ns some refl h) ∙
    words_of_partition replicas line _ ms some refl i)

-- ---- the lines of all partitions

slice_front : (xs ys : List ℕ) (a k : ℕ) → a + k ≤ length xs → slice_range (xs ++ ys) a (a + k) ≡
    slice_range xs a (a + k)
slice_front xs ys a k le =
    let start : a ≤ length xs = omega arith in
    let width : a + k - a ≡ k = omega arith in
    let long : k ≤ length (drop a xs) = simp length-drop (omega arith) in
    rw (width, drop-append-le a xs ys start) (take-append-le k (drop a xs) ys long)

slice_back : (xs ys : List ℕ) (a k : ℕ) → length xs ≡ a → length ys ≡ k →
    slice_range (xs ++ ys) a (a + k) ≡ ys
slice_back xs ys a k e l =
    let width : a + k - a ≡ k = omega arith in
    let all : length ys ≤ k = omega arith in
    rw (width, drop_at xs ys a e) (take_all k ys all)

same_range : {X : Type 0} (f g : ℕ → X) (a n : ℕ) → ((i : ℕ) → i < a + n → f i ≡ g i) →
    map f (range_with_len a n) ≡ map g (range_with_len a n)
same_range f g a zero h = refl
same_range f g a (suc n) h = ap₂ (λ x xs. x ∷ xs) (h a (omega arith)) (same_range f g (a + 1) n
    (λ i lt. h i (omega arith)))

abbrev Texts : Type 0
Texts = List (List ℕ)

pub seats_more : (replicas : ℕ) (texts : Texts) (seats : List ℕ) (text : List ℕ) (row : List ℕ) →
    ArePartitionLines replicas texts seats → IsPartitionLine replicas text row →
    ArePartitionLines replicas (texts ++ text ∷ []) (seats ++ row)
seats_more replicas texts seats text row are is =
    let n : ℕ = length texts in
    let old = partition_line replicas seats in
    let new = partition_line replicas (seats ++ row) in
    let size : length (texts ++ text ∷ []) ≡ n + 1 = simp length-append in
    let front : map new (range_with_len 0 n) ≡ map old (range_with_len 0 n) =
    same_range new old 0 n (λ i lt.
    let rows : (i + 1) * replicas ≤ n * replicas = mul-le-mul_right replicas (omega arith) in
    ap (map decimal) (slice_front seats row (i * replicas) replicas (omega (
      arith,
      rows,
      are.count,
    )))) in
    let last : new n ≡ map decimal row = ap (map decimal) (slice_back seats row (n * replicas)
    replicas are.count is.count) in
    let lines : partition_lines (n + 1) replicas (seats ++ row) ≡ partition_lines n replicas seats
    ++ map decimal row ∷ [] = rw (
      map-range_with_len_more new 0 n n (omega arith),
      front,
      last,
    ) refl in
    record {
      are = rw (
        size,
        lines,
        map_push joined (partition_lines n replicas seats) (map decimal row),
        ← is.is,
        ← are.are,
      ) refl;
      count = rw size (omega (arith, length-append seats row, are.count, is.count));
      limits = All-append (λ (x : ℕ). x < 2 ^ 16) seats row are.limits is.limits;
    }

pub partition_within : (replicas : ℕ) (texts : Texts) (seats : List ℕ) (i : ℕ) → i < length texts →
    ArePartitionLines replicas texts seats → IsPartitionLine replicas (text_at texts i)
    (slice_range seats (i * replicas) (i * replicas + replicas))
partition_within replicas texts seats i lt are =
    let n : ℕ = length texts in
    let row = partition_line replicas seats in
    let rows : (i + 1) * replicas ≤ n * replicas = mul-le-mul_right replicas (omega arith) in
    let width : i * replicas + replicas - i * replicas ≡ replicas = omega arith in
    let under : i < length (partition_lines n replicas seats) =
    rw (length-map-range_with_len row 0 n) lt in
    record {
      is = ap (λ (x : Texts). text_at x i) are.are ∙ get_or-map joined (partition_lines n replicas
          seats) i [] [] under ∙ ap joined (get_or-map-range_with_len row 0 n i i [] lt
          (omega arith));
      count = rw width (length-take-le replicas (drop (i * replicas) seats)
          (simp length-drop (omega (arith, rows, are.count))));
      limits = All-take (λ (x : ℕ). x < 2 ^ 16) (i * replicas + replicas - i * replicas)
          (drop (i * replicas) seats) (All-drop (λ (x : ℕ). x < 2 ^ 16) (i * replicas) seats
          are.limits);
    }

-- lines are of one list of seats
pub same_seats : (replicas : ℕ) (texts : Texts) (a b : List ℕ) → 0 < replicas →
    ArePartitionLines replicas texts a → ArePartitionLines replicas texts b → a ≡ b
same_seats replicas texts a b some h i =
    let n : ℕ = length texts in
    sym (take_all (n * replicas) a (omega (arith, h.count))) ∙ go n (omega arith) ∙ take_all
    (n * replicas) b (omega (arith, i.count))
  where
    row : (k : ℕ) → k < length texts → take replicas (drop (k * replicas) a) ≡ take replicas
        (drop (k * replicas) b)
    row k lt =
        let width : k * replicas + replicas - k * replicas ≡ replicas = omega arith in
        rw width at (one_partition replicas (text_at texts k) _ _ some (partition_within replicas
        texts a k lt h) (partition_within replicas texts b k lt i))

    go : (k : ℕ) → k ≤ length texts → take (k * replicas) a ≡ take (k * replicas) b
    go zero le = let none : 0 * replicas ≡ 0 = omega arith in rw none refl
    go (suc k) le =
        let more : suc k * replicas ≡ k * replicas + replicas = omega arith in
        rw more (take-add (k * replicas) replicas a ∙ ap₂ (λ (x y : List ℕ). x ++
        y) (go k (omega arith)) (row k (omega arith)) ∙ sym (take-add (k * replicas) replicas
        b))
