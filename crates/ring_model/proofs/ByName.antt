-- Rings in the order of their names.
use Rattle.std.proofs.Common.{ap₂, true≢false, ◌≡◌, ℕ, zero, suc, ◌+◌, ◌<◌, ◌≤◌, Bool, true, false}
use Rattle.std.proofs.Common.{cond, List, [], ◌∷◌, ◌++◌, length, get_or, take, Option, Some, None}
use Rattle.std.proofs.Common.{Ordering, Less, Equal, Greater, refl, sym, ap, ◌∙◌, append_assoc}
use Rattle.std.proofs.Common.{⊎_elim, arith, find}
use Rattle.std.specs.Prelude.{All, AllPairs, filter, is_some, nat_eq}
use Rattle.std.specs.List.{AllZip}
use Rattle.std.specs.Option.{option_map, option_or}
use Rattle.std.specs.Ordering.{nat_cmp, is_eq, is_lt, ordering_reverse}
use Rattle.std.specs.Cmp.Lexicographic.{pointwise, slice_cmp, nat_list_cmp_total, texts_ties}
use Rattle.std.specs.declared.rc.Rc.{Rc}
use Rattle.std.specs.declared.alloc.Global.{Global}
use Rattle.std.proofs.lemmas.List.{get_or-map, length-append, length-map}
use Rattle.std.proofs.lemmas.Bool.{cases_Bool, false_from_ne_true}
use Rattle.std.proofs.lemmas.Slice.Eq.{bytes_eq-Decides}
use Rattle.std.proofs.lemmas.List.Folds.{find-append}
use Rattle.std.proofs.lemmas.List.Elements.{filter_more, filter_passes, All-append, All-cons}
use Rattle.std.proofs.lemmas.List.Elements.{All-weaker}
use Rattle.std.proofs.lemmas.List.Kept.{AllPairs-cons, AllPairs-filter}
use Rattle.ring_model.specs.Ring.{RingRecord}
use Rattle.ring_model.specs.Rings.{AreByName, is_before, ring_at, seen, with_ring}
use Rattle.ring_model.specs.declared.ring.Ring.{Ring}

-- one more entry of a list of rings, kept or not
pub kept_more : (p : List ℕ × RingRecord → Bool) (rings : List (List ℕ × Rc Ring Global)) (i : ℕ)
    (x : List ℕ × Rc Ring Global) → i < length rings → x ≡ get_or rings i x
    → (into old : List (List ℕ × RingRecord)) → into ≡ old ++ filter p (take i (seen rings))
    → into ++ cond (p (x.0, x.1.value)) ((x.0, x.1.value) ∷ []) [] ≡ old ++
    filter p (take (i + 1) (seen rings))
kept_more p rings i x lt is into old kept =
    let e : List ℕ × RingRecord = (x.0, x.1.value) in
    let long : i < length (seen rings) = rw length-map lt in
    let here : get_or (seen rings) i e ≡ e = get_or-map (λ (r : List ℕ × Rc Ring Global). (
      r.0,
      r.1.value,
    )) rings i x e lt ∙ ap (λ (r : List ℕ × Rc Ring Global). (r.0, r.1.value)) (sym is)
    in
    let more = rw here at (filter_more p (seen rings) i e long) in
    rw (kept, more) (append_assoc old (filter p (take i (seen rings))) (cond (p e) (e ∷ []) []))

-- the first ring of a name, by entries and by what is seen of them
pub ring_of_found : (rings : List (List ℕ × Rc Ring Global)) (name : List ℕ) →
    ring_at name (seen rings) ≡ option_map (λ e. e.1.value) (find (λ e. pointwise nat_eq e.0 name)
    rings)
ring_of_found [] name = refl
ring_of_found (r ∷ rs) name = elim (pointwise nat_eq r.0 name) as (λ b. option_map (λ e. e.1)
    (cond b (Some (r.0, r.1.value)) (find (λ e. pointwise nat_eq e.0 name) (seen rs))) ≡ option_map
    (λ e. e.1.value) (cond b (Some r) (find (λ e. pointwise nat_eq e.0 name) rs))) [
      | true ↦ refl
      | false ↦ ring_of_found rs name
    ]

less_of : (o : Ordering) → is_lt o ≡ true → o ≡ Less
less_of Less h = refl
less_of Equal h = cc
less_of Greater h = cc

before_trans : (a b c : List ℕ) → is_before a b ≡ true → is_before b c ≡ true → is_before a c ≡ true
before_trans a b c first second = ap is_lt (nat_list_cmp_total.trans a b c (less_of _ first)
    (less_of _ second))

abbrev Before : List ℕ × RingRecord → List ℕ × RingRecord → Type 0
Before a b = is_before a.0 b.0 ≡ true

-- lists in order with one between them
joined : (xs : List (List ℕ × RingRecord)) (y : List ℕ × RingRecord) (ys : List (List ℕ ×
    RingRecord)) → AllPairs Before xs → All (λ x. Before x y) xs → All (λ z. Before y z) ys →
    AllPairs Before ys → AllPairs Before (xs ++ y ∷ ys)
joined [] y ys left below above right = AllPairs-cons Before y ys above right
joined (x ∷ xs) y ys left below above right =
    let first : All (λ z. Before x z) xs = λ k d lt. left zero (suc k) d (omega arith) (omega arith)
    in
    let rest : AllPairs Before xs = λ i j d less lt. left (suc i) (suc j) d (omega arith)
    (omega arith) in
    let low : Before x y = below zero x (omega arith) in
    let others : All (λ z. Before z y) xs = λ k d lt. below (suc k) d (omega arith) in
    AllPairs-cons Before x (xs ++ y ∷ ys)
    (All-append (λ z. Before x z) xs (y ∷ ys) first (All-cons (λ z. Before x z) y ys low
    (All-weaker (λ z. Before y z) (λ z. Before x z) (λ z h. before_trans x.0 y.0 z.0 low h) ys
    above)))
    (joined xs y ys rest others above right)

pub by_name_with : (rings : List (List ℕ × RingRecord)) (name : List ℕ) (ring : RingRecord) →
    AreByName rings → AreByName (with_ring rings name ring)
by_name_with rings name ring sorted =
    joined (filter (λ e. is_before e.0 name) rings) (name, ring) (filter (λ e. is_before name e.0)
    rings)
    (AllPairs-filter Before (λ e. is_before e.0 name) rings sorted)
    (filter_passes (λ e. is_before e.0 name) rings)
    (filter_passes (λ e. is_before name e.0) rings) (AllPairs-filter Before
    (λ e. is_before name e.0) rings sorted)

pub joined_rings : (rings none first second third : List (List ℕ × RingRecord)) (name : List ℕ)
    (ring : RingRecord) → none ≡ [] → first ≡ none ++ filter (λ e. is_before e.0 name) rings →
    second ≡ first ++ (name, ring) ∷ [] →
    third ≡ second ++ filter (λ e. is_before name e.0) rings → third ≡ with_ring rings name ring
joined_rings rings none first second third name ring e a b c =
    rw (c, b, a, e) (append_assoc (filter (λ e. is_before e.0 name) rings) ((name, ring) ∷
    []) (filter (λ e. is_before name e.0) rings))

-- ---- how many rings there are with one more

-- a list's rings before a name, and those after it, and the ring of the name if there is one
counted : (before after here : Bool) (o : Ordering) → before ≡ is_lt o →
    after ≡ is_lt (ordering_reverse o) → here ≡ is_eq o → cond before 1 0 + cond after 1 0 + cond
    here 1 0 ≡ 1
counted before after here Less a b c = rw (a, b, c) refl
counted before after here Equal a b c = rw (a, b, c) refl
counted before after here Greater a b c = rw (a, b, c) refl

length-cond : {X : Type 0} (b : Bool) (x : X) (xs : List X) → length (cond b (x ∷ xs) xs) ≡ cond b 1
    0 + length xs
length-cond true x xs = omega arith
length-cond false x xs = omega arith

some-cond : {X : Type 0} (b : Bool) (x : X) (o : Option X) → cond (is_some (cond b (Some x) o)) 1 0
    ≤ cond b 1 0 + cond (is_some o) 1 0
some-cond true x o = omega arith
some-cond false x o = omega arith

abbrev there : List ℕ → List (List ℕ × RingRecord) → Option (List ℕ × RingRecord)
there name rings = find (λ e. pointwise nat_eq e.0 name) rings

around : (rings : List (List ℕ × RingRecord)) (name : List ℕ) →
    length (filter (λ e. is_before e.0 name) rings) + length (filter (λ e. is_before name e.0)
    rings) + cond (is_some (there name rings)) 1 0 ≤ length rings
around [] name = omega arith
around (e ∷ es) name =
    let one = counted (is_before e.0 name) (is_before name e.0) (pointwise nat_eq e.0 name)
    (slice_cmp nat_cmp e.0 name) refl (ap is_lt (nat_list_cmp_total.antisymm name e.0))
    (texts_ties e.0 name) in
    let rest = around es name in
    omega (
      arith,
      one,
      rest,
      length-cond (is_before e.0 name) e (filter (λ x. is_before x.0 name)
          es),
      length-cond (is_before name e.0) e (filter (λ x. is_before name x.0) es),
      some-cond (pointwise nat_eq e.0 name) e (there name es),
    )

mapped_some : (o : Option (List ℕ × RingRecord)) → is_some (option_map (λ e. e.1) o) ≡ is_some o
mapped_some None = refl
mapped_some (Some e) = refl

one_if : (b : Bool) → b ≡ true → (let n : ℕ = cond b 1 0 in n ≡ 1)
one_if true h = refl
one_if false h = cc

-- where a new name finds fewer than n rings, and there are at most n, there are at most n with it
pub at_most_with : (rings : List (List ℕ × RingRecord)) (name : List ℕ) (ring : RingRecord) (n : ℕ)
    → length rings ≤ n → (is_some (ring_at name rings) ≡ false → length rings < n) →
    length (with_ring rings name ring) ≤ n
at_most_with rings name ring n few new =
    let sum = around rings name in
    let long = length-append (filter (λ (e : List ℕ × RingRecord). is_before e.0 name) rings)
    ((name, ring) ∷ filter (λ (e : List ℕ × RingRecord). is_before name e.0) rings) in
    ⊎_elim
    (λ known. let one = one_if (is_some (there name rings)) (sym (mapped_some (there name rings)) ∙
    known) in omega (arith, sum, long, one))
    (λ unknown. let room = new unknown in omega (arith, sum, long, room))
    (cases_Bool (is_some (ring_at name rings)))

-- shares of the same rings are seen as the same
pub same_rings : (xs ys : List (List ℕ × Rc Ring Global)) → AllZip (λ x y. (y.0 ≡ x.0) ×
    (y.1.value ≡ x.1.value)) xs ys → seen ys ≡ seen xs
same_rings [] [] h = refl
same_rings [] (y ∷ ys) h = absurd h
same_rings (x ∷ xs) [] h = absurd h
same_rings (x ∷ xs) (y ∷ ys) h = ap₂ (λ (e : List ℕ × RingRecord) (es : List (List ℕ × RingRecord)).
    e ∷ es) (ap₂ (λ (n : List ℕ) (r : RingRecord). (n, r)) h.0.0 h.0.1) (same_rings xs ys h.1)

-- ---- what is found once a ring is put under its name

-- the first element that passes p, of those that pass q, where the tests of the first of them are
-- known
kept_first : {X : Type 0} (p q : X → Bool) (x : X) (xs : List X) (a b : Bool) → p x ≡ a → q x ≡ b →
    (p x ≡ true → q x ≡ true) → find p (filter q xs) ≡ find p xs
    → find p (cond (q x) (x ∷ filter q xs) (filter q xs)) ≡ cond (p x) (Some x) (find p xs)
kept_first p q x xs true true e f h rest = rw (f, e) refl
kept_first p q x xs false true e f h rest = rw (f, e) rest
kept_first p q x xs false false e f h rest = rw (f, e) rest
kept_first p q x xs true false e f h rest = absurd (true≢false (sym (h e) ∙ f))

find_kept : {X : Type 0} (p q : X → Bool) (xs : List X) → ((x : X) → p x ≡ true → q x ≡ true) →
    find p (filter q xs) ≡ find p xs
find_kept p q [] h = refl
find_kept p q (x ∷ xs) h = kept_first p q x xs (p x) (q x) refl refl (h x) (find_kept p q xs h)

dropped_first : {X : Type 0} (p q : X → Bool) (x : X) (xs : List X) (a b : Bool) → p x ≡ a →
    q x ≡ b → (p x ≡ true → q x ≡ false) → find p (filter q xs) ≡ None
    → find p (cond (q x) (x ∷ filter q xs) (filter q xs)) ≡ None
dropped_first p q x xs true false e f h rest = rw f rest
dropped_first p q x xs false false e f h rest = rw f rest
dropped_first p q x xs false true e f h rest = rw (f, e) rest
dropped_first p q x xs true true e f h rest = absurd (true≢false (sym f ∙ h e))

find_dropped : {X : Type 0} (p q : X → Bool) (xs : List X) → ((x : X) → p x ≡ true → q x ≡ false) →
    find p (filter q xs) ≡ None
find_dropped p q [] h = refl
find_dropped p q (x ∷ xs) h = dropped_first p q x xs (p x) (q x) refl refl (h x)
    (find_dropped p q xs h)

is_same : (name other : List ℕ) → pointwise nat_eq name other ≡ true → name ≡ other
is_same name other e = (bytes_eq-Decides name other).0 e

is_other : (name other : List ℕ) → (name ≡ other → ⊥) → pointwise nat_eq name other ≡ false
is_other name other ne = false_from_ne_true (pointwise nat_eq name other)
    (λ e. ne (is_same name other e))

or_none : {X : Type 0} (o : Option X) → option_or o None ≡ o
or_none None = refl
or_none (Some x) = refl

find_other : (rings : List (List ℕ × RingRecord)) (name other : List ℕ) (ring : RingRecord)
    (o : Ordering) → slice_cmp nat_cmp other name ≡ o → (other ≡ name → ⊥)
    → find (λ e. pointwise nat_eq e.0 other) (with_ring rings name ring) ≡ find
    (λ e. pointwise nat_eq e.0 other) rings
find_other rings name other ring o e ne =
    let p : List ℕ × RingRecord → Bool = λ x. pointwise nat_eq x.0 other in
    let lower : List ℕ × RingRecord → Bool = λ x. is_before x.0 name in
    let upper : List ℕ × RingRecord → Bool = λ x. is_before name x.0 in
    let mine : pointwise nat_eq name other ≡ false = is_other name other (λ same. ne (sym same)) in
    let back : slice_cmp nat_cmp name other ≡ ordering_reverse o = nat_list_cmp_total.antisymm name
    other ∙ ap ordering_reverse e in
    let below : (x : List ℕ × RingRecord) → p x ≡ true → lower x ≡ is_lt o =
    λ x h. ap (λ (n : List ℕ). is_before n name) (is_same x.0 other h) ∙ ap is_lt e in
    let above : (x : List ℕ × RingRecord) → p x ≡ true → upper x ≡ is_lt (ordering_reverse o) =
    λ x h. ap (λ (n : List ℕ). is_before name n) (is_same x.0 other h) ∙ ap is_lt back in
    find-append p (filter lower rings) ((name, ring) ∷ filter upper rings)
    ∙ rw mine (by_order o (λ same. ne (is_same other name (texts_ties other name ∙ ap is_eq
    (e ∙ same)))) p lower upper rings below above)
  where
    by_order : (o : Ordering) → (o ≡ Equal → ⊥) → (p lower upper : List ℕ × RingRecord →
        Bool) (rings : List (List ℕ × RingRecord)) → ((x : List ℕ × RingRecord) → p x ≡ true →
        lower x ≡ is_lt o)
        → ((x : List ℕ × RingRecord) → p x ≡ true → upper x ≡ is_lt (ordering_reverse o)) →
        option_or (find p (filter lower rings)) (find p (filter upper rings)) ≡ find p rings
    by_order Less apart p lower upper rings below above = rw (
      find_kept p lower rings below,
      find_dropped p upper rings above,
    ) (or_none (find p rings))
    by_order Equal apart p lower upper rings below above = absurd (apart refl)
    by_order Greater apart p lower upper rings below above = rw (
      find_dropped p lower rings below,
      find_kept p upper rings above,
    ) refl

-- The ring of another name stays.
pub ring_at-with_other : (rings : List (List ℕ × RingRecord)) (name other : List ℕ)
    (ring : RingRecord) → (other ≡ name → ⊥) → ring_at other (with_ring rings name ring) ≡ ring_at
    other rings
ring_at-with_other rings name other ring ne =
    ap (option_map (λ e. e.1)) (find_other rings name other ring (slice_cmp nat_cmp other name) refl
    ne)
