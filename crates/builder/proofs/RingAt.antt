-- A ring that is put under its name is found there.
use Rattle.std.proofs.Common.{◌≡◌, ℕ, Bool, true, false, cond, List, [], ◌∷◌, Some, None, refl, sym}
use Rattle.std.proofs.Common.{ap, ◌∙◌, true≢false}
use Rattle.std.specs.Prelude.{filter, find, nat_eq}
use Rattle.std.specs.Option.{option_map}
use Rattle.std.specs.Ordering.{is_eq, is_lt}
use Rattle.std.specs.Cmp.Lexicographic.{pointwise, nat_list_cmp_total, texts_ties}
use Rattle.std.proofs.lemmas.Cmp.{tied_itself}
use Rattle.std.proofs.lemmas.Slice.Eq.{bytes_eq-Decides}
use Rattle.std.proofs.lemmas.List.Folds.{find-append}
use Rattle.ring_model.specs.Ring.{RingRecord}
use Rattle.ring_model.specs.Rings.{is_before, ring_at, with_ring}
use Rattle.builder.specs.Step.{State}

pub same_name : (name : List ℕ) → pointwise nat_eq name name ≡ true
same_name name = texts_ties name name ∙ ap is_eq (tied_itself nat_list_cmp_total name)

not_before_itself : (name other : List ℕ) → pointwise nat_eq other name ≡ true
    → is_before other name ≡ false
not_before_itself name other is =
    ap (λ (n : List ℕ). is_before n name) ((bytes_eq-Decides other name).0 is) ∙ ap is_lt
    (tied_itself nat_list_cmp_total name)

dropped_first : {X : Type 0} (p q : X → Bool) (x : X) (xs : List X) (a b : Bool) → p x ≡ a → q x ≡ b
    → (p x ≡ true → q x ≡ false) → find p (filter q xs) ≡ None
    → find p (cond (q x) (x ∷ filter q xs) (filter q xs)) ≡ None
dropped_first p q x xs true false e f h rest = rw f rest
dropped_first p q x xs false false e f h rest = rw f rest
dropped_first p q x xs false true e f h rest = rw (f, e) rest
dropped_first p q x xs true true e f h rest = absurd (true≢false (sym f ∙ h e))

find_dropped : {X : Type 0} (p q : X → Bool) (xs : List X) → ((x : X) → p x ≡ true → q x ≡ false)
    → find p (filter q xs) ≡ None
find_dropped p q [] h = refl
find_dropped p q (x ∷ xs) h = dropped_first p q x xs (p x) (q x) refl refl (h x)
    (find_dropped p q xs h)

pub ring_at-with : (rings : State) (name : List ℕ) (ring : RingRecord)
    → ring_at name (with_ring rings name ring) ≡ Some ring
ring_at-with rings name ring =
    let p : List ℕ × RingRecord → Bool = λ x. pointwise nat_eq x.0 name in
    let lower : List ℕ × RingRecord → Bool = λ x. is_before x.0 name in
    let upper : List ℕ × RingRecord → Bool = λ x. is_before name x.0 in
    let none : find p (filter lower rings) ≡ None =
    find_dropped p lower rings (λ x h. not_before_itself name x.0 h) in
    let mine : pointwise nat_eq name name ≡ true = same_name name in
    let found : find p (with_ring rings name ring) ≡ Some (name, ring) =
    find-append p (filter lower rings) ((name, ring) ∷ filter upper rings) ∙ rw (none, mine) refl in
    ap (option_map (λ e. e.1)) found

pub one_ring : (a b : RingRecord) → Some a ≡ Some b → a ≡ b
one_ring a b e = cc
