-- What a hand takes of the cards that are left.
use Rattle.std.proofs.Common.{◌≡◌, ◌==◌, ℕ, zero, suc, ◌+◌, ◌-◌, ◌*◌, ◌/◌, ◌%◌, ◌<◌, ◌≤◌, Bool, true, false, ◌||◌}
use Rattle.std.proofs.Common.{All, List, [], ◌++◌, length, get_or, set, take, replicate, map, sum, sum_by, cond}
use Rattle.std.proofs.Common.{refl, sym, ap, subst, ◌∙◌, arith, inl, inr, ext_get_or, mul-le-mul_left}
use Rattle.std.specs.List.{range_with_len}
use Rattle.std.specs.List.Sorted.{IsPermutation}
use Rattle.std.proofs.lemmas.Bool.{cases_eq, ne_eqb, eq-eqb}
use Rattle.std.proofs.lemmas.Bool.Decides.{leb_tells}
use Rattle.std.proofs.lemmas.Grind.{get_or_default_zero}
use Rattle.std.proofs.lemmas.List.{get_or-append_right, get_or_append_left, get_or-replicate, get_or-set_other}
use Rattle.std.proofs.lemmas.List.{get_or-set_same, length-append, length-replicate, length-set}
use Rattle.std.proofs.Math.Seq.{take-length}
use Rattle.std.proofs.lemmas.List.Elements.{All-append, All-replicate}
use Rattle.std.proofs.lemmas.List.Folds.{sum_by-replicate}
use Rattle.std.proofs.lemmas.List.FromFn.{get_or-map-range_with_len, length-map-range_with_len}
use Rattle.std.proofs.lemmas.List.Sorted.{sum_by-IsPermutation}
use Rattle.std.proofs.lemmas.List.Sums.{get_or-le-sum_by, sum-map, sum_by-append, sum_by-set, sum_by_more}
use Rattle.std.proofs.lemmas.Nat.{div-mul-add}
use Rattle.ring_room.specs.Steps.{after_steps}
use Rattle.ring_room.proofs.Steps.{steps_more, steps_none}
use Rattle.ring_deal.specs.Hand.{Taking, take_at, taken_of}
use Rattle.ring_deal.specs.Inner.Going.{IsTaken, IsTaking, cards_in}
use Rattle.ring_deal.specs.Inner.Orders.{is_among}
use Rattle.ring_deal.specs.Inner.Spread.{AreSpread}
use Rattle.ring_deal.proofs.Orders.{among_more, order_all, order_below, order_fresh}

or_left : (a b : Bool) → b ≡ false → (a || b) ≡ true → a ≡ true
or_left true b none is = refl
or_left false b none is = absurd (cc (none, is))

or_false : (a b : Bool) → (a || b) ≡ false → (a ≡ false) × (b ≡ false)
or_false true b is = absurd (cc is)
or_false false b is = (refl, is)

map_range_get : (xs : List ℕ) → map (λ place. get_or xs place 0) (range_with_len 0 (length xs)) ≡ xs
map_range_get xs =
    let long = length-map-range_with_len (λ place. get_or xs place 0) 0 (length xs) in
    ext_get_or 0 _ xs long
    (λ k lt. get_or-map-range_with_len (λ place. get_or xs place 0) 0 (length xs) k k 0
    (omega (arith, lt, long)) (omega arith))

-- the numbers of a list, one by one, come to its sum
sum_of_range : (xs : List ℕ) → sum_by (λ place. get_or xs place 0) (range_with_len 0 (length xs)) ≡ sum xs
sum_of_range xs = sym (sum-map (λ place. get_or xs place 0) (range_with_len 0 (length xs)))
    ∙ ap sum (map_range_get xs)

-- A device that has no more cards than so many hands have partitions gives one of them no more than
-- it has partitions, and keeps no more than the later ones have.
pub record IsShare (later size cards count : ℕ) : Type 0 where
  pub has : count ≤ cards
  pub few : count ≤ size
  pub rest : cards - count ≤ later * size

shared_has : (later passed cards count left : ℕ) → passed ≤ later →
    passed + cards ≡ count * (later + 1) + left → count ≤ cards
shared_has later passed cards zero left few is = omega arith
shared_has later passed cards (suc k) left few is =
    let least : later * 1 ≤ later * (k + 1) = mul-le-mul_left later (omega arith) in
    omega (arith, few, is, least)

shared_few : (later size passed cards count left : ℕ) → passed ≤ later → cards ≤ (later + 1) * size →
    passed + cards ≡ count * (later + 1) + left → count ≤ size
shared_few later size passed cards count left few within is = elim (leb_tells count size) [
  | inl le ↦ le.1
  | inr gt ↦ (let lt = gt.1 in
      let more : (later + 1) * (size + 1) ≤ (later + 1) * count = mul-le-mul_left (later + 1) (omega arith) in
      absurd (omega (arith, few, within, is, more)))
]

shared_rest : (later size passed cards count left : ℕ) → passed ≤ later → cards ≤ (later + 1) * size →
    passed + cards ≡ count * (later + 1) + left → left ≤ later → cards - count ≤ later * size
shared_rest later size passed cards count left few within is below = elim (leb_tells size count) [
  | inl le ↦ (let ge = le.1 in omega (arith, within, ge))
  | inr gt ↦ (let lt = gt.1 in
      let more : later * (count + 1) ≤ later * size = mul-le-mul_left later (omega arith) in
      omega (arith, is, below, more))
]

pub shared : (later size passed cards count left : ℕ) → passed ≤ later → cards ≤ (later + 1) * size →
    passed + cards ≡ count * (later + 1) + left → left ≤ later → IsShare later size cards count
shared later size passed cards count left few within is below = record {
  has = shared_has later passed cards count left few is;
  few = shared_few later size passed cards count left few within is;
  rest = shared_rest later size passed cards count left few within is below;
}

-- ---- cards of one more device

cards_more : (hand : List ℕ) (count place other : ℕ) → cards_in (hand ++ replicate count place) other ≡
    cards_in hand other + count * cond (place == other) 1 0
cards_more hand count place other =
    sum_by-append (λ (x : ℕ). cond (x == other) 1 0) hand (replicate count place)
    ∙ ap (λ n. cards_in hand other + n) (sum_by-replicate (λ (x : ℕ). cond (x == other) 1 0) count place)

-- a device none of whose cards is in a hand isn't there
none_there : (hand : List ℕ) (place k : ℕ) → cards_in hand place ≡ 0 → k < length hand →
    get_or hand k 0 ≡ place → ⊥
none_there hand place k none lt is =
    let least = get_or-le-sum_by (λ (x : ℕ). cond (x == place) 1 0) hand k 0 lt in
    let one : ◌≡◌ {A = ℕ} (cond (get_or hand k 0 == place) 1 0) 1 = ap (λ b. cond b 1 0) (eq-eqb _ _ is) in
    omega (arith, least, one, none)

spread_more : (size : ℕ) (hand : List ℕ) (count place : ℕ) → AreSpread size hand →
    cards_in hand place ≡ 0 → count ≤ size → AreSpread size (hand ++ replicate count place)
spread_more size hand count place spread none few one other lt within same =
    let long = length-append hand (replicate count place) in
    let more = length-replicate count place in
    elim (leb_tells (length hand) other) [
      | inl new ↦ elim (leb_tells (length hand) one) [
        | inl also ↦ (let le = also.1 in omega (arith, within, long, more, le, few))
        | inr old ↦ (let here : other - length hand < count = omega (arith, within, long, more, new.1) in
            let is = get_or-append_right hand (replicate count place) (length hand) other 0 refl new.1
            ∙ get_or-replicate count (other - length hand) place 0 here in
            absurd (none_there hand place one none old.1 (sym (get_or_append_left hand
            (replicate count place) 0 one old.1) ∙ same ∙ is)))
      ]
      | inr old ↦ (let before : one < length hand = omega (arith, lt, old.1) in
          spread one other lt old.1 (sym (get_or_append_left hand (replicate count place) 0 one before)
          ∙ same ∙ get_or_append_left hand (replicate count place) 0 other old.1))
    ]

-- ---- a hand

module _ (later size : ℕ) (order left : List ℕ) (permutes : IsPermutation
    (range_with_len 0 (length left)) order) (each : All (λ cards. cards ≤ (later + 1) * size) left) where
  pub taking_start : IsTaking later size order left 0 (record { hand = []; left = left; passed = 0 })
  taking_start = record {
    long = refl;
    passed = omega arith;
    sums = omega arith;
    all = omega arith;
    spread = λ one other lt within same. absurd (omega (arith, within));
    within = λ k d lt. absurd (omega (arith, lt));
    done = λ place among. absurd (cc among);
    kept = λ place. omega arith;
    none = λ place among. refl;
  }

  module _ (n : ℕ) (lt : n < length order) (now : Taking) (before : IsTaking later size order left n
      now) where
    abbrev pub at : ℕ
    at = get_or order n 0

    at_below : at < length left
    at_below = order_below (length left) order permutes n lt

    fresh : is_among (take n order) at ≡ false
    fresh = order_fresh (length left) order permutes n lt

    none_yet : cards_in now.hand at ≡ 0
    none_yet = before.none at fresh

    abbrev pub cards : ℕ
    cards = get_or now.left at 0

    same_cards : cards ≡ get_or left at 0
    same_cards = let kept = before.kept at in omega (arith, kept, none_yet)

    abbrev pub count : ℕ
    count = (now.passed + cards) / (later + 1)

    abbrev pub rest : ℕ
    rest = (now.passed + cards) % (later + 1)

    parts : now.passed + cards ≡ count * (later + 1) + rest
    parts = omega arith

    rest_below : rest ≤ later
    rest_below = omega arith

    pub share : IsShare later size cards count
    share = shared later size now.passed cards count rest before.passed
        (let most = each at 0 at_below in omega (arith, most, same_cards)) parts rest_below

    abbrev pub next : Taking
    next = take_at (later + 1) order n now

    next_sums : length next.hand * (later + 1) + next.passed ≡ sum_by (λ place. get_or left place 0)
        (take (n + 1) order)
    next_sums =
        let more = sum_by_more (λ place. get_or left place 0) order n 0 lt in
        let long = length-append now.hand (replicate count at) in
        let added = length-replicate count at in
        let sums = before.sums in
        let all : length next.hand * (later + 1) ≡ (length now.hand + count) * (later + 1) =
        ap (λ k. k * (later + 1)) (omega (arith, long, added)) in
        omega (arith, more, all, sums, parts, same_cards)

    next_all : sum next.left + length next.hand ≡ sum left
    next_all =
        let within : at < length now.left = let long = before.long in omega (arith, long, at_below) in
        let more = sum_by-set (λ (x : ℕ). x) now.left at (cards - count) 0 within in
        let long = length-append now.hand (replicate count at) in
        let added = length-replicate count at in
        let all = before.all in
        let has = share.has in
        omega (arith, more, long, added, all, has)

    pub taking_more : IsTaking later size order left (n + 1) next
    taking_more = record {
      long = length-set now.left at (cards - count) ∙ before.long;
      passed = rest_below;
      sums = next_sums;
      all = next_all;
      spread = spread_more size now.hand count at before.spread none_yet share.few;
      within = All-append (λ place. place < length left) now.hand (replicate count at) before.within
          (All-replicate (λ place. place < length left) count at at_below);
      done = λ place among. elim (cases_eq at place) [
        | inl here ↦ (let is = get_or-set_same now.left at (cards - count) 0 (let long = before.long
            in omega (arith, long, at_below)) in let most = share.rest in
            let moved : get_or next.left place 0 ≡ get_or next.left at 0 = ap (λ p. get_or next.left p 0)
            (sym here) in omega (arith, is, most, moved))
        | inr other ↦ (let is = get_or-set_other now.left at place (cards - count) 0
            (λ same. other (sym same)) in
            let most = before.done place (or_left (is_among (take n order) place) (at == place)
            (ne_eqb at place other) (sym (among_more order n place lt) ∙ among)) in
            omega (arith, is, most))
      ];
      kept = λ place. elim (cases_eq at place) [
        | inl here ↦ (let is = get_or-set_same now.left at (cards - count) 0 (let long = before.long
            in omega (arith, long, at_below)) in
            let more = cards_more now.hand count at at in
            let one : ◌≡◌ {A = ℕ} (cond (at == at) 1 0) 1 = ap (λ b. cond b 1 0) (eq-eqb at at refl) in
            let whole : count * cond (at == at) 1 0 ≡ count = ap (λ k. count * k) one ∙ omega arith in
            let has = share.has in
            let result : cards_in next.hand at + get_or next.left at 0 ≡ get_or left at 0 =
            omega (arith, is, more, whole, has, none_yet, same_cards) in
            subst (λ p. cards_in next.hand p + get_or next.left p 0 ≡ get_or left p 0) here result)
        | inr other ↦ (let is = get_or-set_other now.left at place (cards - count) 0
            (λ same. other (sym same)) in
            let more = cards_more now.hand count at place in
            let zero : count * cond (at == place) 1 0 ≡ 0 = ap (λ b. count * cond b 1 0)
            (ne_eqb at place other) ∙ omega arith in
            let kept = before.kept place in
            omega (arith, is, more, zero, kept))
      ];
      none = λ place among.
          let both = or_false (is_among (take n order) place) (at == place)
          (sym (among_more order n place lt) ∙ among) in
          let more = cards_more now.hand count at place in
          let zero : count * cond (at == place) 1 0 ≡ 0 = ap (λ b. count * cond b 1 0) both.1 ∙ omega
          arith in
          let old = before.none place both.0 in
          omega (arith, more, zero, old);
    }

  pub taking_all : (n : ℕ) → n ≤ length order → IsTaking later size order left n
      (after_steps (take_at (later + 1) order) n (record { hand = []; left = left; passed = 0 }))
  taking_all zero le = subst (IsTaking later size order left 0) (steps_none (take_at (later + 1) order)
      (record { hand = []; left = left; passed = 0 })) taking_start
  taking_all (suc n) le =
      let first : Taking = record { hand = []; left = left; passed = 0 } in
      let now = after_steps (take_at (later + 1) order) n first in
      let more = taking_more n (omega (arith, le)) now (taking_all n (omega (arith, le))) in
      let next = steps_more (take_at (later + 1) order) n first now (take_at (later + 1) order n now)
      refl refl in
      subst (λ k. IsTaking later size order left k (after_steps (take_at (later + 1) order) k first))
      (omega arith) (subst (IsTaking later size order left (n + 1)) next more)

  -- a hand takes a share of all cards, as many as it has seats
  pub hand_taken : (replicas : ℕ) → sum left ≡ (later + 1) * size * replicas →
      IsTaken later size replicas left (taken_of (later + 1) order left)
  hand_taken replicas total =
      let t = taking_all (length order) (omega arith) in
      let taken = taken_of (later + 1) order left in
      let ordered : sum_by (λ place. get_or left place 0) (take (length order) order) ≡ sum left =
      ap (sum_by (λ place. get_or left place 0)) (take-length order)
      ∙ sum_by-IsPermutation (λ place. get_or left place 0) (range_with_len 0 (length left)) order permutes
      ∙ sum_of_range left in
      let sums = t.sums in
      let passed = t.passed in
      let whole : length taken.hand * (later + 1) + taken.passed ≡ (replicas * size) * (later + 1) + 0 =
      omega (arith, sums, ordered, total) in
      let count : length taken.hand ≡ replicas * size = sym (div-mul-add (length taken.hand) (later + 1)
      taken.passed (omega (arith, passed))) ∙ ap (λ k. k / (later + 1)) whole
      ∙ div-mul-add (replicas * size) (later + 1) 0 (omega arith) in
      record {
        long = t.long;
        count = count;
        spread = t.spread;
        within = t.within;
        left_over = record {
          each = λ k d lt. subst (λ x. x ≤ later * size) (sym (get_or_default_zero taken.left k d lt))
              (t.done k (ap (λ done. is_among done k) (take-length order)
              ∙ order_all (length left) order permutes k (let long = t.long in omega (arith, long, lt))));
          all = let all = t.all in omega (arith, all, total, count);
        };
        kept = t.kept;
      }

-- who has no more than so many and gives some has no more
pub small_set : (most : ℕ) (left : List ℕ) (place count : ℕ) → All (λ cards. cards ≤ most) left →
    All (λ cards. cards ≤ most) (set left place (get_or left place 0 - count))
small_set most left place count small k d lt =
    let long = length-set left place (get_or left place 0 - count) in
    let within : k < length left = omega (arith, lt, long) in
    elim (cases_eq place k) [
      | inl same ↦ (let here : place < length left = omega (arith, within, same) in
          let is = get_or-set_same left place (get_or left place 0 - count) d here in
          let old = small place 0 here in
          let moved : get_or (set left place (get_or left place 0 - count)) k d ≡
          get_or (set left place (get_or left place 0 - count)) place d =
          ap (λ j. get_or (set left place (get_or left place 0 - count)) j d) (sym same) in
          omega (arith, is, old, moved))
      | inr other ↦ (let is = get_or-set_other left place k (get_or left place 0 - count) d
          (λ same. other (sym same)) in
          let old = small k d within in
          omega (arith, is, old))
    ]
