-- Cards that fit, and what a seat takes.
use Rattle.std.proofs.Common.{◌≡◌, ◌∙◌, ℕ, zero, suc, ◌+◌, ◌%◌, [], ◌∷◌, ◌<◌, ◌&&◌, Bool, true, false, cond, not, refl}
use Rattle.std.proofs.Common.{List, length, get_or, min, Option, Some, None, ap, sym, subst, arith}
use Rattle.std.specs.Prelude.{nat_lt, slice_get}
use Rattle.std.proofs.Math.Nat.{min-le_left, min-le_right}
use Rattle.std.proofs.lemmas.Bool.Decides.{nat_tests}
use Rattle.std.proofs.lemmas.List.{get_or-take, length-take}
use Rattle.ring_share.specs.Crowd.{is_less}
use Rattle.ring_share.specs.Room.{has_open}
use Rattle.ring_room.specs.Cards.{best_pile, card_for, card_in, card_of, crowd_on, few_piles, fits, in_front}
use Rattle.ring_room.specs.Cards.{or_card, pile_rank, rank_of}
use Rattle.ring_room.specs.Cards.{place_on, taken, taken_by, taken_from, window}
use Rattle.ring_room.specs.declared.cards.Card.{Card}
use Rattle.ring_room.specs.Inner.Lists.{AreRoomy, IsFloor}
use Rattle.ring_room.specs.Load.{Load, IsLeast, crowd_in, has_room_in, is_free_in}
use Rattle.ring_room.specs.Places.{id_at}
use Rattle.ring_room.specs.Search.{roomy_places}
use Rattle.ring_room.specs.Steps.{first_from}
use Rattle.ring_room.proofs.Searching.BestFound.{least_found}
use Rattle.ring_room.proofs.Searching.BestSoFar.{not_less_trans}
use Rattle.ring_room.proofs.Searching.ByName.{room_opens}
use Rattle.ring_room.proofs.Steps.{first_none, from_suc, from_zero}

-- a card in front
pub front_at : (cards : List ℕ) (k d : ℕ) → k < length (in_front cards)
    → (k < length cards) × (get_or (in_front cards) k d ≡ get_or cards k d)
front_at cards k d lt =
    let long = length-take window cards in
    let first = min-le_left window (length cards) in
    let second = min-le_right window (length cards) in
    (omega (arith, lt, long, second), get_or-take window cards k d (omega (arith, lt, long, first)))

both_left : (a b : Bool) → (a && b) ≡ true → a ≡ true
both_left true b h = refl
both_left false b h = absurd (cc h)

both_right : (a b : Bool) → (a && b) ≡ true → b ≡ true
both_right true b h = h
both_right false b h = absurd (cc h)

not_true : (b : Bool) → not b ≡ true → b ≡ false
not_true true h = absurd (cc h)
not_true false h = refl

fits_both : (load : Load) (row : List (Option ℕ)) (crowd : ℕ × ℕ × ℕ) (place : ℕ)
    → fits load row crowd place ≡ true → (is_free_in load row (id_at load.devices place) &&
    not (is_less crowd (crowd_in load row (id_at load.devices place)))) ≡ true
fits_both load row crowd place is = both_right (nat_lt place (length load.devices))
    (is_free_in load row (id_at load.devices place) &&
    not (is_less crowd (crowd_in load row (id_at load.devices place)))) is

pub fits_free : (load : Load) (row : List (Option ℕ)) (crowd : ℕ × ℕ × ℕ) (place : ℕ)
    → fits load row crowd place ≡ true → is_free_in load row (id_at load.devices place) ≡ true
fits_free load row crowd place is = both_left (is_free_in load row (id_at load.devices place))
    (not (is_less crowd (crowd_in load row (id_at load.devices place))))
    (fits_both load row crowd place is)

pub fits_low : (load : Load) (row : List (Option ℕ)) (crowd : ℕ × ℕ × ℕ) (place : ℕ)
    → fits load row crowd place ≡ true
    → is_less crowd (crowd_in load row (id_at load.devices place)) ≡ false
fits_low load row crowd place is = not_true (is_less crowd
    (crowd_in load row (id_at load.devices place)))
    (both_right (is_free_in load row (id_at load.devices place))
    (not (is_less crowd (crowd_in load row (id_at load.devices place))))
    (fits_both load row crowd place is))

-- who fits where the least crowded are so crowded is one of them
pub fits_least : (load : Load) (row : List (Option ℕ)) (best place : ℕ)
    → IsLeast load row (id_at load.devices best)
    → fits load row (crowd_in load row (id_at load.devices best)) place ≡ true
    → IsLeast load row (id_at load.devices place)
fits_least load row best place least is = record {
  free = fits_free load row (crowd_in load row (id_at load.devices best)) place is;
  least = λ other free. not_less_trans (crowd_in load row other)
      (crowd_in load row (id_at load.devices best)) (crowd_in load row (id_at load.devices place))
      (least.least other free)
      (fits_low load row (crowd_in load row (id_at load.devices best)) place is);
}

free_opens : (load : Load) (row : List (Option ℕ)) (id : ℕ) → is_free_in load row id ≡ true
    → has_open id load.devices ≡ true
free_opens load row id free = room_opens load id (both_left (has_room_in load id) _ free)

-- so is who fits by a floor
pub floor_least : (load : Load) (row : List (Option ℕ)) (floor : ℕ × ℕ × ℕ) (place : ℕ)
    → IsFloor load row floor → fits load row floor place ≡ true
    → IsLeast load row (id_at load.devices place)
floor_least load row floor place is fit = record {
  free = fits_free load row floor place fit;
  least = λ other free. not_less_trans (crowd_in load row other) floor
      (crowd_in load row (id_at load.devices place)) (is other (free_opens load row other free))
      (fits_low load row floor place fit);
}

not_less_same : (a b c : ℕ × ℕ × ℕ) → is_less a b ≡ false → is_less b a ≡ false
    → is_less a c ≡ is_less b c
not_less_same a b c h k = grind (arith, nat_tests)

-- and the least crowded are then as crowded as the floor
pub fits_alike : (load : Load) (row : List (Option ℕ)) (floor : ℕ × ℕ × ℕ) (best place other : ℕ)
    → IsFloor load row floor → fits load row floor place ≡ true
    → IsLeast load row (id_at load.devices best)
    → fits load row floor other ≡ fits load row (crowd_in load row (id_at load.devices best)) other
fits_alike load row floor best place other is fit least =
    let crowd = crowd_in load row (id_at load.devices best) in
    let there = crowd_in load row (id_at load.devices place) in
    let low : is_less crowd floor ≡ false = is (id_at load.devices best)
    (free_opens load row (id_at load.devices best) least.free) in
    let high : is_less floor crowd ≡ false = below floor there crowd
    (fits_low load row floor place fit)
    (least.least (id_at load.devices place) (fits_free load row floor place fit)) in
    ap (λ b. nat_lt other (length load.devices) &&
    (is_free_in load row (id_at load.devices other) && not b))
    (not_less_same floor crowd (crowd_in load row (id_at load.devices other)) high low)
  where
    -- neither is the floor below the best
    below : (floor there crowd : ℕ × ℕ × ℕ) → is_less floor there ≡ false
        → is_less there crowd ≡ false → is_less floor crowd ≡ false
    below floor there crowd h k = not_less_trans floor there crowd h k

pub front_fits : (load : Load) (row : List (Option ℕ)) (crowd : ℕ × ℕ × ℕ) (cards : List ℕ)
    (index : ℕ) (seen : List ℕ) → seen ≡ in_front cards → index < length seen
    → fits load row crowd (get_or seen index 0) ≡ true
    → (index < length cards) × (fits load row crowd (get_or cards index 0) ≡ true)
front_fits load row crowd cards index seen same lt fit =
    let long = ap length same in
    let at = front_at cards index 0 (omega (arith, lt, long)) in
    let here : get_or seen index 0 ≡ get_or cards index 0 = ap (λ xs. get_or xs index 0) same ∙ at.1 in
    (at.0, subst (λ place. fits load row crowd place ≡ true) here fit)

-- the first that passes one of two tests that say the same
first_alike : (one other : ℕ → Bool) → ((k : ℕ) → one k ≡ other k) → (left at : ℕ)
    → first_from one left at ≡ first_from other left at
first_alike one other same zero at = from_zero one at ∙ sym (from_zero other at)
first_alike one other same (suc left) at =
    from_suc one left at
    ∙ ap (λ b. cond b (Some at) (first_from one left (at + 1))) (same at)
    ∙ ap (cond (other at) (Some at)) (first_alike one other same left (at + 1))
    ∙ sym (from_suc other left at)

-- without piles there is no card
pub no_piles : (load : Load) (row : List (Option ℕ)) (crowd : ℕ × ℕ × ℕ) (piles : List (List ℕ))
    (draw : ℕ) → length piles ≡ 0 → None ≡ card_for load row crowd piles draw
no_piles load row crowd [] draw is =
    ap (λ found. or_card (card_of (best_pile load row [] (draw % 0) 0) found)
    (card_of (best_pile load row [] (draw % 0) 0) found))
    (first_none (λ index. fits load row crowd (get_or {A = ℕ} [] index 0)) 0
    (λ k lt. absurd (omega (arith, lt))))
no_piles load row crowd (pile ∷ piles) draw is = absurd (omega (arith, is))

-- the rank of a pile by the device on its first card
pub ranked : (load : Load) (row : List (Option ℕ)) (cards : List ℕ) (place count rank : ℕ)
    (crowd : ℕ × ℕ × ℕ) → Some place ≡ slice_get cards 0 → place < length load.devices
    → crowd ≡ crowd_in load row (id_at load.devices place) → count ≡ length cards
    → rank ≡ rank_of count (Some crowd) → rank ≡ pile_rank load row cards
ranked load row cards place count rank crowd first lt is long told =
    let within : nat_lt place (length load.devices) ≡ true = grind (arith, nat_tests) in
    let there = crowd_in load row (id_at load.devices place) in
    told ∙ ap (λ n. rank_of n (Some crowd)) long ∙ ap (λ c. rank_of (length cards) (Some c)) is
    ∙ ap (λ b. rank_of (length cards) (cond b (Some there) None)) (sym within)
    ∙ ap (λ card. rank_of (length cards) (crowd_on load row card)) first

-- where the same devices fit, the same card is found
card_alike : (load : Load) (row : List (Option ℕ)) (floor crowd : ℕ × ℕ × ℕ) (piles : List (List ℕ))
    → ((place : ℕ) → fits load row floor place ≡ fits load row crowd place) → (pile : ℕ)
    → card_in load row floor piles pile ≡ card_in load row crowd piles pile
card_alike load row floor crowd piles same pile =
    let cards = in_front (get_or piles pile []) in
    ap (card_of pile) (first_alike (λ k. fits load row floor (get_or cards k 0))
    (λ k. fits load row crowd (get_or cards k 0)) (λ k. same (get_or cards k 0)) (length cards) 0)

-- a card that fits by a floor is the one that a seat takes
pub floor_taken : (load : Load) (row : List (Option ℕ)) (floor : ℕ × ℕ × ℕ) (piles : List (List ℕ))
    (draw : ℕ) (card : Card) → AreRoomy load (roomy_places load) → IsFloor load row floor
    → Some card ≡ card_for load row floor piles draw → fits load row floor (place_on piles card) ≡ true
    → Some (record { place = place_on piles card; card = Some card }) ≡ taken load row piles draw
floor_taken load row floor piles draw card are is found fit =
    let place = place_on piles card in
    let best = least_found load row draw (id_at load.devices place) are
    (fits_free load row floor place fit) in
    let crowd = crowd_in load row (id_at load.devices best.0) in
    let same = card_alike load row floor crowd piles
    (λ other. fits_alike load row floor best.0 place other is fit best.2) in
    let start = draw % length piles in
    let few = best_pile load row piles start (min (length piles) few_piles) in
    let all = best_pile load row piles start (length piles) in
    let alike : Some card ≡ card_for load row crowd piles draw = found
    ∙ ap (λ one. or_card one (card_in load row floor piles all)) (same few)
    ∙ ap (or_card (card_in load row crowd piles few)) (same all) in
    ap (λ c. Some (taken_by piles best.0 c)) alike
    ∙ ap (taken_from load row piles draw) (sym best.1)

-- a free device fits if it is no more crowded
pub does_fit : (load : Load) (row : List (Option ℕ)) (crowd : ℕ × ℕ × ℕ) (place : ℕ) (less : Bool)
    → place < length load.devices → is_free_in load row (id_at load.devices place) ≡ true
    → less ≡ is_less crowd (crowd_in load row (id_at load.devices place))
    → not less ≡ fits load row crowd place
does_fit load row crowd place less lt free told =
    let within : nat_lt place (length load.devices) ≡ true = grind (arith, nat_tests) in
    let low = not (is_less crowd (crowd_in load row (id_at load.devices place))) in
    ap not told ∙ ap (λ b. b && low) (sym free)
    ∙ ap (λ b. b && (is_free_in load row (id_at load.devices place) && low)) (sym within)
