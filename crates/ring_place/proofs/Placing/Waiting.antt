-- The partitions that have an empty seat.
use Rattle.std.proofs.Common.{◌≡◌, ◌<◌, ◌∙◌, ◌==◌, ◌&&◌, ℕ, Bool, true, false, cond, List}
use Rattle.std.proofs.Common.{[], ◌∷◌, All, Option, None, Some, length, refl, sym, ap, arith, count_by}
use Rattle.std.specs.List.{list_any, range_with_len}
use Rattle.std.specs.List.Sorted.{IsPermutation}
use Rattle.std.proofs.lemmas.Bool.{eq-eqb, eqb-true}
use Rattle.std.proofs.lemmas.List.Elements.{All-filter}
use Rattle.std.proofs.lemmas.List.Sums.{sum_by-cons}
use Rattle.std.proofs.lemmas.Map.Views.{any-filter_same}
use Rattle.ring_room.specs.Rows.{is_empty}
use Rattle.ring_room.specs.Load.{Load}
use Rattle.ring_place.specs.Made.{heap_rank, is_number, numbered_as, row_at, waiting, with_empty}
use Rattle.ring_place.proofs.Placing.Homes.{any_flat, numbers_all}
use Rattle.ring_deal.specs.Inner.Orders.{is_among}
use Rattle.ring_place.specs.Inner.Placing.{AreWaiting}
use Rattle.ring_deal.proofs.Orders.{all_below, order_all}

no_empty : (row : List (Option ℕ)) → list_any is_empty row ≡ false → count_by is_empty row ≡ 0
no_empty [] none = refl
no_empty (None ∷ row) none = absurd (cc none)
no_empty (Some id ∷ row) none =
    let one = sum_by-cons (λ (s : Option ℕ). cond (is_empty s) 1 0) (Some id) row in
    omega (arith, one, no_empty row none)

both_true : (a b : Bool) → (a && b) ≡ false → b ≡ true → a ≡ false
both_true false b none is = refl
both_true true b none is = absurd (cc (none, is))

pub empty_below : (order : List ℕ) (rows : List (List (Option ℕ))) →
    IsPermutation (range_with_len 0 (length rows)) order →
    All (λ p. p < length rows) (with_empty order rows)
empty_below order rows is = All-filter (λ p. list_any is_empty (row_at rows p))
    (λ p. p < length rows) order (all_below (length rows) order is)

abbrev rank_in : Load → List (List (Option ℕ)) → ℕ → Option ℕ
rank_in load rows p = Some (heap_rank load (row_at rows p))

pub waiting_below : (load : Load) (order : List ℕ) (rows : List (List (Option ℕ))) →
    IsPermutation (range_with_len 0 (length rows)) order →
    All (λ p. p < length rows) (waiting load order rows)
waiting_below load order rows is = numbers_all (λ p. p < length rows) (rank_in load rows)
    (with_empty order rows) (empty_below order rows is)

-- who has an empty seat waits
still_waits : (load : Load) (order : List ℕ) (rows : List (List (Option ℕ))) (p : ℕ) →
    is_among (with_empty order rows) p ≡ true → is_among (waiting load order rows) p ≡ true
still_waits load order rows p is =
    let rank = heap_rank load (row_at rows p) in
    let itself : is_number rank (rank_in load rows p) ≡ true = eq-eqb rank rank refl in
    any_flat (λ q. q == p) (numbered_as (rank_in load rows) (with_empty order rows)) 0 11 rank
    (omega arith) (omega arith)
    (any-filter_same (λ q. q == p) (λ q. is_number rank (rank_in load rows q)) true
    (λ q same. ap (λ k. is_number rank (rank_in load rows k)) (eqb-true q p same) ∙ itself)
    (with_empty order rows) ∙ is)

waits_not : (a b : Bool) → (a ≡ true → b ≡ true) → b ≡ false → a ≡ false
waits_not true b so none = absurd (let yes = so refl in cc (yes, none))
waits_not false b so none = refl

pub are_waiting : (homes : List Bool) (load : Load) (order : List ℕ)
    (rows : List (List (Option ℕ))) → length homes ≡ length rows →
    IsPermutation (range_with_len 0 (length rows)) order →
    AreWaiting homes (waiting load order rows) rows
are_waiting homes load order rows told is = record {
  told = told;
  below = waiting_below load order rows is;
  full = λ p lt none. no_empty (row_at rows p) (both_true _ (is_among order p)
      (sym (any-filter_same (λ q. q == p) (λ q. list_any is_empty (row_at rows q))
      (list_any is_empty (row_at rows p)) (λ q same. ap (λ k. list_any is_empty (row_at rows k))
      (eqb-true q p same)) order) ∙ waits_not (is_among (with_empty order rows) p)
      (is_among (waiting load order rows) p) (still_waits load order rows p) none)
      (order_all (length rows) order is p lt));
}
