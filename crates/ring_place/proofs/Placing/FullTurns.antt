-- Turns of partitions that have no empty seat change nothing.
use Rattle.std.proofs.Common.{◌≡◌, ◌==◌, ◌∙◌, ℕ, zero, suc, ◌+◌, ◌-◌, ◌<◌, ◌≤◌, Bool, false, List, length}
use Rattle.std.proofs.Common.{Option, get_or, count_by, ap, subst, sym, ⊎_elim, arith}
use Rattle.std.proofs.lemmas.Bool.{cases_Bool, eqb-true}
use Rattle.std.proofs.lemmas.Grind.{get_or_default_zero}
use Rattle.std.proofs.lemmas.List.Folds.{Any-from_list_any}
use Rattle.ring_room.specs.Load.{Load}
use Rattle.ring_room.specs.Rows.{is_empty}
use Rattle.ring_room.specs.Steps.{after_steps}
use Rattle.ring_room.proofs.Steps.{steps_end, steps_more, steps_none}
use Rattle.ring_place.specs.declared.place.Turn.{Turn}
use Rattle.ring_deal.specs.Inner.Orders.{is_among}
use Rattle.ring_place.specs.Inner.Placing.{AreFull, AreTurns, AreWaiting}
use Rattle.ring_place.specs.Made.{Placing, put_at, put_by, row_at, turn, turn_at}

-- steps that change nothing
steps_stay : {S : Type 0} (step : ℕ → S → S) (n left : ℕ) (first now : S)
    → now ≡ after_steps step n first → ((k : ℕ) → k < n + left → step k now ≡ now)
    → now ≡ after_steps step (n + left) first
steps_stay step n zero first now before same =
    steps_end step n (n + zero) first now before (omega arith)
steps_stay step n (suc left) first now before same =
    let earlier = steps_stay step n left first now before (λ k lt. same k (omega (arith, lt))) in
    steps_end step (n + left + 1) (n + suc left) first now
    (steps_more step (n + left) first now now earlier (sym (same (n + left) (omega arith))))
    (omega arith)

-- a turn of such partitions
turn_stays : (kind : Turn) (homes : List Bool) (order : List ℕ) (old : List (List (Option ℕ)))
    (now : Placing) → AreFull now.rows order → turn kind homes order old now ≡ now
turn_stays kind homes order old now full =
    let step = put_at kind homes order old in
    sym (steps_end step (0 + length order) (length order) now now
    (steps_stay step 0 (length order) now now (steps_none step now)
    (λ k lt. ap (put_by kind (get_or homes (get_or order k 0) false) old (get_or order k 0) now)
    (full k 0 (omega (arith, lt))).first)) (omega arith))

-- and so many
pub turns_stay : (kind : Turn) (homes : List Bool) (order : List ℕ) (old : List (List (Option ℕ)))
    (n count : ℕ) (first now : Placing) → AreFull now.rows order → n ≤ count
    → now ≡ after_steps (turn_at kind homes order old) n first
    → now ≡ after_steps (turn_at kind homes order old) count first
turns_stay kind homes order old n count first now full le before =
    let step = turn_at kind homes order old in
    steps_end step (n + (count - n)) count first now
    (steps_stay step n (count - n) first now before (λ k lt. turn_stays kind homes order old now full))
    (omega (arith, le))

-- they leave no seat empty
pub turns_full : (kind : Turn) (n count : ℕ) (load after : Load) (homes : List Bool)
    (order : List ℕ) (old rows next : List (List (Option ℕ))) → AreTurns kind n load after old rows next
    → AreWaiting homes order next → AreFull next order
    → AreTurns kind count load after old rows next
turns_full kind n count load after homes order old rows next so_far waits full = record {
  as_many = so_far.as_many;
  can = so_far.can;
  keeps = so_far.keeps;
  fewer = λ partition lt.
      let none = all_full partition (let as_many = so_far.as_many in omega (arith, lt, as_many)) in
      omega (arith, none);
}
  where
    all_full : (partition : ℕ) → partition < length next
        → count_by is_empty (row_at next partition) ≡ 0
    all_full partition lt = ⊎_elim
        (λ yes. let found = Any-from_list_any (λ other. other == partition) order yes in
        let read : get_or order found.0 0 ≡ found.1 =
        sym (get_or_default_zero order found.0 found.1 found.2) ∙ found.3 in
        subst (λ p. count_by is_empty (row_at next p) ≡ 0) (read ∙ eqb-true _ _ found.4)
        (full found.0 0 found.2).none)
        (λ no. waits.full partition lt no)
        (cases_Bool (is_among order partition))
