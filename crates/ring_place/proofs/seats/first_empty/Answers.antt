use Rattle.std.proofs.Common.{◌≡◌, ℕ, zero, suc, ◌<◌, true, false, cond, List, [], ◌∷◌}
use Rattle.std.proofs.Common.{Option, None, Some, length, get_or, count_by, below_more, refl}
use Rattle.std.proofs.Common.{is_some, arith}
use Rattle.std.specs.Prelude.{slice_get}
use Rattle.std.proofs.lemmas.List.Sums.{sum_by-cons}
use Rattle.ring_room.specs.Rows.{is_empty}
use Rattle.ring_room.proofs.Steps.{first_is, first_none}
use Rattle.ring_place.proofs.seats.first_empty.Goals as goal

full_seat : (o : Option ℕ) → is_some o ≡ true → is_empty o ≡ false
full_seat None some = absurd (cc some)
full_seat (Some id) some = refl

empty_seat : (o : Option ℕ) → is_some o ≡ false → is_empty o ≡ true
empty_seat None none = refl
empty_seat (Some id) none = absurd (cc none)

none_there : (row : List (Option ℕ)) (replica : ℕ) → replica < length row →
    is_empty (get_or row replica None) ≡ true → slice_get row replica ≡ Some None
none_there [] replica lt empty = absurd (omega arith)
none_there (None ∷ row) zero lt empty = refl
none_there (Some id ∷ row) zero lt empty = absurd (cc empty)
none_there (seat ∷ row) (suc replica) lt empty = none_there row replica (omega arith) empty

none_empty : (row : List (Option ℕ)) → ((k : ℕ) → k < length row →
    is_empty (get_or row k None) ≡ false) → count_by is_empty row ≡ 0
none_empty [] full = refl
none_empty (seat ∷ row) full =
    let first : is_empty seat ≡ false = full zero (omega arith) in
    let rest = none_empty row (λ k lt. full (suc k) (omega (arith, lt))) in
    let nothing : ◌≡◌ {A = ℕ} (cond (is_empty seat) 1 0) 0 = rw first refl in
    let sum = sum_by-cons (λ (s : Option ℕ). cond (is_empty s) 1 0) seat row in
    omega (arith, rest, nothing, sum)

pub loop-replica-preserved : goal.loop-replica-preserved
loop-replica-preserved c = below_more _ _ c.loop-replica.invariant
    (full_seat (get_or c.args.row.now c.loop-replica.replica None) (c.if-is_none.ensures))

pub returns-then-is_none-clause-by_name : goal.returns-then-is_none-clause-by_name
returns-then-is_none-clause-by_name c = first_is (λ k. is_empty (get_or c.args.row.now k None))
    (length c.args.row.now) c.loop-replica.replica c.loop-replica-test.true c.loop-replica.invariant
    (empty_seat (get_or c.args.row.now c.loop-replica.replica None) (c.if-is_none.ensures))

pub returns-then-is_none-clause-empty : goal.returns-then-is_none-clause-empty
returns-then-is_none-clause-empty c = none_there c.args.row.now c.loop-replica.replica
    c.loop-replica-test.true
    (empty_seat (get_or c.args.row.now c.loop-replica.replica None) (c.if-is_none.ensures))

pub returns-clause-by_name : goal.returns-clause-by_name
returns-clause-by_name c = first_none (λ k. is_empty (get_or c.args.row.now k None))
    (length c.args.row.now) (λ k lt. c.loop-replica.invariant k (omega (arith, lt)))

pub returns-clause-full : goal.returns-clause-full
returns-clause-full c = none_empty c.args.row.now (λ k lt. c.loop-replica.invariant k
    (omega (arith, lt)))
