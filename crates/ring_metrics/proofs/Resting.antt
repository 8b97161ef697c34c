-- For how long partitions are locked.
use Rattle.std.proofs.Common.{◌≡◌, ℕ, ◌+◌, ◌-◌, ◌<◌, ◌≤◌, List, [], ◌∷◌, length, get_or, take, max}
use Rattle.std.proofs.Common.{count_by, cond, Bool, true, false, Option, Some, None, refl, sym, ap}
use Rattle.std.proofs.Common.{◌∙◌, ⊎_elim, arith}
use Rattle.std.specs.Prelude.{nat_lt}
use Rattle.std.proofs.lemmas.Bool.{cases_lt, lt-ltb, le-ltb, ltb-false}
use Rattle.std.proofs.lemmas.List.Sums.{count_by_more_no, count_by_more_yes, sum_by-cons}
use Rattle.ring_place.specs.Rebalance.{is_recent}

-- the hours before an end, counted from an hour on
pub before_end : (hour later end : ℕ) → nat_lt (hour + later) end ≡ nat_lt later (end - hour)
before_end hour later end = ⊎_elim
    (λ before. lt-ltb (hour + later) end before ∙ sym (lt-ltb later (end - hour) (omega (arith, before))))
    (λ past. le-ltb (hour + later) end past ∙ sym (le-ltb later (end - hour) (omega (arith, past))))
    (cases_lt (hour + later) end)

-- no number is below 0
pub none_before : (later : ℕ) → false ≡ nat_lt later 0
none_before later = sym (le-ltb later 0 (omega arith))

-- a partition that isn't locked stays so
stays_free : (min_hours hour a b : ℕ) (moved : Option ℕ) → a ≤ b →
    is_recent min_hours (hour + a) moved ≡ false → is_recent min_hours (hour + b) moved ≡ false
stays_free min_hours hour a b None le free = refl
stays_free min_hours hour a b (Some moved) le free =
    let past : moved + min_hours ≤ hour + a = ltb-false (hour + a) (moved + min_hours) free in
    le-ltb (hour + b) (moved + min_hours) (omega (arith, le, past))

not_counted : (b : Bool) → ◌≡◌ {A = ℕ} (cond b 1 0) 0 → b ≡ false
not_counted true e = absurd (omega (arith, e))
not_counted false e = refl

-- where no partition is locked, none is later
stay_free : (min_hours hour a b : ℕ) (moves : List (Option ℕ)) → a ≤ b →
    count_by (is_recent min_hours (hour + a)) moves ≡ 0 →
    count_by (is_recent min_hours (hour + b)) moves ≡ 0
stay_free min_hours hour a b [] le none = refl
stay_free min_hours hour a b (moved ∷ moves) le none =
    let earlier = sum_by-cons (λ x. cond (is_recent min_hours (hour + a) x) 1 0) moved moves in
    let later = sum_by-cons (λ x. cond (is_recent min_hours (hour + b) x) 1 0) moved moves in
    let rest = stay_free min_hours hour a b moves le (omega (arith, none, earlier)) in
    let free = not_counted (is_recent min_hours (hour + a) moved) (omega (arith, none, earlier)) in
    let first : ◌≡◌ {A = ℕ} (cond (is_recent min_hours (hour + b) moved) 1 0) 0 =
    ap (λ (t : Bool). cond t 1 0) (stays_free min_hours hour a b moved le free) in
    omega (arith, later, rest, first)

-- So many hours after an hour none of these partitions is locked, and fewer hours after it one is.
abbrev pub IsRestOf : ℕ → ℕ → List (Option ℕ) → ℕ → Type 0
IsRestOf min_hours hour moves rest = (count_by (is_recent min_hours (hour + rest)) moves ≡ 0)
    × ((fewer : ℕ) → fewer < rest → 0 < count_by (is_recent min_hours (hour + fewer)) moves)

pub rest_of_none : (min_hours hour : ℕ) → IsRestOf min_hours hour [] 0
rest_of_none min_hours hour = (refl, λ fewer below. absurd (omega (arith, below)))

-- the rest of one partition more
pub rest_more : (min_hours hour : ℕ) (moves : List (Option ℕ)) (i rest left : ℕ) →
    i < length moves → IsRestOf min_hours hour (take i moves) rest →
    ((later : ℕ) → is_recent min_hours (hour + later) (get_or moves i None) ≡ nat_lt later left) →
    IsRestOf min_hours hour (take (i + 1) moves) (max rest left)
rest_more min_hours hour moves i rest left lt so_far is = (none, some)
  where
    longer : ℕ
    longer = max rest left

    none : count_by (is_recent min_hours (hour + longer)) (take (i + 1) moves) ≡ 0
    none =
        let before = stay_free min_hours hour rest longer (take i moves) (omega arith) so_far.0 in
        let free = is longer ∙ le-ltb longer left (omega arith) in
        count_by_more_no (is_recent min_hours (hour + longer)) moves i None lt free ∙ before

    some : (fewer : ℕ) → fewer < longer →
        0 < count_by (is_recent min_hours (hour + fewer)) (take (i + 1) moves)
    some fewer below = ⊎_elim
        (λ locked.
        let more = count_by_more_yes (is_recent min_hours (hour + fewer)) moves i None lt
        (is fewer ∙ lt-ltb fewer left locked) in
        omega (arith, more))
        (λ free.
        let more = count_by_more_no (is_recent min_hours (hour + fewer)) moves i None lt
        (is fewer ∙ le-ltb fewer left free) in
        let earlier = so_far.1 fewer (omega (arith, below, free)) in
        omega (arith, more, earlier))
        (cases_lt fewer left)
