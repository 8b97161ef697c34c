-- Numbers below a count that pass a test and stand next to one another.
use Rattle.std.proofs.Common.{◌≡◌, ◌∙◌, ℕ, zero, suc, ◌+◌, ◌*◌, ◌<◌, ◌≤◌, Bool, true, false, cond, min}
use Rattle.std.proofs.Common.{ap, arith, sum_by, sym, mul-le-mul_left, ⊎_elim}
use Rattle.std.specs.List.{range_with_len}
use Rattle.std.proofs.Math.Nat.{suc-mul}
use Rattle.std.proofs.lemmas.Bool.{cases_Bool, cases_lt}
use Rattle.ring_deal.proofs.Rounds.{sum_suc}

-- what stands between two numbers that pass a test passes it too
abbrev pub IsUnbroken : (ℕ → Bool) → ℕ → Type 0
IsUnbroken test count = (low mid high : ℕ) → low < mid → mid < high → high < count →
    test low ≡ true → test high ≡ true → test mid ≡ true

-- The numbers that pass a test are those from one up to another.
pub record IsRun (test : ℕ → Bool) (count : ℕ) : Type 0 where
  pub from : ℕ
  pub to : ℕ
  pub rises : from ≤ to
  pub within : to ≤ count
  pub only : (k : ℕ) → k < count → test k ≡ true → (from ≤ k) × (k < to)
  pub each : (k : ℕ) → from ≤ k → k < to → test k ≡ true

run_longer : (test : ℕ → Bool) (n : ℕ) → IsUnbroken test (suc n) → test n ≡ true → (run : IsRun test
    n) → run.from < run.to → IsRun test (suc n)
run_longer test n unbroken here run some =
    let within = run.within in
    record {
      from = run.from;
      to = suc n;
      rises = omega (arith, some, within);
      within = omega arith;
      only = λ k lt is. (⊎_elim (λ before. ((run.only k before is).0, omega (arith, before)))
          (λ at. (omega (arith, at, some, within), omega (arith, lt))) (cases_lt k n));
      each = λ k ge lt. ⊎_elim (λ before. run.each k ge before)
          (λ at. ⊎_elim (λ between. unbroken run.from k n (omega (arith, at, some)) between
          (omega arith) (run.each run.from (omega arith) some) here)
          (λ last. let same : n ≡ k = omega (arith, last, lt) in ap test (sym same) ∙ here)
          (cases_lt k n)) (cases_lt k run.to);
    }

run_begun : (test : ℕ → Bool) (n : ℕ) → test n ≡ true → (run : IsRun test n) → run.to ≤ run.from →
    IsRun test (suc n)
run_begun test n here run none = record {
  from = n;
  to = suc n;
  rises = omega arith;
  within = omega arith;
  only = λ k lt is. ⊎_elim (λ before. let old = run.only k before is in
      absurd (omega (arith, old.0, old.1, none)))
      (λ at. (at, lt)) (cases_lt k n);
  each = λ k ge lt. let same : n ≡ k = omega (arith, ge, lt) in ap test (sym same) ∙ here;
}

run_same : (test : ℕ → Bool) (n : ℕ) → test n ≡ false → IsRun test n → IsRun test (suc n)
run_same test n none run =
    let within = run.within in
    record {
      from = run.from;
      to = run.to;
      rises = run.rises;
      within = omega (arith, within);
      only = λ k lt is. ⊎_elim (λ before. run.only k before is)
          (λ at. let same : n ≡ k = omega (arith, at, lt) in
          absurd (let is_here = ap test same ∙ is in cc (none, is_here))) (cases_lt k n);
      each = run.each;
    }

-- where none is missing between two, they are a run
pub run_of : (test : ℕ → Bool) (count : ℕ) → IsUnbroken test count → IsRun test count
run_of test zero unbroken = record {
  from = 0;
  to = 0;
  rises = omega arith;
  within = omega arith;
  only = λ k lt. absurd (omega (arith, lt));
  each = λ k ge lt. absurd (omega (arith, lt));
}
run_of test (suc n) unbroken =
    let run = run_of test n (λ low mid high one other lt. unbroken low mid high one other
    (omega (arith, lt))) in
    ⊎_elim (λ here. ⊎_elim (run_longer test n unbroken here run) (run_begun test n here run)
    (cases_lt run.from run.to))
    (λ none. run_same test n none run) (cases_Bool (test n))

-- ---- what a run gives

outside : (test : ℕ → Bool) (count : ℕ) (run : IsRun test count) (n : ℕ) → n < count →
    ((run.from ≤ n) × (n < run.to) → ⊥) → test n ≡ false
outside test count run n lt not = ⊎_elim (λ is. absurd (not (run.only n lt is))) (λ none. none)
    (cases_Bool (test n))

-- Something grows with each number. What it grows by at those of a run is what it grows by from the
-- first of them to the last.
pub run_sum : (test : ℕ → Bool) (count : ℕ) (run : IsRun test count) (whole part each : ℕ → ℕ) →
    part 0 ≡ 0 → ((n : ℕ) → n < count → whole (n + 1) ≡ whole n + each n) →
    ((n : ℕ) → n < count → part (n + 1) ≡ part n + cond (test n) (each n) 0) → (n : ℕ) → n ≤ count →
    part n + whole (min n run.from) ≡ whole (min n run.to)
run_sum test count run whole part each none grows adds zero le =
    let one : whole (min 0 run.from) ≡ whole 0 = ap whole (omega arith) in
    let other : whole (min 0 run.to) ≡ whole 0 = ap whole (omega arith) in
    omega (arith, none, one, other)
run_sum test count run whole part each none grows adds (suc n) le =
    let before = run_sum test count run whole part each none grows adds n (omega (arith, le)) in
    let lt : n < count = omega (arith, le) in
    let rises = run.rises in
    let more : whole (suc n) ≡ whole n + each n = ap whole (omega arith) ∙ grows n lt in
    let added : part (suc n) ≡ part n + cond (test n) (each n) 0 = ap part (omega arith) ∙ adds n lt
    in
    let nothing : test n ≡ false → part (suc n) ≡ part n = λ no. (let is : cond (test n) (each n) 0 ≡
    0 = ap (λ b. cond b (each n) 0) no in omega (arith, added, is)) in
    ⊎_elim
    (λ early.
    let same = nothing (outside test count run n lt (λ is. omega (arith, is.0, early))) in
    let a : whole (min (suc n) run.from) ≡ whole (suc n) = ap whole (omega (arith, early)) in
    let b : whole (min (suc n) run.to) ≡ whole (suc n) = ap whole (omega (arith, early, rises)) in
    let c : whole (min n run.from) ≡ whole n = ap whole (omega (arith, early)) in
    let d : whole (min n run.to) ≡ whole n = ap whole (omega (arith, early, rises)) in
    omega (arith, before, same, a, b, c, d))
    (λ begun. ⊎_elim
    (λ inside.
    let is : cond (test n) (each n) 0 ≡ each n = ap (λ b. cond b (each n) 0) (run.each n begun
    inside) in
    let a : whole (min (suc n) run.from) ≡ whole run.from = ap whole (omega (arith, begun)) in
    let b : whole (min (suc n) run.to) ≡ whole (suc n) = ap whole (omega (arith, inside)) in
    let c : whole (min n run.from) ≡ whole run.from = ap whole (omega (arith, begun)) in
    let d : whole (min n run.to) ≡ whole n = ap whole (omega (arith, inside)) in
    omega (arith, before, added, is, more, a, b, c, d))
    (λ ended.
    let same = nothing (outside test count run n lt (λ is. omega (arith, is.1, ended))) in
    let a : whole (min (suc n) run.from) ≡ whole run.from = ap whole (omega (arith, begun)) in
    let b : whole (min (suc n) run.to) ≡ whole run.to = ap whole (omega (arith, ended)) in
    let c : whole (min n run.from) ≡ whole run.from = ap whole (omega (arith, begun)) in
    let d : whole (min n run.to) ≡ whole run.to = ap whole (omega (arith, ended)) in
    omega (arith, before, same, a, b, c, d))
    (cases_lt n run.to)) (cases_lt n run.from)

-- ---- a run that is dealt round

-- Of as many rounds so many gave a partition a card of a run; the last card lies behind the run's
-- first by a whole round for each that was before it.
record IsDealtRound (size part first most rounds gave : ℕ) : Type 0 where
  few : gave ≤ most
  apart : 0 < gave → first + gave * size ≤ rounds * size + part

dealt_more : (test : ℕ → Bool) (size part first most rounds gave : ℕ) → part < size →
    (test rounds ≡ true → (first ≤ rounds * size + part) × (rounds * size + part < first +
    size * most)) → IsDealtRound size part first most rounds gave → IsDealtRound size part first most
    (suc rounds) (gave + cond (test rounds) 1 0)
dealt_more test size part first most rounds gave lt run before = ⊎_elim given spared
    (cases_Bool (test rounds))
  where
    step : suc rounds * size ≡ rounds * size + size
    step = suc-mul rounds size

    given : test rounds ≡ true → IsDealtRound size part first most (suc rounds) (gave +
        cond (test rounds) 1 0)
    given is =
        let bounds = run is in
        let one : gave + cond (test rounds) 1 0 ≡ suc gave = ap (λ b. gave + cond b 1 0) is ∙ omega
        arith in
        let more : suc gave * size ≡ gave * size + size = suc-mul gave size in
        let flipped : size * gave ≡ gave * size = omega arith in
        let room : gave < most = ⊎_elim (λ below. below) (λ over. absurd (
        let least : size * most ≤ size * gave = mul-le-mul_left size over in
        ⊎_elim (λ some. let far = before.apart some in omega (arith, far, bounds.1, least, flipped))
        (λ no. let nothing : gave * size ≡ 0 = (let z : gave ≡ 0 = omega (arith, no) in
        ap (λ g. g * size) z ∙ omega arith) in omega (arith, bounds.0, bounds.1, least, flipped, nothing))
        (cases_lt 0 gave))) (cases_lt gave most) in
        rw one (record {
          few = room;
          apart = λ positive. ⊎_elim
              (λ some. let far = before.apart some in omega (arith, far, more, step))
              (λ no. let nothing : gave * size ≡ 0 = (let z : gave ≡ 0 = omega (arith, no) in
              ap (λ g. g * size) z ∙ omega arith) in
              omega (arith, bounds.0, more, step, nothing)) (cases_lt 0 gave);
        })

    spared : test rounds ≡ false → IsDealtRound size part first most (suc rounds) (gave +
        cond (test rounds) 1 0)
    spared none =
        let same : gave + cond (test rounds) 1 0 ≡ gave = ap (λ b. gave + cond b 1 0) none ∙ omega
        arith in
        rw same (record {
          few = before.few;
          apart = λ some. let far = before.apart some in omega (arith, far, step);
        })

dealt_round_is : (test : ℕ → Bool) (size part first most rounds : ℕ) → part < size →
    ((round : ℕ) → round < rounds → test round ≡ true → (first ≤ round * size + part) ×
    (round * size + part < first + size * most)) → IsDealtRound size part first most rounds
    (sum_by (λ round. cond (test round) 1 0) (range_with_len 0 rounds))
dealt_round_is test size part first most zero lt run = record {
  few = omega arith;
  apart = λ some. absurd (omega (arith, some));
}
dealt_round_is test size part first most (suc rounds) lt run =
    rw (sum_suc (λ round. cond (test round) 1 0) rounds) (dealt_more test size part first most rounds
    (sum_by (λ round. cond (test round) 1 0) (range_with_len 0 rounds)) lt
    (run rounds (omega arith)) (dealt_round_is test size part first most rounds lt
    (λ round below. run round (omega (arith, below)))))

-- a partition has at most a share of a run of cards
pub round_shares : (test : ℕ → Bool) (size part first most rounds : ℕ) → part < size →
    ((round : ℕ) → round < rounds → test round ≡ true → (first ≤ round * size + part) ×
    (round * size + part < first + size * most)) →
    sum_by (λ round. cond (test round) 1 0) (range_with_len 0 rounds) ≤ most
round_shares test size part first most rounds lt run =
    (dealt_round_is test size part first most rounds lt run).few
