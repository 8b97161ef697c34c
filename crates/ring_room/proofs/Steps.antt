-- Steps one after another, and the first number that passes a test.
use Rattle.std.proofs.Common.{◌≡◌, ◌∙◌, ℕ, zero, suc, ◌+◌, ◌-◌, ◌<◌, ◌≤◌, Bool, true, false, cond}
use Rattle.std.proofs.Common.{Some, None, refl, ap, sym, arith}
use Rattle.std.proofs.Math.Numerals.{add-one}
use Rattle.ring_room.specs.Steps.{after_steps, first_below, first_from}

steps_zero : {S : Type 0} (step : ℕ → S → S) (first : S) → after_steps step 0 first ≡ first
unfolding after_steps
steps_zero step first = refl

steps_suc : {S : Type 0} (step : ℕ → S → S) (n : ℕ) (first : S) → after_steps step (suc n) first ≡ step n
    (after_steps step n first)
unfolding after_steps
steps_suc step n first = refl

pub steps_none : {S : Type 0} (step : ℕ → S → S) (first : S) → first ≡ after_steps step 0 first
steps_none step first = sym (steps_zero step first)

pub steps_more : {S : Type 0} (step : ℕ → S → S) (n : ℕ) (first now next : S) →
    now ≡ after_steps step n first → next ≡ step n now → next ≡ after_steps step (n + 1) first
steps_more step n first now next before is =
    is ∙ ap (step n) before ∙ sym (steps_suc step n first)
    ∙ ap (λ k. after_steps step k first) (sym (add-one n))

pub steps_end : {S : Type 0} (step : ℕ → S → S) (n count : ℕ) (first now : S) →
    now ≡ after_steps step n first → n ≡ count → now ≡ after_steps step count first
steps_end step n count first now before same = before ∙ ap (λ k. after_steps step k first) same

pub from_zero : (test : ℕ → Bool) (at : ℕ) → first_from test 0 at ≡ None
unfolding first_from
from_zero test at = refl

pub from_suc : (test : ℕ → Bool) (left at : ℕ) → first_from test (suc left) at ≡ cond (test at) (Some at)
    (first_from test left (at + 1))
unfolding first_from
from_suc test left at = refl

skipped : (test : ℕ → Bool) (count : ℕ) (at : ℕ) → at ≤ count → ((k : ℕ) → k < at → test k ≡ false)
    → first_below test count ≡ first_from test (count - at) at
skipped test count zero le none = let all : count ≡ count - 0 = omega arith in
    ap (λ n. first_from test n 0) all
skipped test count (suc at) le none =
    let left : count - at ≡ suc (count - suc at) = omega (arith, le) in
    skipped test count at (omega (arith, le)) (λ k lt. none k (omega (arith, lt)))
    ∙ ap (λ n. first_from test n at) left
    ∙ from_suc test (count - suc at) at
    ∙ ap (λ b. cond b (Some at) (first_from test (count - suc at) (at + 1))) (none at (omega arith))
    ∙ ap (first_from test (count - suc at)) (add-one at)

-- the first is found
pub first_is : (test : ℕ → Bool) (count at : ℕ) → at < count → ((k : ℕ) → k < at → test k ≡ false)
    → test at ≡ true → Some at ≡ first_below test count
first_is test count at lt none here =
    let left : count - at ≡ suc (count - (at + 1)) = omega (arith, lt) in
    sym (skipped test count at (omega (arith, lt)) none
    ∙ ap (λ n. first_from test n at) left
    ∙ from_suc test (count - (at + 1)) at
    ∙ ap (λ b. cond b (Some at) (first_from test (count - (at + 1)) (at + 1))) here)

-- or there is none
pub first_none : (test : ℕ → Bool) (count : ℕ) → ((k : ℕ) → k < count → test k ≡ false)
    → None ≡ first_below test count
first_none test count none =
    let left : count - count ≡ 0 = omega arith in
    sym (skipped test count count (omega arith) none ∙ ap (λ n. first_from test n count) left
    ∙ from_zero test count)
