use Rattle.std.proofs.Common.{◌≡◌, ◌<◌, ◌≤◌, ◌%◌, ◌^◌, ◌*◌, ◌+◌, sym, Option, Some, None, ℕ, List}
use Rattle.std.proofs.Common.{IfSome, IfNone, SomeIff, subst, arith}
use Rattle.ring_words.specs.Texts.{hundredths_text, greatest_weight}
use Rattle.ring_words.proofs.Decimals.{weight_parts, weight_of_parts, text_of_parts}
use Rattle.ring_words.proofs.weight.Weight.parse.Goals as goal

-- The text is the weight's where it is light enough, and else no weight's.
weighed : (t : List ℕ) (h : ℕ) (r : Option ℕ) → SomeIff r (h ≤ greatest_weight) h →
    t ≡ hundredths_text h → IfSome r (λ w. (w ≤ greatest_weight) × (t ≡ hundredths_text w))
weighed t h None iff text = tt
weighed t h (Some w) iff text = subst (λ (x : ℕ). (x ≤ greatest_weight) × (t ≡ hundredths_text x))
    (sym iff.1) (iff.0, text)

too_heavy : (t : List ℕ) (h : ℕ) (r : Option ℕ) → SomeIff r (h ≤ greatest_weight) h →
    ((w : ℕ) → w ≤ greatest_weight → t ≡ hundredths_text w → h ≡ w) →
    IfNone r ((w : ℕ) → w ≤ greatest_weight → t ≡ hundredths_text w → ⊥)
too_heavy t h None iff only = λ w le e. iff (let same : h ≡ w = only w le e in omega arith)
too_heavy t h (Some w) iff only = tt

pub returns-in_err-part-clause-none : goal.returns-in_err-part-clause-none
returns-in_err-part-clause-none c = rw c.from_residual-in_err-part.ensures (λ w le e.
    let low : w % 100 < 100 = omega arith in
    let small : c.in_ok-whole.whole < 2 ^ 32 = c.in_ok-whole.ensures.found.0 in
    c.in_err-part.ensures.none (w % 100) low (weight_parts c.args.text.now c.in_ok-whole.rest.now
    c.in_ok-whole.whole w small c.in_ok-whole.ensures.found.1 le e).1)

pub returns-then-whole-clause-none : goal.returns-then-whole-clause-none
returns-then-whole-clause-none c = λ w le e.
    let small : c.in_ok-whole.whole < 2 ^ 32 = c.in_ok-whole.ensures.found.0 in
    let same = weight_of_parts c.args.text.now c.in_ok-whole.rest.now c.in_ok-whole.whole
    c.in_ok-part.part w small c.in_ok-part.ensures.found.0 c.in_ok-whole.ensures.found.1
    c.in_ok-part.ensures.found.1 le e in
    omega arith

pub returns-clause-found : goal.returns-clause-found
returns-clause-found c =
    weighed c.args.text.now (c.in_ok-whole.whole * 100 + c.from.result) c.of.result c.of.ensures
    (rw c.from.ensures (text_of_parts c.args.text.now c.in_ok-whole.rest.now c.in_ok-whole.whole
    c.in_ok-part.part c.in_ok-part.ensures.found.0 c.in_ok-whole.ensures.found.1
    c.in_ok-part.ensures.found.1))

pub returns-clause-none : goal.returns-clause-none
returns-clause-none c =
    too_heavy c.args.text.now (c.in_ok-whole.whole * 100 + c.from.result) c.of.result c.of.ensures
    (λ w le e.
    let small : c.in_ok-whole.whole < 2 ^ 32 = c.in_ok-whole.ensures.found.0 in
    rw c.from.ensures (weight_of_parts c.args.text.now c.in_ok-whole.rest.now c.in_ok-whole.whole
    c.in_ok-part.part w small c.in_ok-part.ensures.found.0 c.in_ok-whole.ensures.found.1
    c.in_ok-part.ensures.found.1 le e))
