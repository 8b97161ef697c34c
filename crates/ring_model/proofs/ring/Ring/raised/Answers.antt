use Rattle.std.proofs.Common.{◌≡◌, ◌+◌, ◌≤◌, ◌<◌, ℕ, ap, refl, sym, ◌∙◌, subst, ⊎_elim}
use Rattle.std.proofs.Common.{arith}
use Rattle.std.proofs.lemmas.Bool.{cases_lt}
use Rattle.ring_words.specs.Limits.{greatest_power}
use Rattle.ring_model.specs.Ring.{RingRecord}
use Rattle.ring_model.specs.Parts.{record_of}
use Rattle.ring_model.specs.Raise.{IsRaised}
use Rattle.ring_model.specs.Valid.{IsValid}
use Rattle.ring_model.proofs.Raising.{raised_to, raised_is, raised_valid}
use Rattle.ring_model.proofs.ring.Ring.raised.Goals as goal

pub invariant_of-result : goal.invariant_of-result
invariant_of-result c =
    let old : RingRecord = record_of c.self.inside.parts in
    let up : c.in-Some.power ≡ old.power + 1 = c.in-Some.ensures.1 ∙ ap (λ (n : ℕ). n + 1)
    c.get.ensures.value in
    let raised = raised_is old c.in-Some.power c.in_ok-parts-2.field-0.items
    c.in_ok-parts-3.field-0.items up c.in_ok-parts-2.ensures.count
    c.in_ok-parts-2.ensures.halves c.in_ok-parts-3.ensures.count c.in_ok-parts-3.ensures.halves
    in
    let valid = raised_valid old (raised_to old c.in-Some.power c.in_ok-parts-2.field-0.items
    c.in_ok-parts-3.field-0.items) c.self.invariant raised (rw c.in-Some.ensures.1
    c.in-Some.ensures.0.1) in
    rw c.risen.ensures (subst (λ (r : RingRecord). IsValid (raised_to r c.in-Some.power
    c.in_ok-parts-2.field-0.items c.in_ok-parts-3.field-0.items)) (sym c.in_ok-parts.ensures)
    valid)

pub returns-clause-raised : goal.returns-clause-raised
returns-clause-raised c =
    let old : RingRecord = record_of c.self.inside.parts in
    let up : c.in-Some.power ≡ old.power + 1 = c.in-Some.ensures.1 ∙ ap (λ (n : ℕ). n + 1)
    c.get.ensures.value in
    let raised = raised_is old c.in-Some.power c.in_ok-parts-2.field-0.items
    c.in_ok-parts-3.field-0.items up c.in_ok-parts-2.ensures.count
    c.in_ok-parts-2.ensures.halves c.in_ok-parts-3.ensures.count c.in_ok-parts-3.ensures.halves
    in
    rw (c.risen.ensures, ← c.self.view_is)
    (subst (λ (r : RingRecord). IsRaised old (raised_to r c.in-Some.power
    c.in_ok-parts-2.field-0.items c.in_ok-parts-3.field-0.items)) (sym c.in_ok-parts.ensures)
    raised)

-- A power that can't be raised is the greatest.
at_greatest : (g p : ℕ) → g ≤ greatest_power → g ≡ p →
    ((1 ≤ g + 1) × (g + 1 ≤ greatest_power) → ⊥) → p ≡ greatest_power
at_greatest g p within same refused =
    ⊎_elim (λ (less : g < greatest_power). absurd (refused (omega arith, omega arith)))
    (λ (more : greatest_power ≤ g). omega arith) (cases_lt g greatest_power)

pub returns-in_default-clause-limit : goal.returns-in_default-clause-limit
returns-in_default-clause-limit c = (
  λ _. at_greatest c.get.result c.args.self.now.power c.get.ensures.within.1 (c.get.ensures.value
      ∙ ap (λ (r : RingRecord). r.power) c.self.view_is) c.in_default.ensures,
  λ _. refl,
)
