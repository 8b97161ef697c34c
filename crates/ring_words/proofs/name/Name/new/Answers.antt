use Rattle.std.proofs.Common.{◌≡◌, ◌≢◌, ◌↔◌, Bool, true, false, Result, Ok, Err, IsErrAnd, IsErrOf}
use Rattle.std.proofs.Common.{refl, sym, ◌∙◌}
use Rattle.ring_words.specs.declared.spelling.SpellingFault.{SpellingFault}
use Rattle.ring_words.specs.declared.spelling.SpellingFault.TheVariants.{Bad, NoMemory}
use Rattle.ring_words.proofs.name.Name.new.Goals as goal

-- What isn't refused as bad has an allowed text.
good : {X : Type 0} (r : Result X SpellingFault) (allowed : Bool) → allowed ≡ true →
    (IsErrOf r Bad → ⊥) → IsErrOf r Bad ↔ (allowed ≢ true)
good r allowed is_true not_bad = (λ e. absurd (not_bad e), λ other. absurd (other is_true))

made : {X : Type 0} (x : X) (r : Result X SpellingFault) → r ≡ Ok x → IsErrOf r Bad → ⊥
made x r is e = cc

no_memory : {X : Type 0} (r : Result X SpellingFault) → IsErrAnd r (λ f. f ≡ NoMemory) →
    IsErrOf r Bad → ⊥
no_memory (Ok x) h e = cc
no_memory (Err f) h e = cc

bad : {X : Type 0} (r : Result X SpellingFault) (allowed : Bool) → allowed ≡ false → r ≡ Err Bad →
    IsErrOf r Bad ↔ (allowed ≢ true)
bad r allowed is_false is = (λ e t. cc, λ other. is)

pub invariant_of-result : goal.invariant_of-result
invariant_of-result g c = rw c.in_ok-text.ensures.ok (sym c.allows.ensures ∙ c.if-not-allows.false)

pub returns-clause-bad : goal.returns-clause-bad
returns-clause-bad g c = good _ (g.K.NameKind.allows c.args.text.now)
    (sym c.allows.ensures ∙ c.if-not-allows.false) (made _ _ refl)

pub returns-clause-good : goal.returns-clause-good
returns-clause-good g c = sym c.allows.ensures ∙ c.if-not-allows.false

pub returns-in_err-text-clause-bad : goal.returns-in_err-text-clause-bad
returns-in_err-text-clause-bad g c = good c.from_residual.result
    (g.K.NameKind.allows c.args.text.now) (sym c.allows.ensures ∙ c.if-not-allows.false)
    (no_memory _ c.from_residual.ensures.1)

pub returns-then-not-allows-clause-bad : goal.returns-then-not-allows-clause-bad
returns-then-not-allows-clause-bad g c = bad _ (g.K.NameKind.allows c.args.text.now)
    (sym c.allows.ensures ∙ c.if-not-allows.true) refl
