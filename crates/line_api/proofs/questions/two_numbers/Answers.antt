use Rattle.std.proofs.Common.{◌∙◌, ◌∷◌, ◌++◌, ℕ, List, ap, decimal, lit<}
use Rattle.ring_words.proofs.Decimals.{separated_parts}
use Rattle.line_api.proofs.questions.two_numbers.Goals as goal

pub returns-in_err-first-clause-none : goal.returns-in_err-first-clause-none
returns-in_err-first-clause-none c = rw c.from_residual.ensures (λ first second are.
    c.in_err-first.ensures.none first (decimal second) are.first_fits are.is)

pub returns-in_err-second-clause-none : goal.returns-in_err-second-clause-none
returns-in_err-second-clause-none c = rw c.from_residual-in_err-second.ensures
    (λ first second are.
    let found = c.in_ok-first.ensures.found in
    let parts = separated_parts 32 c.args.text.now c.in_ok-first.first first c.in_ok-first.rest.now
    (decimal second) (lit< tt) found.0 are.first_fits found.1 are.is in
    c.in_err-second.ensures.none second are.second_fits parts.1)

pub returns-clause-found : goal.returns-clause-found
returns-clause-found c =
    let front = c.in_ok-first.ensures.found in
    let back = c.in_ok-second.ensures.found in
    record {
      is = front.1 ∙ ap (λ (t : List ℕ). decimal c.in_ok-first.first ++ 32 ∷ t) back.1;
      first_fits = front.0;
      second_fits = back.0;
    }
