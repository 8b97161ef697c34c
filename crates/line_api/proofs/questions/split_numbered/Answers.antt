use Rattle.std.proofs.Common.{ℕ, List, lit<, subst, sym}
use Rattle.std.proofs.lemmas.Option.{MatchOption-at_some}
use Rattle.std.proofs.lemmas.Str.Pattern.{split_parts}
use Rattle.line_api.specs.Lines.{AreTwoNumbers}
use Rattle.line_api.proofs.Asking.{cut_is, no_name}
use Rattle.line_api.proofs.questions.split_numbered.Goals as goal

pub returns-in_err-name-clause-none : goal.returns-in_err-name-clause-none
returns-in_err-name-clause-none c = rw c.from_residual.ensures
    (no_name c.args.text.now c.split_once.result c.split_once.ensures.cases c.in_err-name.was)

pub returns-in_err-first-clause-none : goal.returns-in_err-first-clause-none
returns-in_err-first-clause-none c = rw c.from_residual-in_err-first.ensures
    (λ name first second named numbered.
    let cut = cut_is c.args.text.now c.split_once.result _ c.split_once.ensures.cases
    c.in_ok-name.was name first second named numbered in
    c.in_err-first.ensures.none first second
    (subst (λ (t : List ℕ). AreTwoNumbers t first second) (sym cut.1) numbered.are))

pub returns-clause-found : goal.returns-clause-found
returns-clause-found c =
    let parts = MatchOption-at_some _ _ _ c.in_ok-name.was (split_parts 32 c.args.text.now
    c.split_once.result c.split_once.ensures.cases (lit< tt)) in
    record {
      numbers = c.in_ok-name.numbers.now;
      is = parts.0;
      are = c.in_ok-first.ensures.found;
    }

pub returns-clause-only : goal.returns-clause-only
returns-clause-only c = λ name first second named numbered. (cut_is c.args.text.now
    c.split_once.result _ c.split_once.ensures.cases c.in_ok-name.was name first second named
    numbered).0
