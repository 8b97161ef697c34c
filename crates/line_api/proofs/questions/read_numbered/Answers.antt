use Rattle.std.proofs.Common.{ℕ, List, subst}
use Rattle.line_api.specs.Lines.{IsNumbered}
use Rattle.line_api.proofs.Asking.{numbered_none}
use Rattle.line_api.proofs.questions.read_numbered.Goals as goal

pub returns-in_default : goal.returns-in_default
returns-in_default c = λ x names.
    c.in_default.ensures.none x.0 x.1 x.2 names.named names.numbered

pub returns-in-Ok : goal.returns-in-Ok
returns-in-Ok c = record {
  named = c.in-Ok.ensures.read.valid;
  numbered = subst (λ (name : List ℕ). IsNumbered c.args.text.now name c.in-Some.first
      c.in-Some.second) c.in-Ok.ensures.read.is c.in-Some.ensures.found;
}

pub returns-in-Err : goal.returns-in-Err
returns-in-Err c = numbered_none c.args.text.now c.in-Some.name.now c.in-Err.fault
    c.in-Some.ensures.only c.in-Err.ensures.read
