use Rattle.std.proofs.Common.{◌∙◌, List, ap, inl, inr, refl, subst, sym, ℕ}
use Rattle.programs.specs.Faults.{GetsText, serve_fault}
use Rattle.programs.proofs.service.begin.Goals as goal

pub returns-then-not-may_begin-clause-failed : goal.returns-then-not-may_begin-clause-failed
returns-then-not-may_begin-clause-failed g c = (
  inr (inl (
    refl,
    (
      c.hour-hour.new.self,
      record {
        unfailed = c.in_ok-figures.ensures.cause ∙ c.requires;
        figures = c.in_ok-figures.figures;
        are = c.in_ok-figures.ensures.figures;
        hour = c.hour-hour.result;
        told = c.hour-hour.ensures;
        judged = sym c.may_begin.ensures ∙ c.if-not-may_begin.true;
      },
    ),
  )),
  (
    c.tell_text.new.errors,
    subst (λ (text : List ℕ). GetsText g.E.Write.contents c.args.errors.now c.tell_text.new.errors
        text) (c.deref.ensures ∙ c.in_ok-ahead_line.ensures) c.tell_text.ensures,
    refl,
  ),
)

pub returns-in-Err-clause-failed : goal.returns-in-Err-clause-failed
returns-in-Err-clause-failed g c = (
  inr (inr (
    c.serve_fault.ensures ∙ ap serve_fault c.in-Err.ensures.fault,
    c.in-Err.ensures.opened,
    (
      c.hour-hour.new.self,
      record {
        unfailed = c.in_ok-figures.ensures.cause ∙ c.requires;
        figures = c.in_ok-figures.figures;
        are = c.in_ok-figures.ensures.figures;
        hour = c.hour-hour.result;
        told = c.hour-hour.ensures;
        judged = sym c.may_begin.ensures ∙ c.if-not-may_begin.false;
      },
    ),
  )),
  refl,
)

pub returns-clause-begun : goal.returns-clause-begun
returns-clause-begun g c = (
  record {
    unfailed = c.in_ok-figures.ensures.cause ∙ c.requires;
    figures = c.in_ok-figures.figures;
    are = c.in_ok-figures.ensures.figures;
    hour = c.hour-hour.result;
    told = c.hour-hour.ensures;
    judged = sym c.may_begin.ensures ∙ c.if-not-may_begin.false;
  },
  subst (λ (text : List ℕ). GetsText g.E.Write.contents c.args.errors.now c.tell_text-2.new.errors
      text) (c.deref-2.ensures ∙ c.in_ok-line.ensures) c.tell_text-2.ensures,
)
