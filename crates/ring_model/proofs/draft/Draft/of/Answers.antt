use Rattle.std.proofs.Common.{sym, subst}
use Rattle.ring_model.specs.Valid.{IsValid}
use Rattle.ring_model.proofs.draft.Draft.of.Goals as goal

pub invariant_of-result : goal.invariant_of-result
invariant_of-result c = subst IsValid (sym c.in_ok-parts.ensures.parts) c.in_ok-parts.ensures.valid

pub returns : goal.returns
returns c = c.in_ok-parts.ensures.parts
