use Rattle.std.proofs.Common.{sym, ◌∙◌, rules}
use Rattle.ring_share.proofs.Assigned.{empty_is_0}
use Rattle.ring_share.proofs.figures.dispersion.Goals as goal

pub returns-then-not-is_assigned : goal.returns-then-not-is_assigned
returns-then-not-is_assigned c =
    sym (empty_is_0 c.args.ring.now (sym c.is_assigned.ensures.value ∙ c.if-not-is_assigned.true))

pub returns : goal.returns
returns c = search rules
