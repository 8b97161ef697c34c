use Rattle.std.proofs.Common.{◌≡◌, ◌+◌, ◌-◌, ◌∙◌, ap, arith}
use Rattle.std.specs.Prelude.{nat_lt}
use Rattle.ring_metrics.proofs.Resting.{before_end, none_before}
use Rattle.ring_metrics.proofs.locks.hours_left.Goals as goal

pub returns-in-None-clause-until : goal.returns-in-None-clause-until
returns-in-None-clause-until c = λ later. rw c.in-None.is (none_before later)

pub returns-in-Some-clause-until : goal.returns-in-Some-clause-until
returns-in-Some-clause-until c = λ later.
    let left : c.in-Some.moved + c.args.min_hours - c.args.hour ≡ c.saturating_sub.result =
    omega (
      arith,
      c.saturating_sub.ensures,
      c.from.ensures,
      c.from-in-Some.ensures,
      c.from-in-Some-2.ensures,
    ) in
    rw c.in-Some.is
    (before_end c.args.hour later (c.in-Some.moved + c.args.min_hours) ∙ ap (nat_lt later) left)
