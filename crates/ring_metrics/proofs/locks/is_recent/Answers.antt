use Rattle.std.proofs.Common.{◌≡◌, ◌+◌, ap, ◌∙◌, sym, ℕ, arith}
use Rattle.ring_place.specs.Rebalance.{is_recent}
use Rattle.ring_metrics.proofs.locks.is_recent.Goals as goal

pub returns : goal.returns
returns c =
    let now : c.args.hour ≡ c.args.hour + 0 = omega arith in
    sym (ap (λ (h : ℕ). is_recent c.args.min_hours h c.args.moved) now ∙ c.hours_left.ensures.until 0)
