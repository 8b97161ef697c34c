use Rattle.std.proofs.Common.{rules, ◌≡◌, ◌+◌, ◌∙◌, ℕ, List, Option, subst, sym, take, max}
use Rattle.std.proofs.Common.{arith}
use Rattle.std.proofs.lemmas.List.{take_all}
use Rattle.ring_metrics.proofs.Resting.{IsRestOf, rest_more, rest_of_none}
use Rattle.ring_metrics.proofs.locks.rest.Goals as goal

pub loop-moved-init : goal.loop-moved-init
loop-moved-init c = rest_of_none c.min_hours-min_hours.result c.args.hour

pub loop-moved-preserved : goal.loop-moved-preserved
loop-moved-preserved c =
    let more = rest_more c.min_hours-min_hours.result c.args.hour c.moves-moves.result.now
    c.loop-moved.moved-index c.loop-moved.rest c.hours_left.result (omega arith)
    c.loop-moved.invariant c.hours_left.ensures.until in
    let longer : c.max-rest.result ≡ max c.loop-moved.rest c.hours_left.result = search rules in
    subst (IsRestOf c.min_hours-min_hours.result c.args.hour
    (take (c.loop-moved.moved-index + 1) c.moves-moves.result.now)) (sym longer) more

pub returns : goal.returns
returns c =
    let ring = c.args.ring.now in
    let all : take c.loop-moved.moved-index c.moves-moves.result.now ≡ ring.moved =
    take_all c.loop-moved.moved-index c.moves-moves.result.now c.loop-moved-test.false
    ∙ c.moves-moves.ensures.value in
    let whole : IsRestOf ring.min_hours c.args.hour ring.moved c.loop-moved.rest =
    subst (λ (m : ℕ). IsRestOf m c.args.hour ring.moved c.loop-moved.rest)
    c.min_hours-min_hours.ensures
    (subst (λ (ms : List (Option ℕ)). IsRestOf c.min_hours-min_hours.result c.args.hour ms
    c.loop-moved.rest) all c.loop-moved.invariant) in
    record { over = whole.0; not_before = whole.1 }
