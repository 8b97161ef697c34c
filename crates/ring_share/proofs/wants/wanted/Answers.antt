use Rattle.std.proofs.Common.{◌≡◌, sum, List, length, replicate, ℕ, Vec, Global, sym, ap, ◌∙◌, arith}
use Rattle.std.proofs.lemmas.Grind.{common_steps}
use Rattle.std.proofs.Common.{subst, arith}
use Rattle.ring_words.specs.declared.device.Device.{Device}
use Rattle.std.proofs.lemmas.Result.{IfOk-weaker}
use Rattle.ring_share.specs.Want.{AreShares, AreWanted, total_weight}
use Rattle.ring_share.proofs.Sharing.{none_wanted, floors_are_shares, floors_fit}
use Rattle.ring_share.proofs.wants.wanted.Goals as goal

pub returns-then-total-eq0 : goal.returns-then-total-eq0
returns-then-total-eq0 c =
    let nothing = sym (c.total_weight-total.ensures.value ∙ ap total_weight c.devices.ensures.value)
    ∙ c.if-total-eq0.true in
    let same = ap (λ (devices : List Device). replicate (length devices) 0)
    c.devices-then-total-eq0.ensures.value in
    IfOk-weaker c.no_shares.result (λ (shares : Vec ℕ Global). shares.items ≡ replicate
    (length c.devices-then-total-eq0.result.now) 0) (λ (shares : Vec ℕ Global). AreWanted
    c.args.ring.now shares.items)
    (λ shares zeroes. none_wanted c.args.ring.now shares.items nothing (zeroes ∙ same))
    c.no_shares.ensures

pub overflow_sub-left : goal.overflow_sub-left
overflow_sub-left c =
    let total = c.total_weight-total.ensures.value ∙ ap total_weight c.devices.ensures.value in
    let fit = floors_fit c.args.ring.now (omega (arith, c.if-total-eq0.false, total)) in
    let sums = c.sum_of.ensures ∙ ap sum (c.deref.ensures.value ∙ c.in_ok-wanted.ensures) in
    omega (arith, fit, sums, c.seat_count.ensures.value)

pub loop-given-init : goal.loop-given-init
loop-given-init c =
    let total = c.total_weight-total.ensures.value ∙ ap total_weight c.devices.ensures.value in
    let fit = floors_fit c.args.ring.now (omega (arith, c.if-total-eq0.false, total)) in
    let sums = c.sum_of.ensures ∙ ap sum c.deref.ensures.value in
    let same = ap sum c.in_ok-wanted.ensures in
    record {
      shares = subst (λ xs. AreShares c.args.ring.now xs) (sym c.in_ok-wanted.ensures)
          (floors_are_shares c.args.ring.now);
      sum = omega (arith, fit, sums, same, c.seat_count.ensures.value);
    }

pub sum_of-requires : goal.sum_of-requires
sum_of-requires c = grind (arith, common_steps)

pub loop-given-preserved : goal.loop-given-preserved
loop-given-preserved c = grind (arith, common_steps)
