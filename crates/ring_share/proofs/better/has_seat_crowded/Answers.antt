use Rattle.std.proofs.Common.{◌≡◌, ◌∙◌, false, get_or, map, Some, subst, sym, ⊎_elim, arith}
use Rattle.std.proofs.lemmas.Bool.{cases_lt}
use Rattle.ring_share.specs.Figures.{has_better}
use Rattle.ring_share.proofs.Bridge.{none_crowded, some_crowded}
use Rattle.ring_share.proofs.better.has_seat_crowded.Goals as goal

pub returns-then-has_better : goal.returns-then-has_better
returns-then-has_better c = sym (some_crowded c.args.devices.now c.args.row.now
    c.loop-replica.replica c.loop-replica-test.true (sym c.has_better.ensures ∙ c.if-has_better.true))

pub loop-replica-preserved : goal.loop-replica-preserved
loop-replica-preserved c = record {
  none = λ k lt. ⊎_elim
      (λ before. c.loop-replica.invariant.none k before)
      (λ here. let same : c.loop-replica.replica ≡ k = omega (arith, here, lt) in
      subst (λ j. has_better c.args.devices.now (map Some c.args.row.now) j (get_or c.args.row.now j
      0) ≡ false) same (sym c.has_better.ensures ∙ c.if-has_better.false))
      (cases_lt k c.loop-replica.replica);
  counted = c.put_back_all.ensures;
}

pub returns : goal.returns
returns c = sym (none_crowded c.args.devices.now c.args.row.now (λ k lt. c.loop-replica.invariant.none k
    (omega (arith, lt, c.loop-replica-test.false))))
