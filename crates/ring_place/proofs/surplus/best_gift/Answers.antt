use Rattle.std.proofs.Common.{◌≡◌, ◌∙◌, ℕ, ap, sym, arith, length, Some}
use Rattle.std.specs.Prelude.{slice_get}
use Rattle.std.proofs.lemmas.Option.{slice_get_within}
use Rattle.ring_place.specs.Inner.Gathering.{IsGift, MustStay}
use Rattle.ring_place.specs.Made.{best_of, gift_of}
use Rattle.ring_place.proofs.Gathering.BestSeats.{best_end, best_more, best_none, better_none}
use Rattle.ring_place.proofs.Gathering.BestSeats.{better_some, own_replica, stay_all}
use Rattle.ring_place.proofs.surplus.best_gift.Goals as goal

pub loop-replica-init : goal.loop-replica-init
loop-replica-init c = record {
  gift = tt;
  stay = λ k lt. absurd (omega (arith, lt));
  best = best_none (gift_of c.args.pass c.args.was.now c.args.kept.now c.args.row.now);
}

pub loop-replica-preserved : goal.loop-replica-preserved
loop-replica-preserved c =
    let pass = c.args.pass in
    let was = c.args.was.now in
    let kept = c.args.kept.now in
    let row = c.args.row.now in
    let n = c.loop-replica.replica in
    let best = c.loop-replica.best in
    record {
      gift = better_some (IsGift pass was kept row) best c.gift_of.result c.better-best.result
          c.better-best.ensures c.loop-replica.invariant.gift c.gift_of.ensures.some;
      stay = better_none (λ k. (id : ℕ) → slice_get row k ≡ Some (Some id) →
          MustStay pass was kept row k id) n best c.gift_of.result c.better-best.result
          c.better-best.ensures c.loop-replica.invariant.stay c.gift_of.ensures.none;
      best = best_more (gift_of pass was kept row) n best c.gift_of.result c.better-best.result
          (sym c.gift_of.ensures.by_name) (own_replica pass was kept row n) c.better-best.ensures
          c.loop-replica.invariant.best;
    }

pub returns-clause-by_name : goal.returns-clause-by_name
returns-clause-by_name c =
    let gift = gift_of c.args.pass c.args.was.now c.args.kept.now c.args.row.now in
    let whole : c.loop-replica.replica ≡ length c.args.row.now = omega arith in
    best_end gift c.loop-replica.replica c.loop-replica.best c.loop-replica.invariant.best
    ∙ ap (best_of gift) whole

pub returns-clause-none : goal.returns-clause-none
returns-clause-none c =
    let row = c.args.row.now in
    stay_all c.loop-replica.best (λ k. (id : ℕ) → slice_get row k ≡ Some (Some id) →
    MustStay c.args.pass c.args.was.now c.args.kept.now row k id) c.loop-replica.replica _
    c.loop-replica.invariant.stay
    (λ below replica id at. below replica (let within = slice_get_within row replica (Some id) at in
    omega (arith, within)) id at)
