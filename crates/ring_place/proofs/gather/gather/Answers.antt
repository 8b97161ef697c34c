use Rattle.std.proofs.Common.{◌<◌, ◌+◌, length, get_or, take, sym, subst, ◌∙◌, arith, refl}
use Rattle.std.proofs.lemmas.Grind.{common_steps}
use Rattle.ring_room.specs.Rows.{AreKnown}
use Rattle.ring_deal.proofs.Orders.{among_below, among_more, order_fresh}
use Rattle.ring_deal.proofs.Orders.{order_all, order_below}
use Rattle.ring_place.proofs.Gathering.PassSteps.{falls_more, falls_none, pass_start}
use Rattle.ring_place.proofs.Gathering.PassSteps.{pass_rows, pass_written}
use Rattle.ring_place.specs.Made.{gather_at, row_at}
use Rattle.ring_place.proofs.Gathering.ByName.{gathered_step}
use Rattle.ring_room.proofs.Steps.{steps_end, steps_more, steps_none}
use Rattle.ring_place.proofs.gather.gather.Goals as goal

pub loop-partition-init : goal.loop-partition-init
loop-partition-init c = record {
  pass = pass_start c.args.pass c.args.was.now c.args.kept.now c.args.locked.now c.args.seats.now
      c.requires.filled;
  falls = λ later. falls_none c.args.kept.now;
  by_name = steps_none (gather_at c.args.pass c.args.was.now c.args.locked.now c.args.order.now)
      (record { load = c.args.kept.now; rows = c.args.seats.now });
}

pub bounds-locked-partition : goal.bounds-locked-partition
bounds-locked-partition c =
    let within = order_below (length c.args.seats.now) c.args.order.now c.requires.order
    c.loop-partition.partition-index (omega arith) in
    let same = c.requires.locked in
    omega (arith, within, same)

pub gather_at-requires-clause-partition : goal.gather_at-requires-clause-partition
gather_at-requires-clause-partition c =
    let within = order_below (length c.args.seats.now) c.args.order.now c.requires.order
    c.loop-partition.partition-index (omega arith) in
    let same = c.loop-partition.invariant.pass.as_many in
    omega (arith, within, same)

pub gather_at-requires-clause-row : goal.gather_at-requires-clause-row
gather_at-requires-clause-row c =
    let order = c.args.order.now in
    let partition = get_or order c.loop-partition.partition-index 0 in
    let within = order_below (length c.args.seats.now) order c.requires.order
    c.loop-partition.partition-index (omega arith) in
    let once = order_fresh (length c.args.seats.now) order c.requires.order
    c.loop-partition.partition-index (omega arith) in
    let read = c.loop-partition.invariant.pass.rest partition once in
    subst (λ r. AreKnown c.args.was.now.devices r) (sym read) (c.requires.rows.known partition
    within)

pub loop-partition-preserved : goal.loop-partition-preserved
loop-partition-preserved c =
    let order = c.args.order.now in
    let i = c.loop-partition.partition-index in
    let lt : i < length order = omega arith in
    let partition = get_or order i 0 in
    let within = order_below (length c.args.seats.now) order c.requires.order i lt in
    let once = order_fresh (length c.args.seats.now) order c.requires.order i lt in
    let now = c.loop-partition.invariant.pass.filled in
    let row = row_at c.gather_at.new.seats partition in
    record {
      falls = λ later. falls_more c.args.kept.now c.loop-partition.kept c.gather_at.new.kept
          (now.devices_are ∙ sym c.requires.filled.devices_are)
          (now.wanted_are ∙ sym c.requires.filled.wanted_are)
          (c.loop-partition.invariant.falls later) (c.gather_at.ensures.falls later);
      by_name = steps_more (gather_at c.args.pass c.args.was.now c.args.locked.now order) i
          (record { load = c.args.kept.now; rows = c.args.seats.now })
          (record { load = c.loop-partition.kept; rows = c.loop-partition.seats }) _
          c.loop-partition.invariant.by_name
          (gathered_step c.args.pass c.args.was.now c.args.locked.now order i
          (record { load = c.loop-partition.kept; rows = c.loop-partition.seats })
          c.gather_at.new.kept row _ c.gather_at.new.seats refl c.gather_at.ensures.by_name
          c.gather_at.ensures.others);
      pass = pass_written c.args.pass (take i order) (take (i + 1) order) partition c.args.was.now
          c.loop-partition.kept c.gather_at.new.kept c.args.locked.now c.args.seats.now
          c.loop-partition.seats c.gather_at.new.seats row c.loop-partition.invariant.pass within
          (λ p among. among_below (length c.args.seats.now) order c.requires.order i p among)
          c.requires.rows once (λ p. among_more order i p lt) c.gather_at.ensures.others
          c.gather_at.ensures.lifted c.gather_at.ensures.takes c.gather_at.ensures.falls;
    }

pub returns-clause-pass : goal.returns-clause-pass
returns-clause-pass c = grind (arith, common_steps)

pub returns-clause-rows : goal.returns-clause-rows
returns-clause-rows c = pass_rows c.args.pass c.args.order.now c.args.was.now.devices c.args.was.now
    c.loop-partition.kept c.args.locked.now c.args.seats.now c.loop-partition.seats
    (returns-clause-pass c)
    (λ p lt. order_all (length c.args.seats.now) c.args.order.now c.requires.order p lt)
    c.requires.rows

pub returns-clause-by_name : goal.returns-clause-by_name
returns-clause-by_name c = steps_end (gather_at c.args.pass c.args.was.now c.args.locked.now c.args.order.now)
    c.loop-partition.partition-index (length c.args.order.now)
    (record { load = c.args.kept.now; rows = c.args.seats.now })
    (record { load = c.loop-partition.kept; rows = c.loop-partition.seats })
    c.loop-partition.invariant.by_name (omega arith)

pub returns-clause-falls : goal.returns-clause-falls
returns-clause-falls c = c.loop-partition.invariant.falls

pub gather_at-requires-clause-has : goal.gather_at-requires-clause-has
gather_at-requires-clause-has c = grind (arith, common_steps)
