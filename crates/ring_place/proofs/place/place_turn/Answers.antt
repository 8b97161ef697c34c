use Rattle.std.proofs.Common.{◌<◌, get_or, length, arith}
use Rattle.ring_place.specs.Made.{put_at}
use Rattle.ring_room.proofs.Steps.{steps_end, steps_more, steps_none}
use Rattle.ring_place.proofs.Placing.AllSteps.{turn_end, turn_start, turn_step}
use Rattle.ring_place.proofs.place.place_turn.Goals as goal

pub loop-partition-init : goal.loop-partition-init
loop-partition-init c = record {
  turn = turn_start c.args.turn c.args.waiting.now c.args.room.now c.args.old.now c.args.seats.now
      c.requires.can;
  by_name = steps_none (put_at c.args.turn c.args.homes.now c.args.waiting.now c.args.old.now)
      (record { load = c.args.room.now; rows = c.args.seats.now; deck = c.args.deck.now });
}

pub bounds-homes-partition : goal.bounds-homes-partition
bounds-homes-partition c =
    let below = c.requires.waiting.below c.loop-partition.partition-index 0 (omega arith) in
    let same = c.requires.waiting.told in
    omega (arith, below, same)

pub take_turn-requires-clause-partition : goal.take_turn-requires-clause-partition
take_turn-requires-clause-partition c =
    let below = c.requires.waiting.below c.loop-partition.partition-index 0 (omega arith) in
    let as_many = c.loop-partition.invariant.turn.as_many in
    omega (arith, below, as_many)

pub take_turn-requires-clause-can : goal.take_turn-requires-clause-can
take_turn-requires-clause-can c = c.loop-partition.invariant.turn.can

pub loop-partition-preserved : goal.loop-partition-preserved
loop-partition-preserved c =
    let n = c.loop-partition.partition-index in
    let waiting = c.args.waiting.now in
    let room = c.loop-partition.room in
    let old = c.args.old.now in
    let first = c.args.seats.now in
    let seats = c.loop-partition.seats in
    let inv = c.loop-partition.invariant in
    let below : get_or waiting n 0 < length seats =
    (let lt = c.requires.waiting.below n 0 (omega arith) in let as_many = inv.turn.as_many in
    omega (arith, lt, as_many)) in
    record {
      turn = turn_step c.args.turn n waiting c.args.room.now room c.take_turn.new.room old first
          seats c.take_turn.new.seats (omega arith) below inv.turn c.take_turn.ensures.put;
      by_name = steps_more (put_at c.args.turn c.args.homes.now waiting old) n
          (record { load = c.args.room.now; rows = first; deck = c.args.deck.now })
          (record { load = room; rows = seats; deck = c.loop-partition.deck }) _ inv.by_name
          c.take_turn.ensures.by_name;
    }

pub returns-clause-turn : goal.returns-clause-turn
returns-clause-turn c = turn_end c.args.turn c.loop-partition.partition-index c.args.homes.now c.args.waiting.now
    c.args.room.now c.loop-partition.room c.args.old.now c.args.seats.now c.loop-partition.seats
    c.requires.waiting (omega arith) c.loop-partition.invariant.turn

pub returns-clause-by_name : goal.returns-clause-by_name
returns-clause-by_name c =
    steps_end (put_at c.args.turn c.args.homes.now c.args.waiting.now c.args.old.now)
    c.loop-partition.partition-index (length c.args.waiting.now)
    (record { load = c.args.room.now; rows = c.args.seats.now; deck = c.args.deck.now })
    (record {
      load = c.loop-partition.room;
      rows = c.loop-partition.seats;
      deck = c.loop-partition.deck;
    })
    c.loop-partition.invariant.by_name (omega arith)
