use Rattle.std.proofs.Common.{◌==◌, arith, ℕ}
use Rattle.ring_share.specs.Crowd.{is_on}
use Rattle.ring_reads.specs.declared.seat_moves.Move.{Move}
use Rattle.ring_reads.proofs.SeatCounting.{all_counted, none_counted, one_counted}
use Rattle.ring_reads.proofs.seat_counts.given_counts.Goals as goal

pub loop-one-init : goal.loop-one-init
loop-one-init c =
    none_counted (λ (id : ℕ) (move : Move). is_on (λ other. other == id) move.from) c.args.moves.now
    c.in_ok-counts.counts.items c.in_ok-counts.ensures.long c.in_ok-counts.ensures.zero

pub count_one-requires-clause-long : goal.count_one-requires-clause-long
count_one-requires-clause-long c = c.loop-one.invariant.long

pub count_one-requires-clause-small : goal.count_one-requires-clause-small
count_one-requires-clause-small c =
    λ id. let seen = c.loop-one.invariant.small id in omega (arith, seen)

pub loop-one-preserved : goal.loop-one-preserved
loop-one-preserved c =
    let moves = c.args.moves.now in
    let seen = c.loop-one.one-index in
    one_counted (λ (id : ℕ) (move : Move). is_on (λ other. other == id) move.from) moves seen _
    c.loop-one.counts.items c.count_one.new.counts.items c.loop-one.invariant (omega arith)
    c.count_one.ensures.long c.count_one.ensures.counted

pub returns : goal.returns
returns c =
    all_counted (λ (id : ℕ) (move : Move). is_on (λ other. other == id) move.from) c.args.moves.now
    c.loop-one.one-index c.loop-one.counts.items c.loop-one.invariant (omega arith)
