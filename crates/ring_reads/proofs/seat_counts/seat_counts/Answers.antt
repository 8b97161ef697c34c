use Rattle.std.proofs.Common.{◌==◌, arith, ℕ}
use Rattle.ring_reads.proofs.SeatCounting.{all_counted, none_counted, one_counted}
use Rattle.ring_reads.proofs.seat_counts.seat_counts.Goals as goal

pub loop-seat-init : goal.loop-seat-init
loop-seat-init c =
    none_counted (λ (id seat : ℕ). seat == id) c.args.seats.now c.in_ok-counts.counts.items
    c.in_ok-counts.ensures.long c.in_ok-counts.ensures.zero

pub count_one-requires-clause-long : goal.count_one-requires-clause-long
count_one-requires-clause-long c = c.loop-seat.invariant.long

pub count_one-requires-clause-small : goal.count_one-requires-clause-small
count_one-requires-clause-small c =
    λ id. let seen = c.loop-seat.invariant.small id in omega (arith, seen)

pub loop-seat-preserved : goal.loop-seat-preserved
loop-seat-preserved c =
    let seats = c.args.seats.now in
    let seen = c.loop-seat.seat-index in
    one_counted (λ (id seat : ℕ). seat == id) seats seen 0 c.loop-seat.counts.items
    c.count_one.new.counts.items c.loop-seat.invariant (omega arith) c.count_one.ensures.long
    c.count_one.ensures.counted

pub returns : goal.returns
returns c =
    all_counted (λ (id seat : ℕ). seat == id) c.args.seats.now c.loop-seat.seat-index
    c.loop-seat.counts.items c.loop-seat.invariant (omega arith)
