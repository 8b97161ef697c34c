use Rattle.std.proofs.Common.{◌==◌}
use Rattle.ring_reads.proofs.SeatCounting.{Counted}
use Rattle.ring_reads.proofs.seat_counts.seat_counts.Given as goal

-- the counts of the seats so far
abbrev pub invariant-loop-seat : goal.invariant-loop-seat
invariant-loop-seat l = Counted (λ id seat. seat == id) l.seats l.seat-index l.counts.items
