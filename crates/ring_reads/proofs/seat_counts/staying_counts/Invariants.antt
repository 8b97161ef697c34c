use Rattle.std.specs.List.{zip}
use Rattle.ring_reads.specs.Moves.{stays_on}
use Rattle.ring_reads.proofs.SeatCounting.{Counted}
use Rattle.ring_reads.proofs.seat_counts.staying_counts.Given as goal

-- the counts of the seats so far
abbrev pub invariant-loop-place : goal.invariant-loop-place
invariant-loop-place l = Counted stays_on (zip l.before l.after) l.place l.counts.items
