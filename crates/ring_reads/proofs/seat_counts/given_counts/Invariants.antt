use Rattle.std.proofs.Common.{◌==◌}
use Rattle.ring_share.specs.Crowd.{is_on}
use Rattle.ring_reads.proofs.SeatCounting.{Counted}
use Rattle.ring_reads.proofs.seat_counts.given_counts.Given as goal

-- the counts of the seats so far
abbrev pub invariant-loop-one : goal.invariant-loop-one
invariant-loop-one l = Counted (λ id move. is_on (λ other. other == id) move.from) l.moves l.one-index l.counts.items
