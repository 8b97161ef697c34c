use Rattle.ring_reads.proofs.preview.moving_counts.Goals as goal

pub returns : goal.returns
returns c = record {
  before = rw (← c.seats.ensures.value) c.in_ok-before.ensures;
  after = rw (← c.seats-2.ensures.value) c.in_ok-after.ensures;
  stay = rw (← c.seats-3.ensures.value, ← c.seats-4.ensures.value) c.in_ok-stay.ensures;
}
