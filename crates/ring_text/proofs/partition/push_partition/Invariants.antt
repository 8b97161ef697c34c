use Rattle.ring_text.proofs.Rows.{IsRowTo}
use Rattle.ring_text.proofs.partition.push_partition.Given as goal

abbrev pub invariant-loop-replica : goal.invariant-loop-replica
invariant-loop-replica l = IsRowTo l.text l.from l.place l._replica l.initial.seats.items
    l.seats.items
