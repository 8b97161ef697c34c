use Rattle.std.proofs.Common.{None}
use Rattle.std.proofs.lemmas.Option.{slice_get_within}
use Rattle.ring_place.specs.Made.{row_at}
use Rattle.ring_place.proofs.place.put_on.Goals as goal

pub set_seat-requires-clause-replica : goal.set_seat-requires-clause-replica
set_seat-requires-clause-replica c = slice_get_within (row_at c.args.seats.now c.args.partition)
    c.args.replica None c.requires.empty
