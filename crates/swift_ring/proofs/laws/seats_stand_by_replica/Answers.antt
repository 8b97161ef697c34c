use Rattle.swift_ring.proofs.Places.{seat_found}
use Rattle.swift_ring.proofs.laws.seats_stand_by_replica.Goals as goal

pub returns : goal.returns
returns c = seat_found
