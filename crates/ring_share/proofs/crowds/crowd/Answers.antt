use Rattle.std.proofs.Common.{◌≡◌, ◌≤◌, length, take, arith}
use Rattle.std.proofs.lemmas.Grind.{common_steps}
use Rattle.std.proofs.lemmas.List.{take_all}
use Rattle.ring_share.specs.Crowd.{row_of, others, tiers_of}
use Rattle.ring_share.proofs.Rows.{length-others, crowd_is, others_known}
use Rattle.ring_share.proofs.crowds.crowd.Goals as goal

pub returns : goal.returns
returns c =
    let row = others (row_of c.args.ring.now c.args.partition) c.args.replica in
    let few : length row ≤ c.loop-other.other =
    omega (arith, length-others c.args.ring.now c.args.partition c.args.replica) in
    let all : take c.loop-other.other row ≡ row = take_all c.loop-other.other row few in
    crowd_is (tiers_of c.args.ring.now.devices) row c.args.device c.loop-other.other
    c.loop-other.region c.loop-other.zone c.loop-other.server all
    c.loop-other.invariant.region c.loop-other.invariant.zone c.loop-other.invariant.server

pub shared-more-requires-clause-seat : goal.shared-more-requires-clause-seat
shared-more-requires-clause-seat c = rw (c.seat_seen_from-seat.ensures, c.devices-devices.ensures.value)
    (others_known c.args.ring.now c.devices-devices.ensures.valid c.args.partition c.args.replica
    c.loop-other.other (omega (
      arith,
      c.loop-other-test.true,
      c.replicas.ensures.value,
      c.get-other-end.ensures.value,
    )))

pub loop-other-preserved : goal.loop-other-preserved
loop-other-preserved c = grind (arith, common_steps)
