use Rattle.std.proofs.Common.{◌≡◌, ◌∙◌, ap, length, take, rules, arith}
use Rattle.std.proofs.lemmas.Grind.{common_steps}
use Rattle.ring_room.proofs.Searching.SeatCounts.{counted_have}
use Rattle.ring_room.proofs.rooms.Room.of.Goals as goal

pub returns-clause-counts : goal.returns-clause-counts
returns-clause-counts c =
    let ring = c.args.ring.now in
    let read = c.devices-devices.ensures.value in
    let devices : c.in_ok-to_vec.field-0.items ≡ ring.devices = search rules in
    counted_have ring (record {
      devices = c.in_ok-to_vec.field-0.items;
      wanted =
          c.in_ok-from_slice.field-0.items;
      counts = c.in_ok-from_slice-2.field-0.items;
    })
    c.counts_of-counts.result
    c.devices-devices.ensures.valid.devices.rise devices
    (c.in_ok-from_slice-2.ensures.items ∙ ap (λ ds. take (length ds) c.counts_of-counts.result)
    read) c.counts_of-counts.ensures

pub invariant_of-result : goal.invariant_of-result
invariant_of-result c = grind (arith, common_steps)
