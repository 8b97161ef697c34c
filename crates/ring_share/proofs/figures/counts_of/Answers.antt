use Rattle.std.proofs.Common.{◌≡◌, ◌==◌, ◌≤◌, List, length, count_by, map, subst, ap, sym, ◌∙◌}
use Rattle.ring_words.specs.Limits.{most_devices}
use Rattle.std.proofs.Common.{arith}
use Rattle.std.specs.Prelude.{slice_get}
use Rattle.std.specs.List.Sorted.{IsStrictlyIncreasing}
use Rattle.std.proofs.lemmas.List.{length-set, take_all}
use Rattle.ring_words.specs.declared.device.Device.{Device}
use Rattle.ring_share.proofs.Counting.{counts_more, small_more}
use Rattle.ring_share.proofs.figures.counts_of.Goals as goal

pub loop-seat-preserved : goal.loop-seat-preserved
loop-seat-preserved c =
    let rise = subst (λ (devices : List Device). IsStrictlyIncreasing (map (λ device. device.id)
    devices)) (sym c.devices-devices.ensures.value) c.devices-devices.ensures.valid.devices.rise
    in
    let count = subst (λ (devices : List Device). length devices ≤ most_devices)
    (sym c.devices-devices.ensures.value) c.devices-devices.ensures.valid.devices.count in
    record {
      long = length-set c.loop-seat.counts c.place_in.result _ ∙ c.loop-seat.invariant.long;
      counts = counts_more c.devices-devices.result.now c.seats-seats.result.now c.loop-seat.counts
          c.loop-seat.seat-index c.place_in.result (omega arith) rise c.place_in.ensures.stands
          (omega (arith, c.place_in.ensures.within, count, c.loop-seat.invariant.long))
          c.loop-seat.invariant.counts;
      small = small_more c.loop-seat.counts c.place_in.result c.loop-seat.seat-index
          c.loop-seat.invariant.small;
    }

pub returns : goal.returns
returns c = λ place device at.
    let here : slice_get c.devices-devices.result.now place ≡ _ =
    ap (λ (devices : List Device). slice_get devices place) c.devices-devices.ensures.value ∙ at
    in
    c.loop-seat.invariant.counts place device here
    ∙ ap (count_by (λ seat. seat == device.id)) (take_all c.loop-seat.seat-index
    c.seats-seats.result.now (omega arith) ∙ c.seats-seats.ensures.value)
