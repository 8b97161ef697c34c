use Rattle.std.proofs.Common.{◌≡◌, ◌∙◌, ◌<◌, List, length, Some, ap, sym, arith}
use Rattle.std.specs.List.{zip}
use Rattle.std.specs.Prelude.{slice_get, slice_index}
use Rattle.ring_words.specs.declared.device.Device.{Device}
use Rattle.ring_share.proofs.Standing.{read_at}
use Rattle.ring_reads.specs.RingJson.{device_data}
use Rattle.ring_reads.proofs.Listing.{told_next, told_pairs}
use Rattle.ring_reads.proofs.RingData.{pair_data}
use Rattle.ring_tables.proofs.Lists.{pair_below, read_pair}
use Rattle.ring_reads.proofs.whole_ring.write_devices.Goals as goal

pub loop-place-preserved : goal.loop-place-preserved
loop-place-preserved c =
    let items = c.devices-device-items.result.now in
    let wants = c.args.wants.now in
    let place = c.loop-place.place in
    let device = c.device-item.result in
    let want = slice_index wants place in
    let same = ap (λ (all : List Device). length all) c.devices-device-items.ensures.value in
    let below : place < length items = omega arith in
    let under : place < length wants = omega (arith, c.requires.shares.count, same) in
    let at : slice_get c.args.ring.now.devices place ≡ Some device =
    ap (λ (all : List Device). slice_get all place) (sym c.devices-device-items.ensures.value)
    ∙ read_at items place device below c.device-item.is in (
      told_next (pair_data c.args.ring.now) (zip items wants) place (device, want) _
          c.args.writer.now.tokens _ _ (pair_below items wants place below under)
          (read_pair items wants place device below under c.device-item.is)
          (ap (device_data device want) (c.counts_of-counts.ensures place device at))
          c.loop-place.invariant.0 c.in_ok-write_device.ensures.adds.0,
      c.write_device.ensures.adds.1 ∙ c.loop-place.invariant.1,
    )

pub returns : goal.returns
returns c = record {
  adds = (
    told_pairs (pair_data c.args.ring.now) c.devices-device-items.result.now c.args.ring.now.devices c.args.wants.now
        c.loop-place.place c.args.writer.now.tokens _ c.devices-device-items.ensures.value
        (omega arith) c.loop-place.invariant.0,
    c.loop-place.invariant.1,
  );
}
