use Rattle.std.proofs.Common.{◌≡◌, ◌∙◌, ◌<◌, ◌==◌, ℕ, List, length, ap, arith}
use Rattle.std.specs.List.{zip}
use Rattle.std.specs.Prelude.{slice_index}
use Rattle.ring_words.specs.declared.device.Device.{Device}
use Rattle.ring_words.specs.Limits.{most_ids}
use Rattle.ring_share.specs.Room.{have}
use Rattle.ring_reads.specs.Moves.{stays_on, staying_seats}
use Rattle.ring_reads.specs.Preview.{moving_data}
use Rattle.ring_reads.proofs.Listing.{told_next, told_pairs}
use Rattle.ring_reads.proofs.Moving.{pair_moves}
use Rattle.ring_reads.proofs.SeatCounting.{count_read}
use Rattle.ring_tables.proofs.Lists.{pair_below, read_pair}
use Rattle.ring_reads.proofs.preview.write_moving_devices.Goals as goal

pub loop-place-preserved : goal.loop-place-preserved
loop-place-preserved c =
    let ring = c.args.ring.now in
    let new = c.args.new.now in
    let counts = c.args.counts.now in
    let items = c.devices-device-items.result.now in
    let wants = c.args.wants.now in
    let place = c.loop-place.place in
    let device = c.device-item.result in
    let id = device.id in
    let want = slice_index wants place in
    let before = c.index-before.result.now in
    let after = c.index-after.result.now in
    let same = ap (λ (all : List Device). length all) c.devices-device-items.ensures.value in
    let below : place < length items = omega arith in
    let under : place < length wants = omega (arith, c.requires.wants.shares.count, same) in
    let known : id < most_ids = omega arith in
    let has : before ≡ have ring id =
    count_read (λ id seat. seat == id) ring.seats counts.before.items id _ before
    c.requires.counts.before known c.from-id.ensures c.index-before.ensures in
    let later : after ≡ have new id =
    count_read (λ id seat. seat == id) new.seats counts.after.items id _ after
    c.requires.counts.after known c.from-id.ensures c.index-after.ensures in
    let stays : c.index-stay.result.now ≡ staying_seats ring new id =
    count_read stays_on (zip ring.seats new.seats) counts.stay.items id _ c.index-stay.result.now
    c.requires.counts.stay known c.from-id.ensures c.index-stay.ensures in (
      told_next (pair_moves ring new) (zip items wants) place (device, want) _
          c.args.writer.now.tokens _ _ (pair_below items wants place below under)
          (read_pair items wants place device below under c.device-item.is)
          (ap (λ (n : ℕ). moving_data id want n after c.index-stay.result.now) has
          ∙ ap (λ (n : ℕ). moving_data id want (have ring id) n c.index-stay.result.now) later
          ∙ ap (moving_data id want (have ring id) (have new id)) stays)
          c.loop-place.invariant.0 c.in_ok-write_moving.ensures.adds.0,
      c.write_moving.ensures.adds.1 ∙ c.loop-place.invariant.1,
    )

pub returns : goal.returns
returns c = record {
  adds = (
    told_pairs (pair_moves c.args.ring.now c.args.new.now) c.devices-device-items.result.now c.args.ring.now.devices c.args.wants.now
        c.loop-place.place c.args.writer.now.tokens _ c.devices-device-items.ensures.value
        (omega arith) c.loop-place.invariant.0,
    c.loop-place.invariant.1,
  );
}
