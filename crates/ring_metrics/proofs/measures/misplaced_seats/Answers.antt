use Rattle.std.proofs.Common.{◌≡◌, ◌∙◌, ◌-◌, ◌<◌, ℕ, List, Some, ap, arith, get_or, length, sum_by}
use Rattle.std.specs.List.{zip}
use Rattle.std.specs.Prelude.{slice_get, slice_index}
use Rattle.std.proofs.lemmas.List.{take_all}
use Rattle.std.proofs.lemmas.List.Sums.{sum_by_more}
use Rattle.std.proofs.lemmas.Slice.Zip.{length-zip}
use Rattle.ring_words.specs.declared.device.Device.{Device}
use Rattle.ring_share.proofs.Standing.{read_at}
use Rattle.ring_tables.proofs.Lists.{pair_below, read_pair}
use Rattle.ring_metrics.specs.Measures.{seats_above}
use Rattle.ring_metrics.proofs.Measuring.{some_at}
use Rattle.ring_metrics.proofs.measures.misplaced_seats.Goals as goal

pub loop-place-preserved : goal.loop-place-preserved
loop-place-preserved c =
    let ring = c.args.ring.now in
    let wants = c.args.wants.now in
    let place = c.loop-place.place in
    let want = slice_index wants place in
    let below : place < length ring.devices = omega (arith, c.device_count-count.ensures.value) in
    let under : place < length wants = omega (arith, below, c.requires.shares.count) in
    let found = some_at ring.devices place below in
    let device = found.0 in
    let at : slice_get ring.devices place ≡ Some device =
    read_at ring.devices place device below found.1 in
    let value : c.seats_above-misplaced.result
    ≡ seats_above ring (get_or (zip ring.devices wants) place (device, want)) =
    c.seats_above-misplaced.ensures.value
    ∙ ap (λ (n : ℕ). n - want) (c.counts_of-counts.ensures place device at)
    ∙ ap (seats_above ring) (read_pair ring.devices wants place device below under found.1) in
    let more = sum_by_more (seats_above ring) (zip ring.devices wants) place (device, want)
    (pair_below ring.devices wants place below under) in
    record {
      sum = omega (arith, c.loop-place.invariant.sum, value, more);
      small = omega (arith, c.loop-place.invariant.small, c.seats_above-misplaced.ensures.small);
    }

pub returns : goal.returns
returns c =
    let ring = c.args.ring.now in
    let wants = c.args.wants.now in
    let pairs = zip ring.devices wants in
    let long = length-zip ring.devices wants in
    c.loop-place.invariant.sum
    ∙ ap (λ (all : List (Device × ℕ)). sum_by (seats_above ring) all)
    (take_all c.loop-place.place pairs
    (omega (arith, long, c.device_count-count.ensures.value, c.requires.shares.count)))
