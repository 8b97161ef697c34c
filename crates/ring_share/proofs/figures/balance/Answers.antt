use Rattle.std.proofs.lemmas.Grind.{common_steps, elements}
use Rattle.std.proofs.Common.{◌∙◌, List, ap, max, sym, arith}
use Rattle.std.specs.Prelude.{slice_get}
use Rattle.ring_words.specs.declared.device.Device.{Device}
use Rattle.ring_share.specs.Figures.{device_balance}
use Rattle.ring_share.proofs.Balances.{greatest_more, have_few}
use Rattle.ring_share.proofs.Standing.{read_at}
use Rattle.ring_share.proofs.figures.balance.Goals as goal

pub loop-place-preserved : goal.loop-place-preserved
loop-place-preserved c =
    let more = greatest_more (device_balance c.args.ring.now) c.devices-devices.result.now
    c.loop-place.place c.index-devices-place.result c.loop-place.greatest (omega arith)
    c.index-devices-place.is c.loop-place.invariant in
    c.greater-greatest.ensures ∙ ap (max c.loop-place.greatest) c.device_balance-next.ensures ∙ more

pub device_balance-next-requires-clause-few : goal.device_balance-next-requires-clause-few
device_balance-next-requires-clause-few c =
    let read = read_at c.devices-devices.result.now c.loop-place.place c.index-devices-place.result
    (omega arith) c.index-devices-place.is in
    let is = c.counts_of-counts.ensures c.loop-place.place c.index-devices-place.result
    (ap (λ (devices : List Device). slice_get devices c.loop-place.place)
    (sym c.devices-devices.ensures.value) ∙ read) in
    let few = have_few c.args.ring.now c.index-devices-place.result.id
    c.devices-devices.ensures.valid in
    omega (arith, is, few)

pub device_balance-next-requires-clause-seats : goal.device_balance-next-requires-clause-seats
device_balance-next-requires-clause-seats c = grind (arith, elements)

pub returns : goal.returns
returns c = grind (arith, common_steps)
