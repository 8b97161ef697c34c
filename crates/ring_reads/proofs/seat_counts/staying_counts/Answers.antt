use Rattle.std.proofs.Common.{◌∙◌, ◌+◌, ◌<◌, Bool, ap, arith, cond, get_or, length}
use Rattle.std.proofs.lemmas.Slice.Zip.{length-zip}
use Rattle.std.specs.List.{zip}
use Rattle.ring_reads.specs.Moves.{stays_on}
use Rattle.ring_reads.proofs.SeatCounting.{all_counted, one_pair_counted}
use Rattle.ring_reads.proofs.seat_counts.staying_counts.Goals as goal

pub loop-place-preserved : goal.loop-place-preserved
loop-place-preserved c =
    let before = c.args.before.now in
    let after = c.args.after.now in
    let place = c.loop-place.place in
    let counts = c.loop-place.counts.items in
    let below : place < length before = omega (arith, c.lesser-place-end.ensures) in
    let under : place < length after = omega (arith, c.lesser-place-end.ensures) in
    one_pair_counted stays_on before after place counts c.count_one.new.counts.items
    c.loop-place.invariant below under c.count_one.ensures.long
    (λ id. c.count_one.ensures.counted id
    ∙ ap (λ (b : Bool). get_or counts id 0 + cond b 1 0) (c.kept_by.ensures id))

pub returns : goal.returns
returns c =
    let before = c.args.before.now in
    let after = c.args.after.now in
    let long = length-zip before after in
    all_counted stays_on (zip before after) c.loop-place.place c.loop-place.counts.items
    c.loop-place.invariant
    (omega (arith, long, c.lesser-place-end.ensures, c.loop-place-test.false))
