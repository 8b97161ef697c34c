use Rattle.std.proofs.Common.{◌≡◌, ◌<◌, length, refl, arith}
use Rattle.std.proofs.lemmas.List.{take_rest}
use Rattle.std.proofs.lemmas.Result.{err_from_is_err_and}
use Rattle.ring_words.specs.declared.spelling.SpellingFault.TheVariants.{Bad}
use Rattle.ring_text.proofs.Rows.{none_has, more_has, one_more}
use Rattle.ring_text.proofs.partition.seats_of.Goals as goal

pub loop-partition-init : goal.loop-partition-init
loop-partition-init c = record {
  lines = rw c.in_ok-seats.ensures.items (none_has c.args.replicas c.args.text.now);
  within = omega arith;
}

pub returns-in_err-place-clause-bad : goal.returns-in_err-place-clause-bad
returns-in_err-place-clause-bad c = λ bad texts more seats lines some count are.
    let p = err_from_is_err_and c.from_residual-in_err-place.result
    c.from_residual-in_err-place.ensures.1 in
    let e : c.in_err-place.field-0.0 ≡ Bad = cc (p.1, p.2, bad) in
    let inside : c.loop-partition._partition < length texts =
    omega (arith, c.loop-partition-test.true, count) in
    let next = one_more c.args.replicas c.loop-partition._partition c.args.text.now
    c.loop-partition.place _ texts more seats c.loop-partition.invariant.lines lines some inside are
    in
    (rw e at c.in_err-place.ensures.bad) refl next.0 next.1 next.2

pub loop-partition-preserved : goal.loop-partition-preserved
loop-partition-preserved c =
    let at = c.in_ok-place.ensures.read in
    record {
      lines = more_has c.args.replicas c.loop-partition._partition c.args.text.now
          c.loop-partition.place _ _ _ c.loop-partition.invariant.lines at;
      within = at.within;
    }

pub returns-clause-read : goal.returns-clause-read
returns-clause-read c =
    let all : c.loop-partition._partition ≡ c.args.partitions =
    omega (arith, c.loop-partition-test.false, c.loop-partition.auto._partition-end) in
    rw (take_rest c.args.text.now c.loop-partition.place, ← all) c.loop-partition.invariant.lines
