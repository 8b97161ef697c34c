use Rattle.std.proofs.Common.{◌≡◌, ◌<◌, refl, arith}
use Rattle.std.proofs.lemmas.Result.{err_from_is_err_and}
use Rattle.ring_words.specs.declared.spelling.SpellingFault.TheVariants.{Bad}
use Rattle.ring_text.proofs.Rows.{row_begun, row_goes_on, row_ends, more_follow, one_follows}
use Rattle.ring_text.proofs.partition.push_partition.Goals as goal

pub loop-replica-init : goal.loop-replica-init
loop-replica-init c = row_begun c.args.text.now c.args.from c.args.seats.now.items c.requires

pub number_at-requires-clause-place : goal.number_at-requires-clause-place
number_at-requires-clause-place c = c.loop-replica.invariant.within

pub returns-in_err-number-clause-bad : goal.returns-in_err-number-clause-bad
returns-in_err-number-clause-bad c = λ bad row rest begins.
    let p = err_from_is_err_and c.from_residual.result c.from_residual.ensures.1 in
    let e : c.in_err-number.field-0.0 ≡ Bad = cc (p.1, p.2, bad) in
    let inside : c.loop-replica._replica < c.args.replicas =
    omega (arith, c.loop-replica-test.true, c.get-replica-end.ensures.value) in
    let more = more_follow c.args.replicas c.args.text.now c.args.from c.loop-replica.place
    c.loop-replica._replica _ _ row rest c.loop-replica.invariant inside begins in
    (rw e at c.in_err-number.ensures.bad) refl more.0 more.1 more.2 more.3

pub loop-replica-preserved : goal.loop-replica-preserved
loop-replica-preserved c = rw c.in_ok-push.ensures.items (row_goes_on c.args.text.now c.args.from
    c.loop-replica.place c.loop-replica._replica c.in_ok-number.number c.in_ok-number.next _ _
    c.loop-replica.invariant c.in_ok-number.ensures.read)

pub number_at-requires-2-clause-place : goal.number_at-requires-2-clause-place
number_at-requires-2-clause-place c = c.loop-replica.invariant.within

pub returns-in_err-number-2-clause-bad : goal.returns-in_err-number-2-clause-bad
returns-in_err-number-2-clause-bad c = λ bad row rest begins.
    let p = err_from_is_err_and c.from_residual-in_err-number-2.result
    c.from_residual-in_err-number-2.ensures.1 in
    let e : c.in_err-number-2.field-0.0 ≡ Bad = cc (p.1, p.2, bad) in
    let all : c.loop-replica._replica ≡ c.args.replicas = omega (
      arith,
      c.loop-replica-test.false,
      c.loop-replica.auto._replica-end,
      c.get-replica-end.ensures.value,
      c.get-replica-end.ensures.within.0,
    ) in
    let last = one_follows c.args.replicas c.args.text.now c.args.from c.loop-replica.place _ _ row
    rest (rw all at c.loop-replica.invariant) begins in
    (rw e at c.in_err-number-2.ensures.bad) refl last.0 last.1 last.2 last.3

pub returns-clause-read : goal.returns-clause-read
returns-clause-read c =
    let all : c.loop-replica._replica ≡ c.args.replicas = omega (
      arith,
      c.loop-replica-test.false,
      c.loop-replica.auto._replica-end,
      c.get-replica-end.ensures.value,
      c.get-replica-end.ensures.within.0,
    ) in
    rw c.in_ok-push-2.ensures.items (row_ends c.args.replicas c.args.text.now c.args.from
    c.loop-replica.place c.in_ok-number-2.number c.in_ok-number-2.next _ _
    (rw all at c.loop-replica.invariant) c.in_ok-number-2.ensures.read)
