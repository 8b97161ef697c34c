use Rattle.std.proofs.Common.{◌+◌, ◌<◌, length, arith}
use Rattle.ring_text.proofs.Digits.{no_digits, small_digits, digit_more}
use Rattle.ring_text.proofs.partition.digits_at.Goals as goal

pub loop-place-init : goal.loop-place-init
loop-place-init c = no_digits c.args.text.now c.args.from c.requires

pub overflow_mul-number : goal.overflow_mul-number
overflow_mul-number c =
    let small = small_digits c.args.text.now c.args.from c.loop-place.place c.loop-place.number
    c.loop-place.invariant (omega (arith, c.loop-place-test.true, c.min-limit.ensures)) in
    omega (arith, small)

pub overflow_add-number : goal.overflow_add-number
overflow_add-number c =
    let small = small_digits c.args.text.now c.args.from c.loop-place.place c.loop-place.number
    c.loop-place.invariant (omega (arith, c.loop-place-test.true, c.min-limit.ensures)) in
    let digit = rw c.if-not-is_ascii_digit.false at c.is_ascii_digit.ensures.cases in
    omega (arith, small, c.from.ensures, digit.1)

pub loop-place-preserved : goal.loop-place-preserved
loop-place-preserved c =
    let inside : c.loop-place.place < length c.args.text.now =
    omega (arith, c.loop-place-test.true, c.min-limit.ensures) in
    let few : c.loop-place.place < c.args.from + 5 =
    omega (arith, c.loop-place-test.true, c.min-limit.ensures) in
    let digit = rw c.if-not-is_ascii_digit.false at c.is_ascii_digit.ensures.cases in
    rw c.from.ensures (digit_more c.args.text.now c.args.from c.loop-place.place c.loop-place.number
    c.loop-place.invariant inside few digit)
