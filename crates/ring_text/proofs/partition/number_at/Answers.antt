use Rattle.std.specs.Prelude.{IsTrue}
use Rattle.ring_text.proofs.Digits.{number_there, number_found}
use Rattle.ring_text.proofs.partition.number_at.Goals as goal

pub returns-then-not-stands_at-clause-bad : goal.returns-then-not-stands_at-clause-bad
returns-then-not-stands_at-clause-bad c = λ _ n rest le e.
    let is = number_there c.args.text.now rest c.args.from c.digits_at-number.result.1
    c.digits_at-number.result.0 c.args.separator n c.digits_at-number.ensures.read
    c.digits_at-number.ensures.stop c.requires.separator le e in
    let yes : IsTrue c.stands_at.result = c.stands_at.ensures.1 is.0 in
    cc (yes, c.if-not-stands_at.true)

pub returns-then-not-are_short-clause-bad : goal.returns-then-not-are_short-clause-bad
returns-then-not-are_short-clause-bad c = λ _ n rest le e.
    let is = number_there c.args.text.now rest c.args.from c.digits_at-number.result.1
    c.digits_at-number.result.0 c.args.separator n c.digits_at-number.ensures.read
    c.digits_at-number.ensures.stop c.requires.separator le e in
    let yes : IsTrue c.are_short.result = c.are_short.ensures.1 is.1 in
    cc (yes, c.if-not-are_short.true)

pub returns-clause-read : goal.returns-clause-read
returns-clause-read c =
    let here = c.stands_at.ensures.0 c.if-not-stands_at.false in
    let short = c.are_short.ensures.0 c.if-not-are_short.false in
    number_found c.args.text.now c.args.from c.digits_at-number.result.1 c.digits_at-number.result.0
    c.args.separator c.digits_at-number.ensures.read here.0 here.1 short
