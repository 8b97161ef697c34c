use Rattle.std.proofs.Common.{◌<◌, ◌≤◌, ◌^◌, arith}
use Rattle.ring_words.specs.Limits.{greatest_short}
use Rattle.ring_words.proofs.Spelled.{one_number}
use Rattle.ring_words.proofs.spelling.read_bounded.Goals as goal

pub returns-in_default-clause-read : goal.returns-in_default-clause-read
returns-in_default-clause-read g c = λ n h.
    let all : greatest_short < 2 ^ 32 = omega arith in
    let most : g.row.MOST < 2 ^ 32 = omega (arith, g.MOST.fits) in
    let found = c.in_ok-number.ensures.read in
    let same = one_number c.args.word.now 0 greatest_short g.row.LEAST g.row.MOST
    c.in_ok-number.number n all
    most found h in
    let lower : g.row.LEAST ≤ c.in_ok-number.number = omega (arith, same, h.above) in
    let upper : c.in_ok-number.number ≤ g.row.MOST = omega (arith, same, h.below) in
    c.in_default.ensures (lower, upper)

pub returns-clause-read : goal.returns-clause-read
returns-clause-read g c = record {
  is = rw c.in-Some.ensures.1 c.in_ok-number.ensures.read.is;
  above = rw c.in-Some.ensures.1 c.in-Some.ensures.0.0;
  below = rw c.in-Some.ensures.1 c.in-Some.ensures.0.1;
}
