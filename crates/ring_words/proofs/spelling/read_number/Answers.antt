use Rattle.std.proofs.Common.{◌<◌, ◌^◌, arith, sym, ◌∙◌}
use Rattle.ring_words.proofs.Decimals.{same_number}
use Rattle.ring_words.proofs.spelling.read_number.Goals as goal

pub returns-then-number-most-clause-read : goal.returns-then-number-most-clause-read
returns-then-number-most-clause-read c = λ n h.
    let small : n < 2 ^ 32 = omega (arith, h.below) in
    let text = sym c.in-Some.ensures.found.1 ∙ h.is in
    let same = same_number c.in-Some.number n c.in-Some.ensures.found.0 small text in
    omega (arith, same, h.below)
