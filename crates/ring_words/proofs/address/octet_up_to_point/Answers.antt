use Rattle.std.proofs.Common.{◌<◌, ◌^◌, arith}
use Rattle.ring_words.proofs.Decimals.{same_parts}
use Rattle.ring_words.proofs.address.octet_up_to_point.Goals as goal

pub returns-else-octet-lt256-clause-none : goal.returns-else-octet-lt256-clause-none
returns-else-octet-lt256-clause-none c = λ n rest lt e.
    let small : n < 2 ^ 32 = omega arith in
    let p = same_parts c.args.text.now c.in_ok-octet.octet n c.in_ok-octet.rest.now rest
    c.in_ok-octet.ensures.found.0 small c.in_ok-octet.ensures.found.1 e in
    omega (arith, p.0)
