use Rattle.std.proofs.Common.{◌^◌, ◌≤◌, arith}
use Rattle.ring_words.specs.Limits.{greatest_power}
use Rattle.std.proofs.Math.Pow.{pow_mono}
use Rattle.ring_words.proofs.bounded.partition_count.Goals as goal

pub returns-clause-some : goal.returns-clause-some
returns-clause-some c =
    let low : 2 ^ 1 ≤ 2 ^ c.get.result = pow_mono c.get.ensures.within.0 in
    let high : 2 ^ c.get.result ≤ 2 ^ greatest_power = pow_mono c.get.ensures.within.1 in
    omega arith

pub returns-clause-small : goal.returns-clause-small
returns-clause-small c =
    let high : 2 ^ c.get.result ≤ 2 ^ greatest_power = pow_mono c.get.ensures.within.1 in
    omega arith
