use Rattle.std.proofs.Common.{ℕ, ◌/◌, ◌-◌, ◌^◌, ◌<◌, ◌≤◌, subst, arith, rules}
use Rattle.path_lookup.proofs.Halves.{greatest_bits}
use Rattle.path_lookup.proofs.hash.partition_of.Goals as goal

pub returns-clause-within : goal.returns-clause-within
returns-clause-within c =
    let low : c.get.result ≤ 32 = omega arith in
    let bits = greatest_bits c.from_be_bytes.result c.get.result c.from_be_bytes.type_inv low in
    subst (λ (n : ℕ). c.from_be_bytes.result / 2 ^ (32 - c.get.result) < 2 ^ n) c.get.ensures.value
    bits

pub returns-clause-value : goal.returns-clause-value
returns-clause-value c = search rules
