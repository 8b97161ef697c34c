use Rattle.std.proofs.Common.{◌≡◌, ◌/◌, ◌%◌, arith}
use Rattle.ring_words.proofs.address.AddressDisplay.fmt.Goals as goal

pub returns-clause-writes : goal.returns-clause-writes
returns-clause-writes g c =
    let small : c.self.inside.bits / 16777216 % 256 ≡ c.self.inside.bits / 16777216 = omega arith in
    rw (← c.self.view_is) (rw (c.to_be_bytes.ensures, small) at c.write.ensures.writes)
