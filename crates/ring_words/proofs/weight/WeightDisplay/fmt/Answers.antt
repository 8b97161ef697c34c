use Rattle.std.proofs.Common.{◌%◌, ◌<◌, arith}
use Rattle.ring_words.proofs.Decimals.{padded_two}
use Rattle.ring_words.proofs.weight.WeightDisplay.fmt.Goals as goal

pub returns-clause-writes : goal.returns-clause-writes
returns-clause-writes g c =
    let low : c.self.inside.hundredths % 100 < 100 = omega arith in
    let two = padded_two (c.self.inside.hundredths % 100) low in
    let h = c.write.ensures.writes in
    rw (← c.self.view_is) (rw (c.laid_out.ensures, two) at h)
