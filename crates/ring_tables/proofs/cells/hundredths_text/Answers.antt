use Rattle.std.proofs.Common.{◌%◌, ◌<◌, arith}
use Rattle.ring_words.proofs.Decimals.{padded_two}
use Rattle.ring_tables.proofs.cells.hundredths_text.Goals as goal

pub returns : goal.returns
returns c =
    let low : c.args.hundredths % 100 < 100 = omega arith in
    let two = padded_two (c.args.hundredths % 100) low in
    let h = c.format.ensures.ok in
    rw (c.laid_out.ensures, two) at h
