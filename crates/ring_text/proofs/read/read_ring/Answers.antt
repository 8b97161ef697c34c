use Rattle.std.proofs.Common.{refl}
use Rattle.ring_text.specs.Spelling.{Spells}
use Rattle.ring_text.specs.Inner.Reading.{AreRingLines}
use Rattle.ring_words.proofs.Spelled.{reads_same}
use Rattle.ring_text.proofs.Text.{text_of_lines, lines_of_text, text_is_utf8}
use Rattle.ring_text.proofs.read.read_ring.Goals as goal

pub returns-in_default : goal.returns-in_default
returns-in_default c = λ s spells. c.in_default.ensures.cases.0 (text_is_utf8 c.args.bytes.now s
    spells)

pub returns : goal.returns
returns c =
    let bytes = c.args.bytes.now in
    reads_same (AreRingLines _) (Spells bytes) c.read_text.result (λ s. text_of_lines bytes _ s
    refl)
    (λ s. lines_of_text bytes _ s refl) (rw c.in-Ok.ensures.cases.0 at c.read_text.ensures)
