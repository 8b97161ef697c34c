use Rattle.ring_text.specs.Inner.Reading.{IsDevice, IsDeviceLine}
use Rattle.ring_words.proofs.Spelled.{reads_same}
use Rattle.ring_text.proofs.Devices.{line_of_words, words_of_line}
use Rattle.ring_text.proofs.lines.device_at.Goals as goal

pub returns : goal.returns
returns c = reads_same (IsDevice _) (IsDeviceLine c.args.line.now) c.device_of.result
    (λ d. line_of_words c.args.line.now _ d c.in_ok-words.ensures)
    (λ d. words_of_line c.args.line.now _ d c.in_ok-words.ensures) (rw c.deref.ensures.value at
    c.device_of.ensures)
