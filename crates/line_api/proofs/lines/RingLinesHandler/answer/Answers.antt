use Rattle.std.proofs.Common.{string_bytes}
use Rattle.line_api.proofs.Answering.{inquiry_answered}
use Rattle.line_api.proofs.lines.RingLinesHandler.answer.Goals as goal

pub show-requires : goal.show-requires
show-requires g c = (
  c.args.line.now,
  rw c.in-Ok-Inquiry.field-0-is at c.in-Ok-Inquiry.ensures,
)

pub returns-in-Ok-Inquiry : goal.returns-in-Ok-Inquiry
returns-in-Ok-Inquiry g c =
    let told = c.show.ensures in
    inquiry_answered g.K.Keeper c.args.book.now _ c.args.line.now c.in-Ok-Inquiry.asked
    (rw c.in-Ok-Inquiry.field-0-is at c.in-Ok-Inquiry.ensures) told.0 told.1 string_bytes
    c.show.result told.2
