use Rattle.std.proofs.Common.{[]}
use Rattle.ring_book.specs.Book.{Found}
use Rattle.line_api.proofs.Tables.{is_text, shown_ends}
use Rattle.line_api.proofs.lines.show.Goals as goal

pub shown_text-requires-clause-ended : goal.shown_text-requires-clause-ended
shown_text-requires-clause-ended g c =
    let told = c.in-Ok.ensures.told in
    shown_ends (Found g.K.Keeper 0
    c.args.book.now c.read.new.book) [] [] c.requires.0 c.args.asked.now c.requires.1 told.0
    c.in-Ok.bytes.items told.2

pub shown_text-requires-clause-utf8 : goal.shown_text-requires-clause-utf8
shown_text-requires-clause-utf8 g c =
    c.in-Ok.ensures.text (is_text c.requires.0 c.args.asked.now c.requires.1)
