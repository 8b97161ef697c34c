use Rattle.std.proofs.Common.{rules}
use Rattle.http_routes.proofs.Words.{no_word, whole_word}
use Rattle.http_routes.proofs.table.endpoint_of_word.Goals as goal

pub returns-in-Some-Ring : goal.returns-in-Some-Ring
returns-in-Some-Ring c = whole_word c.args.word.now
    (rw c.in-Some-Ring.field-0-is at c.in-Some-Ring.ensures.read)

pub returns-in-None : goal.returns-in-None
returns-in-None c = no_word c.args.word.now c.in-None.ensures.none c.in_default.not-preview
    c.in_default.not-moves

pub returns-in-Some : goal.returns-in-Some
returns-in-Some c = (search rules, c.in-Some.ensures.read)
