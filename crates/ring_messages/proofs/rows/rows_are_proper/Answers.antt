use Rattle.std.proofs.Common.{subst, arith}
use Rattle.std.specs.List.{All}
use Rattle.std.proofs.lemmas.List.{take_all}
use Rattle.std.proofs.lemmas.List.Elements.{All-more}
use Rattle.ring_words.specs.Rows.{IsProperRow}
use Rattle.ring_messages.proofs.rows.rows_are_proper.Goals as goal

pub loop-row-preserved : goal.loop-row-preserved
loop-row-preserved c = All-more IsProperRow c.args.rows.now c.loop-row.row-index c.row-item.result
    (omega arith) c.loop-row.invariant (subst IsProperRow c.row-item.is c.row_is_proper.ensures)

pub returns : goal.returns
returns c = subst (All IsProperRow) (take_all c.loop-row.row-index c.args.rows.now (omega arith))
    c.loop-row.invariant
