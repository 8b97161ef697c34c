use Rattle.std.proofs.Common.{◌∙◌, ap}
use Rattle.std.specs.List.{flat_map}
use Rattle.std.proofs.lemmas.Result.{IfOk-weaker}
use Rattle.ring_reads.specs.SeatMoves.{move_line}
use Rattle.ring_reads.proofs.moves_text.move_lines.Goals as goal

pub returns : goal.returns
returns c = IfOk-weaker c.lines_of.result _ _
    (λ text is. is ∙ ap (flat_map move_line) (c.deref.ensures.value ∙ c.in_ok-moves.ensures.list))
    c.lines_of.ensures
