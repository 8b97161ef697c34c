use Rattle.std.proofs.Common.{◌∙◌, ap, arith}
use Rattle.std.specs.List.{flat_map}
use Rattle.std.proofs.lemmas.List.{take_all}
use Rattle.ring_reads.specs.SeatMoves.{move_line}
use Rattle.ring_tables.proofs.Lists.{next_part}
use Rattle.ring_reads.proofs.moves_text.lines_of.Goals as goal

pub loop-one-preserved : goal.loop-one-preserved
loop-one-preserved c = next_part move_line c.args.moves.now c.loop-one.one-index _ _ _ (omega arith)
    c.loop-one.invariant c.in_ok-push_line.ensures

pub returns : goal.returns
returns c = c.loop-one.invariant ∙ ap (flat_map move_line)
    (take_all c.loop-one.one-index c.args.moves.now c.loop-one-test.false)
