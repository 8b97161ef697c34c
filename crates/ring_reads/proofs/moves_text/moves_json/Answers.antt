use Rattle.std.proofs.Common.{◌∙◌, List, subst}
use Rattle.ring_messages.proofs.Putting.{alone}
use Rattle.ring_reads.specs.Inner.Counted.{AreMoverCounts}
use Rattle.ring_reads.specs.MovesJson.{moves_data}
use Rattle.ring_reads.specs.declared.seat_moves.Move.{Move}
use Rattle.ring_reads.proofs.moves_text.moves_json.Goals as goal

pub write_moves-requires-clause-counts : goal.write_moves-requires-clause-counts
write_moves-requires-clause-counts c =
    subst (λ (moves : List Move). AreMoverCounts moves c.in_ok-counts.counts)
    (c.deref.ensures.value ∙ c.in_ok-moves.ensures.list) c.in_ok-counts.ensures

pub returns : goal.returns
returns c =
    let d = moves_data c.args.name.now c.args.from c.args.to c.args.old.now c.args.new.now in
    c.text_of.ensures d
    (alone d _ _ c.in_ok-writer.ensures.tokens c.in_ok-write_moves.ensures.adds.0)
