use Rattle.std.proofs.Common.{◌≡◌, ap, arith, length}
use Rattle.store_rows.proofs.Sameness.{found_part, no_part}
use Rattle.store_rows.proofs.differences.has_part_of.Goals as goal

pub returns-then-partition-moves : goal.returns-then-partition-moves
returns-then-partition-moves c =
    let len : length c.moves.result.now ≡ length c.args.one.now.moved =
    ap length c.moves.ensures.value in
    no_part c.args.one.now c.args.partition _ (omega arith)

pub returns : goal.returns
returns c =
    let len : length c.moves.result.now ≡ length c.args.one.now.moved =
    ap length c.moves.ensures.value in
    found_part c.args.one.now c.args.other.now c.args.partition c.is_same_part.result (omega arith)
    c.is_same_part.ensures
