use Rattle.std.proofs.Common.{◌≡◌, ◌∙◌, ◌++◌, ℕ, ap, append-nil, arith, map, max, sym}
use Rattle.std.specs.Prelude.{filter}
use Rattle.std.specs.List.{range_with_len}
use Rattle.ring_reads.specs.SeatMoves.{is_move, move_at}
use Rattle.ring_reads.proofs.SeatMoving.{kept_more}
use Rattle.ring_reads.proofs.seat_moves.push_moves.Goals as goal

pub loop-replica-init : goal.loop-replica-init
loop-replica-init c = sym (append-nil c.args.into.now.items)

pub loop-replica-preserved : goal.loop-replica-preserved
loop-replica-preserved c = kept_more is_move
    (move_at c.args.old.now c.args.new.now c.args.power c.args.partition) c.loop-replica.replica
    c.args.into.now.items c.loop-replica.into.items c.push_move.new.into.items c.move_at.result
    c.loop-replica.invariant c.move_at.ensures c.in_ok-push_move.ensures

pub returns : goal.returns
returns c =
    let all : c.loop-replica.replica ≡ max c.args.old.now.replicas c.args.new.now.replicas =
    omega (arith, c.replica_count-replica-end.ensures) in
    c.loop-replica.invariant
    ∙ ap (λ (n : ℕ). c.args.into.now.items ++ filter is_move (map (move_at c.args.old.now
    c.args.new.now c.args.power c.args.partition) (range_with_len 0 n))) all
