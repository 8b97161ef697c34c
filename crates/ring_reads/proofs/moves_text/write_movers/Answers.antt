use Rattle.std.proofs.Common.{◌≡◌, ◌∙◌, ◌++◌, ℕ, [], ◌∷◌, ap, arith}
use Rattle.std.specs.Prelude.{filter}
use Rattle.std.specs.List.{range_with_len}
use Rattle.ring_reads.specs.Inner.Lists.{told_tokens}
use Rattle.ring_reads.specs.MovesJson.{mover_data}
use Rattle.ring_reads.specs.SeatMoves.{is_mover, movers, seat_moves}
use Rattle.ring_reads.proofs.Listing.{told_more}
use Rattle.ring_reads.proofs.SeatMoving.{passed_more}
use Rattle.ring_words.specs.Limits.{most_ids}
use Rattle.ring_reads.proofs.moves_text.write_movers.Goals as goal

pub loop-id-preserved : goal.loop-id-preserved
loop-id-preserved c =
    let moves = seat_moves c.args.old.now c.args.new.now in
    let id = c.loop-id.id in
    let passes = is_mover c.args.old.now c.args.new.now moves in (
      told_more (mover_data moves) (filter passes (range_with_len 0 id)) (filter passes (id ∷ [])) _
          c.args.writer.now.tokens _ _ (passed_more passes id) c.loop-id.invariant.0
          c.in_ok-write_if_mover.ensures.adds.0,
      c.write_if_mover.ensures.adds.1 ∙ c.loop-id.invariant.1,
    )

pub returns : goal.returns
unfolding movers
returns c =
    let moves = seat_moves c.args.old.now c.args.new.now in
    let passes = is_mover c.args.old.now c.args.new.now moves in
    let all : c.loop-id.id ≡ most_ids = omega arith in
    record {
      adds = (
        c.loop-id.invariant.0
            ∙ ap (λ (n : ℕ). c.args.writer.now.tokens
            ++ told_tokens (mover_data moves) (filter passes (range_with_len 0 n))) all,
        c.loop-id.invariant.1,
      );
    }
