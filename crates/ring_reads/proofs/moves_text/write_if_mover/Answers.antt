use Rattle.std.proofs.Common.{◌≡◌, ◌==◌, ◌∙◌, ◌<◌, ℕ, List, arith, false, get_or, sym, true}
use Rattle.ring_reads.specs.Inner.Counted.{AreMoverCounts}
use Rattle.ring_reads.specs.MovesJson.{mover_data}
use Rattle.ring_reads.specs.SeatMoves.{given_seats, is_mover, seat_moves, taken_seats}
use Rattle.ring_reads.specs.declared.moves_text.MoverCounts.{MoverCounts}
use Rattle.ring_reads.specs.declared.seat_moves.Move.{Move}
use Rattle.ring_reads.proofs.Listing.{tells_none, tells_one}
use Rattle.ring_reads.proofs.SeatCounting.{count_read}
use Rattle.ring_share.specs.Crowd.{is_on}
use Rattle.ring_words.specs.Limits.{most_ids}
use Rattle.ring_reads.proofs.moves_text.write_if_mover.Goals as goal

gives : (moves : List Move) (counts : MoverCounts) (id place count : ℕ)
    → AreMoverCounts moves counts → id < most_ids → place ≡ id
    → count ≡ get_or counts.given.items place count → count ≡ given_seats moves id
gives moves counts id place count are =
    count_read (λ id move. is_on (λ other. other == id) move.from) moves counts.given.items id place
    count are.given

takes : (moves : List Move) (counts : MoverCounts) (id place count : ℕ)
    → AreMoverCounts moves counts → id < most_ids → place ≡ id
    → count ≡ get_or counts.taken.items place count → count ≡ taken_seats moves id
takes moves counts id place count are =
    count_read (λ id move. is_on (λ other. other == id) move.to) moves counts.taken.items id place
    count are.taken

pub returns-then-not-is_mover : goal.returns-then-not-is_mover
returns-then-not-is_mover c =
    let moves = seat_moves c.args.old.now c.args.new.now in
    let known : c.args.id < most_ids = omega arith in
    let none : is_mover c.args.old.now c.args.new.now moves c.args.id ≡ false =
    sym (c.is_mover.ensures moves
    (gives moves c.args.counts.now c.args.id _ _ c.requires known c.from-place.ensures c.index-given.ensures)
    (takes moves c.args.counts.now c.args.id _ _ c.requires known c.from-place.ensures c.index-taken.ensures))
    ∙ c.if-not-is_mover.true in
    rw none (tells_none _ c.args.writer.now (mover_data moves))

pub returns : goal.returns
returns c =
    let moves = seat_moves c.args.old.now c.args.new.now in
    let known : c.args.id < most_ids = omega arith in
    let given = gives moves c.args.counts.now c.args.id _ _ c.requires known c.from-place.ensures c.index-given.ensures in
    let taken = takes moves c.args.counts.now c.args.id _ _ c.requires known c.from-place.ensures c.index-taken.ensures in
    let one : is_mover c.args.old.now c.args.new.now moves c.args.id ≡ true =
    sym (c.is_mover.ensures moves given taken) ∙ c.if-not-is_mover.false in
    rw one (tells_one (mover_data moves) c.args.id (c.write_mover.ensures moves given taken))
