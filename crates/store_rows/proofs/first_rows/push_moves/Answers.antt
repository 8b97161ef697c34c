use Rattle.std.proofs.Common.{ℕ, Option, None, map, ap, ◌∙◌, ◌++◌, get_or, arith, refl}
use Rattle.std.specs.List.{enumerate_from, flat_map}
use Rattle.std.proofs.lemmas.List.{take_all}
use Rattle.std.proofs.lemmas.List.FromFn.{length-enumerate_from}
use Rattle.store_model.specs.Contents.{moved_of}
use Rattle.store_rows.specs.FirstRows.{moved_entry}
use Rattle.store_rows.proofs.Steps.{placed_step, flat_append}
use Rattle.store_rows.proofs.first_rows.push_moves.Goals as goal

pub loop-part-preserved : goal.loop-part-preserved
loop-part-preserved c =
    let n = c.args.name.now in
    let moves = c.moves-moves.result.now in
    placed_step {A = Option ℕ} (flat_map (moved_entry n)) (moved_entry n)
    (flat_append (moved_entry n))
    moves c.loop-part.part (get_or moves c.loop-part.part None) None c.loop-part-test.true refl
    (map moved_of c.args.into.now.items) (map moved_of c.loop-part.into.items)
    (map moved_of c.push_move.new.into.items) c.loop-part.invariant c.in_ok-push_move.ensures

pub returns : goal.returns
returns c =
    let n = c.args.name.now in
    let moves = c.moves-moves.result.now in
    let count = length-enumerate_from 0 moves in
    c.loop-part.invariant
    ∙ ap (λ es. map moved_of c.args.into.now.items ++ flat_map (moved_entry n) es)
    (take_all c.loop-part.part (enumerate_from 0 moves) (omega arith))
    ∙ ap (λ xs. map moved_of c.args.into.now.items ++
    flat_map (moved_entry n) (enumerate_from 0 xs)) c.moves-moves.ensures.value
