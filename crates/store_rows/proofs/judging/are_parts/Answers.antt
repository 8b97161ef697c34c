use Rattle.std.proofs.Common.{map, ap, sym, ◌∙◌}
use Rattle.std.proofs.Common.{arith}
use Rattle.std.specs.Vec.{vec_len}
use Rattle.std.proofs.lemmas.Result.{IfOk-weaker}
use Rattle.store_model.specs.Contents.{seat_of, moved_of, part_of}
use Rattle.store_rows.proofs.FoundRows.{empty_of}
use Rattle.store_rows.proofs.judging.are_parts.Goals as goal

pub returns : goal.returns
returns c = IfOk-weaker c.are_parts_of.result _ _ (λ same says. (
  λ t. record {
    seats = ap (map seat_of) (empty_of c.args.rows.now.seats.items (vec_len c.args.rows.now.seats)
        (omega arith) (sym c.is_empty.ensures ∙ c.if-not-is_empty.false));
    moved = ap (map moved_of) (empty_of c.args.rows.now.moved.items (vec_len c.args.rows.now.moved)
        (omega arith) (sym c.is_empty-else-not-is_empty.ensures ∙ c.if-not-is_empty-2.false));
    parts = ap (map part_of) (sym c.as_slice.ensures.value) ∙ says.0 t;
  },
  λ all. says.1 (ap (map part_of) c.as_slice.ensures.value ∙ all.parts),
)) c.are_parts_of.ensures
