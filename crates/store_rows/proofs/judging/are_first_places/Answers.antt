use Rattle.std.proofs.Common.{map, ap, sym, ◌∙◌}
use Rattle.std.proofs.Common.{arith}
use Rattle.std.specs.Vec.{vec_len}
use Rattle.store_model.specs.Contents.{seat_of, moved_of, part_of}
use Rattle.store_rows.proofs.Steps.{alike_by, alike_map, unlike}
use Rattle.store_rows.proofs.FoundRows.{empty_of}
use Rattle.store_rows.proofs.judging.are_first_places.Goals as goal

pub returns : goal.returns
returns c = (
  λ same. record {
    seats = ap (map seat_of) (sym c.as_slice.ensures.value) ∙ alike_map seat_of c.as_slice.result.now
        c.as_slice-2.result.now (c.are_alike.ensures.0 c.if-not-are_alike.false) ∙ ap (map seat_of)
        c.as_slice-2.ensures.value ∙ c.in_ok-seats.ensures;
    moved = ap (map moved_of) (sym c.as_slice-3.ensures.value) ∙ alike_map moved_of
        c.as_slice-3.result.now c.as_slice-4.result.now (c.are_alike-2.ensures.0 same) ∙ ap
        (map moved_of) c.as_slice-4.ensures.value ∙ c.in_ok-moved.ensures;
    parts = ap (map part_of) (empty_of c.args.rows.now.parts.items (vec_len c.args.rows.now.parts)
        (omega arith) (sym c.is_empty.ensures ∙ c.if-not-is_empty.false));
  },
  λ says. c.are_alike-2.ensures.1 (alike_by moved_of c.as_slice-3.result.now c.as_slice-4.result.now
      (ap (map moved_of) c.as_slice-3.ensures.value ∙ says.moved ∙ sym c.in_ok-moved.ensures
      ∙ ap (map moved_of) (sym c.as_slice-4.ensures.value))),
)

pub returns-then-not-are_alike : goal.returns-then-not-are_alike
returns-then-not-are_alike c = unlike _ _ c.are_alike.result c.if-not-are_alike.true
    c.are_alike.ensures (λ says. alike_by seat_of c.as_slice.result.now c.as_slice-2.result.now
    (ap (map seat_of) c.as_slice.ensures.value ∙ says.seats ∙ sym c.in_ok-seats.ensures
    ∙ ap (map seat_of) (sym c.as_slice-2.ensures.value)))
