use Rattle.std.proofs.Common.{◌≡◌, ◌*◌, ◌+◌, ◌/◌, ◌%◌, [], ◌∷◌, length, ◌∙◌, arith}
use Rattle.std.proofs.lemmas.List.{length-append}
use Rattle.ring_model.proofs.Doubling.{half_place, copied_more, halves}
use Rattle.ring_model.proofs.parts.doubled.Goals as goal

pub offset_bounds-items-place : goal.offset_bounds-items-place
offset_bounds-items-place g c =
    let lt = half_place c.loop-place.place c.args.width c.args.rows c.requires.width (omega arith)
    in
    omega arith

pub bounds-items-place : goal.bounds-items-place
bounds-items-place g c = rw c.requires.whole (half_place c.loop-place.place c.args.width c.args.rows
    c.requires.width (omega arith))

pub loop-place-preserved : goal.loop-place-preserved
loop-place-preserved g c =
    let inside = half_place c.loop-place.place c.args.width c.args.rows c.requires.width
    (omega arith) in
    rw c.in_ok-push.ensures.items (record {
      count = omega (
        arith,
        c.loop-place.invariant.count,
        length-append c.loop-place.twice.items
            (c.index-items-place.result ∷ []),
      );
      copied = copied_more c.args.items.now c.loop-place.twice.items (λ k. k / c.args.width / 2 *
          c.args.width + k % c.args.width) c.loop-place.place c.index-items-place.result
          c.loop-place.invariant.count (rw c.requires.whole inside) c.index-items-place.is
          c.loop-place.invariant.copied;
    })

pub returns-clause-halves : goal.returns-clause-halves
returns-clause-halves g c =
    let end : c.loop-place.place ≡ 2 * length c.args.items.now = omega arith in
    halves c.args.items.now c.loop-place.twice.items c.args.rows c.args.width c.requires.whole
    (c.loop-place.invariant.count ∙ end) (λ k lt. c.loop-place.invariant.copied k
    (omega (arith, c.loop-place.invariant.count)))
