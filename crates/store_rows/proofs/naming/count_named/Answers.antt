use Rattle.std.proofs.Common.{sym, ◌∙◌}
use Rattle.std.proofs.lemmas.Bool.{not-false, not-true}
use Rattle.std.proofs.lemmas.Slice.Eq.{bytes_eq-Decides}
use Rattle.store_rows.proofs.Reading.{begins_elsewhere, named_more}
use Rattle.store_rows.proofs.naming.count_named.Goals as goal

pub returns-then-ne-clause-parted : goal.returns-then-ne-clause-parted
returns-then-ne-clause-parted g c = record {
  front_named = c.loop-place.invariant;
  behind_other = begins_elsewhere g.T.RowOfRing.ring_name c.args.name.now c.args.rows.now
      c.loop-place.place c.index-rows-place.result c.loop-place-test.true c.index-rows-place.is
      (λ same. let one = (bytes_eq-Decides c.ring.result.now c.args.name.now).1
      (c.ring.ensures ∙ same) in let two = not-true _ (sym c.ne.ensures ∙ c.if-ne.true) in cc);
}

pub loop-place-preserved : goal.loop-place-preserved
loop-place-preserved g c =
    named_more g.T.RowOfRing.ring_name c.args.name.now c.args.rows.now c.loop-place.place
    c.index-rows-place.result c.loop-place-test.true c.index-rows-place.is
    (sym c.ring.ensures ∙ (bytes_eq-Decides c.ring.result.now c.args.name.now).0
    (not-false _ (sym c.ne.ensures ∙ c.if-ne.false))) c.loop-place.invariant
