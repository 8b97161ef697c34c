use Rattle.std.proofs.Common.{true, false, length, ◌<◌, ◌∙◌, sym, ap, arith, ℕ, List, [], ◌∷◌}
use Rattle.std.specs.Str.{bytes_eq}
use Rattle.std.specs.String.{string_bytes}
use Rattle.http_routes.specs.declared.query.Pair.{Pair}
use Rattle.http_routes.proofs.Pairs.{values_more, found_same, found_first, found_again}
use Rattle.http_routes.proofs.query.find.Goals.{then-eq+in-Missing, then-eq+in_default, else-eq}
use Rattle.http_routes.proofs.query.find.Goals as goal

pub loop-pair-preserved : goal.loop-pair-preserved
loop-pair-preserved c =
    let pairs = c.args.pairs.now in
    let i = c.loop-pair.pair-index in
    let d = c.pair-item.result in
    let name = c.args.name.now in
    let inv = c.loop-pair.invariant in
    let lt : i < length pairs = omega arith in
    let same = c.eq.ensures ∙ ap (λ (t : List ℕ). bytes_eq t name) (c.as_str.ensures.value ∙ ap
    (λ (p : Pair). string_bytes p.name) c.pair-item.is) in
    elim c.if-eq.branch [
      | then-eq+in-Missing w ↦
          rw w.found-is (found_first _ _ _ (values_more name pairs i d true lt
          (sym w.if-eq.true ∙ same)) (rw w.in-Missing.is at inv)
          ∙ ap (λ (v : List ℕ). v ∷ []) (sym (w.as_str-in-Missing.ensures.value ∙ ap
          (λ (p : Pair). string_bytes p.value) c.pair-item.is)))
      | then-eq+in_default w ↦
          rw w.found-is (found_again c.loop-pair.found _ _ _ (values_more name pairs i d true lt
          (sym w.if-eq.true ∙ same)) w.in_default.not-Missing inv)
      | else-eq w ↦
          rw w.found-is (found_same c.loop-pair.found _ _ (values_more name pairs i d false lt
          (sym w.if-eq.false ∙ same)) inv)
    ]
