use Rattle.std.proofs.Common.{arith}
use Rattle.std.proofs.lemmas.Grind.{common_steps}
use Rattle.std.proofs.Common.{◌∙◌, ◌++◌, ap, rules}
use Rattle.std.proofs.lemmas.Result.{IfErr-weaker}
use Rattle.std.specs.Vec.Iter.{into_iter_items}
use Rattle.store_tables.specs.Inner.Shown.{shown_as}
use Rattle.store_tables.proofs.TextRows.{hands_error, of_row}
use Rattle.store_tables.proofs.reads.rows_in.Goals as goal

pub returns-in_err-read-clause-no_text : goal.returns-in_err-read-clause-no_text
returns-in_err-read-clause-no_text g c =
    let front = c.rows.yielded in
    let is = c.rows.invariant.all ∙ ap (λ rs. front ++ rs) c.in-Some.ensures.steps.0 in
    hands_error _ c.read.result c.from_residual.result c.in_err-read.field-0.0 (search rules)
    (search rules) (IfErr-weaker c.read.result _ _ (λ e none told all. none told
    (of_row g.T.Listed.are_texts (shown_as g.T.Listed.layout) c.args.shown.items front
    (into_iter_items c.next.new.self) c.in-Some.row is all))
    c.read.ensures.no_text)

pub rows-preserved : goal.rows-preserved
rows-preserved g c = grind (arith, common_steps)

pub returns-clause-rows : goal.returns-clause-rows
returns-clause-rows g c = grind (arith, common_steps)
