use Rattle.std.proofs.Common.{◌∙◌}
use Rattle.std.proofs.lemmas.List.Elements.{same_from_all_zip}
use Rattle.ring_words.proofs.AlikeRows.{same_row}
use Rattle.ring_words.proofs.rows.Rows.copy.Goals as goal

pub returns : goal.returns
returns c = same_from_all_zip _ _ _ c.in_ok-rows.ensures.cases.0 (λ x y r. same_row _ _ r)
    ∙ c.self.view_is
