use Rattle.std.proofs.Common.{rules}
use Rattle.std.specs.Prelude.{nat_lt}
use Rattle.std.proofs.lemmas.List.Sorted.{answers_always}
use Rattle.ring_model.proofs.Rising.{rising_by_test}
use Rattle.ring_model.proofs.parts.are_versions_rising.Goals as goal

pub returns : goal.returns
returns c = rising_by_test (λ entry. entry.0) c.args.published.now c.is_sorted_by.result
    (c.is_sorted_by.ensures.cases (λ one next. nat_lt one.0 next.0)
    (answers_always _ _ _ (λ f a r g called. search rules)))
