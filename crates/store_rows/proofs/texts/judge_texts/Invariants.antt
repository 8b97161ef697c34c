use Rattle.std.proofs.Common.{All, take}
use Rattle.store_rows.specs.OwnTexts.{PublishedOwn}
use Rattle.store_rows.proofs.texts.judge_texts.Given as goal

abbrev pub invariant-loop-entry : goal.invariant-loop-entry
invariant-loop-entry l = All (λ e. PublishedOwn (e.0, e.1.value)) (take l.entry-index l.entry-items)
