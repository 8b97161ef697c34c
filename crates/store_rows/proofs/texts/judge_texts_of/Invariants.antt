use Rattle.std.proofs.Common.{All, take}
use Rattle.std.specs.Rc.{rc_str_bytes}
use Rattle.store_rows.specs.OwnTexts.{IsOwnText}
use Rattle.store_rows.proofs.texts.judge_texts_of.Given as goal

abbrev pub invariant-loop-entry : goal.invariant-loop-entry
invariant-loop-entry l = All (λ e. IsOwnText l.name (e.0, rc_str_bytes e.1))
    (take l.entry-index l.published)
