-- What a reading of the rows tells of their texts.
use Rattle.std.specs.Prelude.{ℕ, IfErr, IsTrue, Result}
use Rattle.sqlite.specs.State.{HasCleanDisk, State}
use Rattle.sqlite.specs.declared.error.Error.{Error}
use Rattle.store_tables.specs.Failing.{is_no_text}
use Rattle.store_tables.specs.Store.{begun_contents}
use Rattle.store_tables.specs.Texts.{AreTexts}

-- A call is told to have read what is no UTF-8 only where a text in the first so many tables is none.
abbrev pub MeetsNoText : ℕ → State → State → {A : Type 0} → Result A Error → Type 0
MeetsNoText made old new result = HasCleanDisk new → IfErr result (λ e. IsTrue (is_no_text e)
    → AreTexts (begun_contents made old.now.trees) → ⊥)
