-- What a later reading tells of the texts in the tables.
use Rattle.std.proofs.Common.{◌≡◌, ℕ, Err, List, Result, subst, sym}
use Rattle.std.specs.Prelude.{All, IfErr, IsTrue}
use Rattle.sqlite.specs.Effect.{Database}
use Rattle.sqlite.specs.State.{HasCleanDisk, State}
use Rattle.sqlite.specs.declared.error.Error.{Error}
use Rattle.store_model.specs.Contents.{Contents}
use Rattle.store_tables.specs.Failing.{is_no_text}
use Rattle.store_tables.specs.Store.{begun_contents}
use Rattle.store_tables.specs.Texts.{AreTexts}
use Rattle.builder_store.specs.Inner.Reading.{MeetsNoText}

-- what a reading of one table meets in the tables as they still are, all readings meet
pub text_met : {X A B : Type 0} (P : X → Type 0) (listed : Contents → List X) (made : ℕ) (old mid new : State)
    (first : Result A Error) (result : Result B Error) (e : Error)
    → ((c : Contents) → AreTexts c → All P (listed c)) → (HasCleanDisk new → mid.now ≡ old.now)
    → first ≡ Err e → result ≡ Err e
    → (HasCleanDisk new → IfErr first (λ e. IsTrue (is_no_text e)
    → All P (listed (begun_contents made mid.now.trees)) → ⊥))
    → MeetsNoText made old new result
text_met P listed made old mid new first result e part same was is met = λ clean.
    let here : IsTrue (is_no_text e) → All P (listed (begun_contents made mid.now.trees)) → ⊥ =
    rw was at (met clean) in
    rw is (λ told texts. here told (subst (λ (d : Database). All P (listed (begun_contents made d.trees)))
    (sym (same clean)) (part (begun_contents made old.now.trees) texts)))
