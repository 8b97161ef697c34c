-- Readings one after another, the last of which failed.
use Rattle.std.proofs.Common.{◌≡◌, Ok, Err, Result, arith, subst, sym}
use Rattle.std.specs.Prelude.{IfErr, IsErr}
use Rattle.sqlite.specs.State.{State, Survives}
use Rattle.sqlite.specs.declared.error.Error.{Error}
use Rattle.sqlite_trees.specs.Tree.{Trees}
use Rattle.store_model.specs.Contents.{Contents}
use Rattle.store_tables.specs.Failing.{FailsForCause}
use Rattle.store_tables.specs.Store.{ReadsContents}
use Rattle.store_tables.proofs.Failing.{failed_late, fails_late, hands_on}
use Rattle.builder_store.specs.Opening.{JudgesTables}
use Rattle.builder_store.specs.Inner.Opened.{FailsOnlyFor}
use Rattle.builder_store.specs.declared.fault.OpenFault.{OpenFault}

-- what failed tells of no contents
pub reads_stop : {A : Type 0} (c : Contents) (old new : State) → Survives old new (λ _. ⊥)
    → (result : Result A Error) (IsSo : Contents → A → Type 0) → IsErr result
    → ReadsContents c old new result IsSo
reads_stop c old new quiet (Ok x) IsSo failed = absurd (let no = failed in cc)
reads_stop c old new quiet (Err e) IsSo failed = record {
  answer = λ clean. tt;
  same = λ clean. tt;
  survives = quiet;
}

-- and has the cause that it had where it failed
pub cause_after : {A B : Type 0} (old mid new : State) → Survives old mid (λ _. ⊥)
    → Survives mid new (λ _. ⊥) → (first : Result A Error) (result : Result B Error) (e : Error)
    → first ≡ Err e → result ≡ Err e → FailsForCause mid new first → FailsForCause old new result
cause_after old mid new was did first result e failed is cause = fails_late old mid new (λ _. ⊥)
    (λ _. ⊥) result was did (hands_on mid new first result e failed is cause)

-- a step that fails after a reading has its cause
pub only_after : {A : Type 0} (old mid new : State) (Commits : Trees → Type 0)
    (result : Result A OpenFault) → Survives old mid (λ _. ⊥) → Survives mid new Commits
    → FailsOnlyFor mid new result → FailsOnlyFor old new result
only_after old mid new Commits (Ok x) was did cause = λ clean. tt
only_after old mid new Commits (Err why) was did cause = λ clean told. failed_late old mid new
    (λ _. ⊥) was (omega (arith, did.clean, clean)) did.counts (cause clean told)

-- and one whose fault is handed on
pub only_on : {A B : Type 0} (old new : State) (first : Result A OpenFault)
    (result : Result B OpenFault) (e : OpenFault) → first ≡ Err e → result ≡ Err e
    → FailsOnlyFor old new first → FailsOnlyFor old new result
only_on old new first result e was is cause = λ clean. rw is (rw was at (cause clean))

-- a fault that is handed on judges nothing where the call that it is of judges nothing
pub judges_none : {A B : Type 0} (first : Result A OpenFault) (result : Result B OpenFault)
    (e why : OpenFault) → JudgesTables why → IfErr first (λ fault. JudgesTables fault → ⊥)
    → first ≡ Err e → result ≡ Err e → result ≡ Err why → ⊥
judges_none first result e why judges never was is bad =
    let same : e ≡ why = cc in
    (rw was at never) (subst JudgesTables (sym same) judges)
