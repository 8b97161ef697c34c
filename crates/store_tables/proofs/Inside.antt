-- Calls within a transaction, one after another.
use Rattle.std.proofs.Common.{◌∙◌, Ok, Err, Result, arith}
use Rattle.std.specs.Prelude.{IsErr}
use Rattle.sqlite.specs.State.{State, HasCleanDisk, KeepsCommit, Survives}
use Rattle.sqlite.specs.declared.error.Error.{Error}
use Rattle.sqlite.proofs.StateLemmas.{survives_then}
use Rattle.store_model.specs.Contents.{Contents}
use Rattle.store_tables.specs.Store.{Reaches}

pub kept_on : (a b c : State) → KeepsCommit a b → KeepsCommit b c → KeepsCommit a c
kept_on a b c h k = record {
  was_open = λ now. h.was_open (k.was_open now);
  committed = λ now. k.committed now ∙ h.committed (k.was_open now);
}

pub quiet_on : (a b c : State) → Survives a b (λ _. ⊥) → Survives b c (λ _. ⊥)
    → Survives a c (λ _. ⊥)
quiet_on a b c h k = survives_then a b c _ _ _ (λ clean db none. none) (λ clean db none. none) h k

-- calls of which nothing was committed
pub record Calm (old new : State) : Type 0 where
  pub kept : HasCleanDisk new → KeepsCommit old new
  pub survives : Survives old new (λ _. ⊥)

pub calm_of : {A : Type 0} (old new : State) (result : Result A Error) (after : Contents)
    → Reaches old new result after → Calm old new
calm_of old new result after it = record { kept = it.kept; survives = it.survives }

pub calm_on : (a b c : State) → Calm a b → Calm b c → Calm a c
calm_on a b c h k = record {
  kept = λ clean. kept_on a b c (h.kept (omega (arith, k.survives.clean, clean))) (k.kept clean);
  survives = quiet_on a b c h.survives k.survives;
}

-- where the last of them failed, nothing more is promised
pub reaches_none : {A : Type 0} (old new : State) (after : Contents) → Calm old new
    → (result : Result A Error) → IsErr result → Reaches old new result after
reaches_none old new after calm (Ok x) failed = absurd (let no = failed in cc)
reaches_none old new after calm (Err e) failed = record {
  done = λ clean. tt;
  inside = λ clean. tt;
  kept = calm.kept;
  survives = calm.survives;
}
