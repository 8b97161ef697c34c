-- From what a statement within a transaction does to what a writing call promises.
use Rattle.std.proofs.Common.{◌≡◌, ℕ, List, Ok, Result, arith}
use Rattle.std.specs.Prelude.{OnOk}
use Rattle.std.proofs.lemmas.Result.{on_ok_weaker}
use Rattle.sqlite_value.specs.Order.{Row}
use Rattle.sqlite.specs.declared.error.Error.{Error}
use Rattle.sqlite.specs.State.{State, Executes, HasCleanDisk, KeepsCommit, Survives}
use Rattle.store_model.specs.Contents.{Contents}
use Rattle.store_tables.specs.Store.{Becomes, IsStore, Reaches, SeesStore}

-- the statement was run, and what it does to a store is this
pub writes_so : (sql : List ℕ) (params : Row) (old new : State) (after : Contents)
    → ((count : ℕ) → IsStore old.now → Executes sql params old new (Ok count) →
    Becomes new.now after)
    → SeesStore old → (result : Result (Unit {0}) Error)
    → (HasCleanDisk new → OnOk result ((count : ℕ) × Executes sql params old new (Ok count)))
    → (HasCleanDisk new → OnOk result (new.in_transaction ≡ old.in_transaction))
    → (HasCleanDisk new → KeepsCommit old new) → Survives old new (λ _. ⊥)
    → Reaches old new result after
writes_so sql params old new after makes sees result done inside kept survives = record {
  done = λ clean. on_ok_weaker result
      (λ ran. makes ran.0 (sees (omega (arith, survives.clean, clean))) ran.1) (done clean);
  inside = inside;
  kept = kept;
  survives = survives;
}
