-- A call within a transaction that makes tables.
use Rattle.std.specs.Prelude.{◌≡◌, ℕ, Result, OnOk}
use Rattle.sqlite.specs.State.{State, HasCleanDisk, KeepsCommit, Survives}
use Rattle.sqlite.specs.declared.error.Error.{Error}
use Rattle.store_tables.specs.Store.{HasMadeTables, begun_contents}

-- A call within a transaction that makes the tables from the first number to the second: where it
-- answers Ok, they are there and empty, and the others contain what they did. Whatever it
-- answers, nothing is committed, and a crash leaves what it could leave before.
pub record MakesTables (made all : ℕ) (old new : State) {A : Type 0} (result : Result A Error) :
    Type 0 where
  pub done : HasCleanDisk new → OnOk result (HasMadeTables all new.now
      × (begun_contents all new.now.trees ≡ begun_contents made old.now.trees))
  pub inside : HasCleanDisk new → OnOk result (new.in_transaction ≡ old.in_transaction)
  pub kept : HasCleanDisk new → KeepsCommit old new
  pub survives : Survives old new (λ _. ⊥)
