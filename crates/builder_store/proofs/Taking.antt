-- Why a connection is not made over a store that another connection had.
use Rattle.std.proofs.Common.{◌≡◌, ◌<◌, ◌≤◌, ◌⊎◌, ℕ, Err, IfErr, IsTrue, Ok, Result, ap, arith, false}
use Rattle.std.proofs.Common.{inl, inr, subst, sym, ◌∙◌}
use Rattle.sqlite_disk.specs.Disk.{MoreFaults}
use Rattle.sqlite_trees.specs.Tree.{Trees}
use Rattle.sqlite_trees.specs.declared.error.StoreError.{StoreError}
use Rattle.sqlite_trees.specs.declared.error.StoreError.TheVariants as stored
use Rattle.sqlite_rules.specs.Calls.{Excuses}
use Rattle.sqlite_schema.specs.declared.schema.Schema.{Schema}
use Rattle.sqlite_catalog.specs.Listing.{IsSound}
use Rattle.sqlite.specs.State.{State, store_error}
use Rattle.sqlite.specs.Steps.{FailsToOpen}
use Rattle.sqlite.specs.declared.error.Error.{Error}
use Rattle.store_tables.specs.Failing.{HasFailed, HasFailedSince}
use Rattle.builder_store.specs.Inner.Faults.{opening_fault}
use Rattle.builder_store.specs.Opening.{TellsFault}
use Rattle.builder_store.specs.declared.fault.OpenFault.{OpenFault}
use Rattle.builder_store.specs.declared.fault.OpenFault.TheVariants.{NoMemory}

-- memory was wanted, or its disk has failed or refused since
abbrev pub WantsOrFails : State → ℕ → Error → Type 0
WantsOrFails old faults error = (opening_fault error ≡ NoMemory)
    ⊎ (TellsFault (opening_fault error) × HasFailedSince old faults)

tells : (error why : Error) → error ≡ why → TellsFault (opening_fault why)
    → TellsFault (opening_fault error)
tells error why is told = subst (λ e. TellsFault (opening_fault e)) (sym is) told

named : (old : State) (between after : ℕ) (error : Error) (kind : StoreError)
    → old.faults ≤ between → error ≡ store_error kind → Excuses (MoreFaults between after) ⊥ kind
    → WantsOrFails old after error
named old between after error stored.OutOfMemory more is cause = inl (ap opening_fault is)
named old between after error stored.Io more is cause = inr (tells error _ is tt, inl (omega arith))
named old between after error stored.Corrupt more is cause = inr
    (tells error _ is tt, inl (omega arith))
named old between after error stored.Full more is cause = inr
    (tells error _ is tt, inl (omega arith))
named old between after error stored.Broken more is cause = absurd cause
named old between after error stored.Unstorable more is cause = absurd cause

-- its trees are a database, so it is not refused for them
pub over_fails : (old : State) (db : Trees) (between after : ℕ) (error : Error)
    → old.faults ≤ between → ((schema : Schema) × IsSound schema db)
    → FailsToOpen db (MoreFaults between after) error → WantsOrFails old after error
over_fails old db between after error more sound (inl none) = absurd (none.1 sound.0 sound.1)
over_fails old db between after error more sound (inr failed) =
    named old between after error failed.0 more failed.1 failed.2

-- two facts of an error lead to a third
pub if_err_two : {A E : Type 0} (result : Result A E) (P Q R : E → Type 0)
    → ((e : E) → P e → Q e → R e) → IfErr result P → IfErr result Q → IfErr result R
if_err_two (Ok x) P Q R f p q = tt
if_err_two (Err e) P Q R f p q = f e p q

-- a call that failed on an open connection met a fault
pub met_while_open : (old new : State) → IsTrue old.is_open → HasFailed old new
    → MoreFaults old.faults new.faults
met_while_open old new served (inl met) = met
met_while_open old new served (inr shut) = absurd (let a = served in let b = shut in cc)

-- who met more faults has met some
pub met_some : (old : State) (faults : ℕ) → HasFailedSince old faults
    → (0 < faults) ⊎ (old.is_open ≡ false)
met_some old faults (inl met) = inl (omega arith)
met_some old faults (inr shut) = inr shut

-- an opening that ends before there is a connection is told so only then
pub met_before : (old : State) (faults : ℕ) (error : Error) (fault : OpenFault)
    → fault ≡ opening_fault error → WantsOrFails old faults error → TellsFault fault
    → (0 < faults) ⊎ (old.is_open ≡ false)
met_before old faults error fault is (inl memory) told = absurd
    (subst TellsFault (is ∙ memory) told)
met_before old faults error fault is (inr failed) told = met_some old faults failed.1
