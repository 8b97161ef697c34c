-- What an empty text comes to, whatever tables there are.
use Rattle.std.proofs.Common.{◌≡◌, ◌≢◌, ◌∙◌, false, List, [], Ok, Err, Result, ap, inl, inr, refl, subst, sym}
use Rattle.std.specs.Prelude.{IfErr, IfOk, IsTrue, OnOk}
use Rattle.sqlite_value.specs.Order.{Row}
use Rattle.sqlite_trees.specs.declared.error.StoreError.{StoreError}
use Rattle.sqlite_trees.specs.declared.error.StoreError.TheVariants as stored
use Rattle.sqlite_schema.specs.declared.schema.Schema.{Schema}
use Rattle.sqlite_schema.specs.declared.command.Command.TheVariants.{Nothing}
use Rattle.sqlite_tied.specs.Compute.{everything}
use Rattle.sqlite.specs.Clock.{timed}
use Rattle.sqlite.specs.Effect.{RefusesToRead}
use Rattle.sqlite.specs.Listing.{reads_listing, understood}
use Rattle.sqlite.specs.State.{FailsToQuery, FailsToShow, IsNotRun, IsUnchanged, Shown, State, store_error}
use Rattle.sqlite.specs.declared.error.Error.{Error}
use Rattle.sqlite.specs.declared.error.Error.TheVariants.{InvalidQuery}
use Rattle.sqlite.proofs.Callers.{IsPlain, command_of, reads_as}
use Rattle.store_tables.specs.Failing.{HasFailed, tells_failure}
use Rattle.store_tables.proofs.Failing.{not_run}
use Rattle.builder_store.specs.declared.fault.OpenFault.{OpenFault}
use Rattle.builder_store.specs.Opening.{TellsFault}

blank_command : (schema : Schema) → command_of (understood schema []) ≡ Nothing
unfolding understood everything
blank_command schema = refl

pub blank_plain : (schema : Schema) → IsPlain (understood schema [])
unfolding understood everything
blank_plain schema = (refl, refl)

blank_unlisted : (schema : Schema) → reads_listing schema [] ≡ false
unfolding understood everything
blank_unlisted schema = refl

stored_apart : (kind : StoreError) → store_error kind ≢ InvalidQuery
stored_apart stored.OutOfMemory is = let h = is in cc
stored_apart stored.Io is = let h = is in cc
stored_apart stored.Corrupt is = let h = is in cc
stored_apart stored.Full is = let h = is in cc
stored_apart stored.Broken is = let h = is in cc
stored_apart stored.Unstorable is = let h = is in cc

module _ (old new : State) where
  not_shown : (rows : List Row) → Shown [] [] old new rows → ⊥
  not_shown rows h = reads_as [] [] old new old.now.schema refl Nothing (blank_command old.now.schema)
      (blank_plain old.now.schema) (blank_unlisted old.now.schema) rows h

  not_refused : (e : Error) → e ≡ InvalidQuery → IsNotRun old new [] [] e → ⊥
  unfolding IsNotRun
  not_refused e is (inl none) = elim none.0 [
    | inl fault ↦ let a = is in let b = fault.2 in cc
    | inr more ↦ elim more.2 [
      | inl many ↦ let a = is in let b = many.1 in cc
      | inr other ↦ elim other [
        | inl given ↦ let a = is in let b = given.1 in cc
        | inr timed ↦ let a = is in let b = timed.1 in cc
      ]
    ]
  ]
  not_refused e is (inr failed) = stored_apart failed.0 (sym failed.1 ∙ is)

  -- nothing was asked for
  pub asked : (e : Error) → e ≡ InvalidQuery → FailsToQuery [] [] old new e → IsUnchanged old new
  unfolding FailsToQuery
  asked e is (inl none) = absurd (not_refused e is none)
  asked e is (inr h) =
      let bare = subst IsPlain h.1.is (blank_plain old.now.schema) in
      (subst (FailsToShow old new [] h.0 (timed [] h.0.formats h.1.now) e) bare.0 h.2).3

  -- or it was not run
  pub unasked : (e : Error) → e ≢ InvalidQuery → FailsToQuery [] [] old new e
      → IsNotRun old new [] [] e
  unfolding FailsToQuery
  unasked e other (inl none) = none
  unasked e other (inr h) =
      let bare = subst IsPlain h.1.is (blank_plain old.now.schema) in
      let known = ap command_of (sym h.1.is) ∙ blank_command old.now.schema in
      let shown = subst (FailsToShow old new [] h.0 (timed [] h.0.formats h.1.now) e) bare.0 h.2 in
      absurd (other (subst (λ k. RefusesToRead old.step_limit k shown.0
      (timed [] h.0.formats h.1.now) e) known shown.2))

  pub answers : {A : Type 0} (items_of : A → List Row) (answer : Result A Error) (result : Result (Unit {0}) Error)
      → OnOk result (IfErr answer (λ e. e ≡ InvalidQuery))
      → IfOk answer (λ rows. Shown [] [] old new (items_of rows))
      → IfErr answer (FailsToQuery [] [] old new) → OnOk result (IsUnchanged old new)
  answers items_of (Ok rows) (Ok u) nothing shown failed = absurd (not_shown (items_of rows) shown)
  answers items_of (Err e) (Ok u) nothing shown failed = asked e nothing failed
  answers items_of answer (Err e) nothing shown failed = tt

  pub stays_silent : {A : Type 0} (answer : Result A Error) (result : Result (Unit {0}) Error)
      → IfErr result (λ e. (answer ≡ Err e) × (e ≢ InvalidQuery))
      → IfErr answer (FailsToQuery [] [] old new) → IfErr result (IsNotRun old new [] [])
  stays_silent answer (Ok u) untold failed = tt
  stays_silent answer (Err e) untold failed =
      unasked e untold.1 (subst (λ a. IfErr a (FailsToQuery [] [] old new)) untold.0 failed)

  -- it was not run for the disk only where that failed
  pub silence_fails : (e : Error) (fault : OpenFault) → TellsFault fault
      → (TellsFault fault → IsTrue (tells_failure e)) → IsNotRun old new [] [] e → HasFailed old new
  silence_fails e fault is told none = not_run old new e [] [] none (told is)
