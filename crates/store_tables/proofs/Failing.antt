-- What fails for the disk has its cause.
use Rattle.std.proofs.Common.{◌≡◌, ◌≤◌, ℕ, false, List, Option, Some, None, Result, Ok, Err, IfErr, IsErrAnd, IsTrue, refl, inl, inr, arith}
use Rattle.std.proofs.lemmas.Bool.{cases_Bool, or_parts}
use Rattle.sqlite_value.specs.Order.{Row}
use Rattle.sqlite_trees.specs.Tree.{Trees}
use Rattle.sqlite_trees.specs.declared.error.StoreError.{StoreError}
use Rattle.sqlite_trees.specs.declared.error.StoreError.TheVariants.{OutOfMemory, Io, Corrupt, Full, Broken, Unstorable}
use Rattle.sqlite_schema.specs.declared.command.Command.{Command}
use Rattle.sqlite_schema.specs.declared.command.Returning.{Returning}
use Rattle.sqlite_resolve.specs.declared.compiled.Compiled.{Compiled}
use Rattle.sqlite.specs.declared.error.Error.{Error}
use Rattle.sqlite.specs.declared.error.Error.TheVariants.{SqliteFailure, ExecuteReturnedResults}
use Rattle.sqlite.specs.declared.error.ErrorCode.TheVariants.{TransactionState}
use Rattle.sqlite.specs.State.{State, HasCause, HasCleanDisk, Fails, IsMisplaced, IsNoStatement, IsNotRun, RunsCommand, ExecutesIn, ExecutesInside, FailsToShow, FailsToQuery, Survives, mode_of, shows_rows, store_error, text_of}
use Rattle.sqlite.specs.Held.{Held, state}
use Rattle.sqlite.specs.Steps.{FailsToCommit, over_memory}
use Rattle.sqlite.proofs.Callers.{memory_is_clean}
use Rattle.sqlite_trees.specs.declared.memory.MemStore.{MemStore}
use Rattle.store_tables.specs.Failing.{FailsForCause, HasFailed, is_no_text, tells_failure}
use Rattle.store_tables.proofs.Refusals.{does, is_spared, reads, tells}

pub untold : (e : Error) → tells_failure e ≡ false → IsTrue (tells_failure e) → ⊥
untold e never told = absurd (let a = never in let b = told in cc)

silent : (e : Error) → tells e ≡ false → IsTrue (tells_failure e) → ⊥
silent e never told = untold e (or_parts (tells_failure e) (is_no_text e) never).0 told

no_text : (e : Error) → tells e ≡ false → is_no_text e ≡ false
no_text e never = (or_parts (tells_failure e) (is_no_text e) never).1

-- ---- one statement

module _ (old new : State) (e : Error) where
  of_kind : (big : Type 0) (kind : StoreError) → e ≡ store_error kind → HasCause old new big kind
      → IsTrue (tells_failure e) → HasFailed old new
  of_kind big OutOfMemory is cause told = absurd (silent e (is_spared e _ is refl) told)
  of_kind big Io is cause told = inl cause
  of_kind big Corrupt is cause told = inl cause
  of_kind big Full is cause told = inl cause
  of_kind big Broken is cause told = inr cause
  of_kind big Unstorable is cause told = absurd (silent e (is_spared e _ is refl) told)

  failed : (big : Type 0) → Fails old new big e → IsTrue (tells_failure e) → HasFailed old new
  failed big h told = of_kind big h.0 h.1 h.2 told

  no_statement : (sql : List ℕ) (params : Row) → IsNoStatement old sql params e
      → tells e ≡ false
  no_statement sql params (inl h) = is_spared e _ h.2 refl
  no_statement sql params (inr h) = elim h.2 [
    | inl many ↦ is_spared e _ many.1 refl
    | inr other ↦ elim other [
      | inl given ↦ is_spared e _ given.1 refl
      | inr timed ↦ is_spared e _ timed.1 refl
    ]
  ]

  pub not_run : (sql : List ℕ) (params : Row) → IsNotRun old new sql params e
      → IsTrue (tells_failure e) → HasFailed old new
  unfolding IsNotRun
  not_run sql params (inl h) told = absurd (silent e (no_statement sql params h.0) told)
  not_run sql params (inr h) told = failed ⊥ h told

  misplaced : (it : Command) → IsMisplaced old it e → tells e ≡ false
  misplaced it (inl h) = is_spared e _ h.0 refl
  misplaced it (inr h) = is_spared e _ h.0 refl

  ran : (sql : List ℕ) (c : Compiled) (params : Row) → RunsCommand old new sql c params (Err e)
      → IsTrue (tells_failure e) → HasFailed old new
  ran sql c params (inl h) told = absurd (silent e (elim h.0 [
    | inl out ↦ misplaced c.command out
    | inr refused ↦ (does old.step_limit (mode_of old) params old.now (text_of sql c) c.returning
        c.command).spared e refused.1
  ]) told)
  ran sql c params (inr h) told = failed _ h told

  executed : (sql : List ℕ) (params : Row) → ExecutesIn false sql params old new (Err e)
      → IsTrue (tells_failure e) → HasFailed old new
  unfolding ExecutesIn
  executed sql params (inl h) told = not_run sql params h told
  executed sql params (inr h) told = elim (cases_Bool (shows_rows false h.0)) [
    | inl shows ↦ absurd (silent e (is_spared e ExecuteReturnedResults
        (let k = (rw shows at h.2).0 in cc) refl) told)
    | inr runs ↦ ran sql h.0 _ (rw runs at h.2) told
  ]

  within : (sql : List ℕ) (params : Row) → ExecutesInside 0 sql params old new (Err e)
      → IsTrue (tells_failure e) → HasFailed old new
  within sql params (inl h) told = executed sql params h.0 told
  within sql params (inr h) told = absurd (silent e (is_spared e _ h.1 refl) told)

  unshown : (sql : List ℕ) (c : Compiled) (params : Row) (what : Option Returning)
      → FailsToShow old new sql c params e what → IsTrue (tells_failure e) → HasFailed old new
  unshown sql c params None h told = absurd (silent e
      (reads old.step_limit c.command h.0 params e h.2) told)
  unshown sql c params (Some what) h told = ran sql c params h told

  queried : (sql : List ℕ) (params : Row) → FailsToQuery sql params old new e
      → IsTrue (tells_failure e) → HasFailed old new
  unfolding FailsToQuery
  queried sql params (inl h) told = not_run sql params h told
  queried sql params (inr h) told = unshown sql h.0 _ h.0.returning h.2 told

  -- ---- and of no text

  read_kind : (kind : StoreError) → e ≡ store_error kind → is_no_text e ≡ false
  read_kind OutOfMemory is = rw is refl
  read_kind Io is = rw is refl
  read_kind Corrupt is = rw is refl
  read_kind Full is = rw is refl
  read_kind Broken is = rw is refl
  read_kind Unstorable is = rw is refl

  not_run_read : (sql : List ℕ) (params : Row) → IsNotRun old new sql params e
      → is_no_text e ≡ false
  unfolding IsNotRun
  not_run_read sql params (inl h) = no_text e (no_statement sql params h.0)
  not_run_read sql params (inr h) = read_kind h.0 h.1

  ran_read : (sql : List ℕ) (c : Compiled) (params : Row) → RunsCommand old new sql c params (Err e)
      → is_no_text e ≡ false
  ran_read sql c params (inl h) = no_text e (elim h.0 [
    | inl out ↦ misplaced c.command out
    | inr refused ↦ (does old.step_limit (mode_of old) params old.now (text_of sql c) c.returning
        c.command).spared e refused.1
  ])
  ran_read sql c params (inr h) = read_kind h.0 h.1

  unshown_read : (sql : List ℕ) (c : Compiled) (params : Row) (what : Option Returning)
      → FailsToShow old new sql c params e what → is_no_text e ≡ false
  unshown_read sql c params None h = no_text e (reads old.step_limit c.command h.0 params e h.2)
  unshown_read sql c params (Some what) h = ran_read sql c params h

  queried_read : (sql : List ℕ) (params : Row) → FailsToQuery sql params old new e
      → is_no_text e ≡ false
  unfolding FailsToQuery
  queried_read sql params (inl h) = not_run_read sql params h
  queried_read sql params (inr h) = unshown_read sql h.0 _ h.0.returning h.2

  uncommitted : FailsToCommit old new e → IsTrue (tells_failure e) → HasFailed old new
  uncommitted (inl h) told = failed ⊥ h told
  uncommitted (inr h) told = absurd (silent e (is_spared e _ h.0 refl) told)

-- a statement within a transaction
pub statement_fails : {A : Type 0} (sql : List ℕ) (params : Row) (old new : State) (result : Result ℕ Error)
    → (old.in_transaction ≡ false → (result ≡ Err (SqliteFailure TransactionState)) × A)
    → (HasCleanDisk new → IsTrue old.in_transaction → ExecutesInside 0 sql params old new result)
    → FailsForCause old new result
statement_fails sql params old new (Ok count) ended runs = λ clean. tt
statement_fails sql params old new (Err e) ended runs = λ clean told. elim
    (cases_Bool old.in_transaction) [
      | inl on ↦ within old new e sql params (runs clean on) told
      | inr off ↦ absurd (silent e (is_spared e (SqliteFailure TransactionState)
          (let k = (ended off).0 in cc) refl) told)
    ]

-- its commit
pub commit_fails : {A : Type 0} (old new : State) (result : Result A Error)
    → (HasCleanDisk new → IfErr result (FailsToCommit old new)) → FailsForCause old new result
commit_fails old new (Ok x) err = λ clean. tt
commit_fails old new (Err e) err = λ clean told. uncommitted old new e (err clean) told

-- a query
pub query_fails : {A : Type 0} (sql : List ℕ) (params : Row) (old new : State) (result : Result A Error)
    → (HasCleanDisk new → IfErr result (FailsToQuery sql params old new))
    → FailsForCause old new result
query_fails sql params old new (Ok x) err = λ clean. tt
query_fails sql params old new (Err e) err = λ clean told. queried old new e sql params (err clean)
    told

-- what a query shows is not read as texts
pub query_reads : {A : Type 0} (sql : List ℕ) (params : Row) (old new : State) (result : Result A Error)
    → (HasCleanDisk new → IfErr result (FailsToQuery sql params old new))
    → HasCleanDisk new → IfErr result (λ e. is_no_text e ≡ false)
query_reads sql params old new (Ok x) err = λ clean. tt
query_reads sql params old new (Err e) err = λ clean. queried_read old new e sql params (err clean)

-- an error that is told of no text is told of none
pub read_as_text : {A : Type 0} (e : Error) → is_no_text e ≡ false → IsTrue (is_no_text e) → A
read_as_text e never told = absurd (let a = never in let b = told in cc)

-- what an error is known to be
pub err_so : {A : Type 0} (result : Result A Error) (Q : Error → Type 0) → IsErrAnd result Q
    → IfErr result Q
err_so (Ok x) Q so = tt
err_so (Err e) Q so = so

-- ---- one call after another

pub failed_early : (a b c : State) → b.faults ≤ c.faults → HasFailed a b → HasFailed a c
failed_early a b c more (inl h) = inl (omega arith)
failed_early a b c more (inr h) = inr h

pub failed_late : (a b c : State) (Commits : Trees → Type 0) → Survives a b Commits
    → HasCleanDisk b → b.faults ≤ c.faults → HasFailed b c → HasFailed a c
failed_late a b c Commits was clean more (inl h) = inl (omega (arith, was.counts))
failed_late a b c Commits was clean more (inr shut) = elim (cases_Bool a.is_open) [
  | inl served ↦ elim (was.closes clean served) [
    | inl still ↦ absurd (let k = still in let n = shut in cc)
    | inr met ↦ inl (omega arith)
  ]
  | inr none ↦ inr none
]

-- a call fails after another that went well
pub fails_late : {A : Type 0} (a b c : State) (First Next : Trees → Type 0)
    (result : Result A Error) → Survives a b First → Survives b c Next → FailsForCause b c result
    → FailsForCause a c result
fails_late a b c First Next (Ok x) was did cause = λ clean. tt
fails_late a b c First Next (Err e) was did cause = λ clean told.
    failed_late a b c First was (omega (arith, did.clean, clean)) did.counts (cause clean told)

-- a call fails, and another ends what was begun
pub fails_early : {A : Type 0} (a b c : State) (Next : Trees → Type 0) (result : Result A Error)
    → Survives b c Next → FailsForCause a b result → FailsForCause a c result
fails_early a b c Next (Ok x) did cause = λ clean. tt
fails_early a b c Next (Err e) did cause = λ clean told.
    failed_early a b c did.counts (cause (omega (arith, did.clean, clean)) told)

-- the error is handed on
pub hands_on : {A B : Type 0} (old new : State) (first : Result A Error) (result : Result B Error)
    (e : Error) → first ≡ Err e → result ≡ Err e → FailsForCause old new first
    → FailsForCause old new result
hands_on old new first result e was is cause = λ clean. rw is (rw was at (cause clean))

-- no failure is told
pub unfailing : {A : Type 0} (old new : State) (result : Result A Error)
    → IfErr result (λ e. tells_failure e ≡ false) → FailsForCause old new result
unfailing old new (Ok x) never = λ clean. tt
unfailing old new (Err e) never = λ clean told. absurd (untold e never told)

-- so nothing has to be known of its cause
pub no_cause : {A : Type 0} (Cause : Error → Type 0) (result : Result A Error)
    → IfErr result (λ e. tells_failure e ≡ false)
    → IfErr result (λ e. IsTrue (tells_failure e) → Cause e)
no_cause Cause (Ok x) never = tt
no_cause Cause (Err e) never = λ told. absurd (untold e never told)

-- a database in memory does not fail
pub memory_fails_not : {A : Type 0} (old new : Held MemStore) (result : Result A Error)
    → IsTrue (state over_memory old).is_open
    → FailsForCause (state over_memory old) (state over_memory new) result
    → IfErr result (λ e. tells_failure e ≡ false)
memory_fails_not old new (Ok x) served cause = tt
memory_fails_not old new (Err e) served cause = elim (cases_Bool (tells_failure e)) [
  | inl told ↦ elim (cause (memory_is_clean new) told) [
    | inl met ↦ absurd (omega (arith, met))
    | inr shut ↦ absurd (let k = served in let n = shut in cc)
  ]
  | inr never ↦ never
]
