use Rattle.std.proofs.Common.{arith, inl, inr, subst, sym}
use Rattle.sqlite.specs.Files.{file_state}
use Rattle.sqlite.specs.State.{HasCleanDisk}
use Rattle.builder_store.specs.Opening.{HasBadTexts, IsOpenedAs}
use Rattle.builder_store.proofs.Judged.{rows_of_connection}
use Rattle.builder_store.specs.Left.{IsOfConnection}
use Rattle.builder_store.proofs.Causes.{same_cause}
use Rattle.builder_store.proofs.Rests.{bad_of_connection, fault_of_connection, not_connected}
use Rattle.builder_store.proofs.over.open_from.Goals as goal

pub over-requires : goal.over-requires
over-requires g c = c.in-Ok.ensures.made.made

pub returns-in-Ok-over-clause-limit : goal.returns-in-Ok-over-clause-limit
returns-in-Ok-over-clause-limit g c = c.in-Ok-over.ensures.begins.limit

pub returns-in-Ok-over-clause-faults : goal.returns-in-Ok-over-clause-faults
returns-in-Ok-over-clause-faults g c = c.in-Ok-over.ensures.begins.faults

pub returns-in-Ok-over-clause-found : goal.returns-in-Ok-over-clause-found
returns-in-Ok-over-clause-found g c = λ clean.
    let before : HasCleanDisk (file_state c.in-Ok.conn) = omega
    (arith, c.in-Ok-over.ensures.begins.clean, clean) in
    let found = c.in-Ok.ensures.made.found before in
    record {
      trees = (file_state c.in-Ok.conn).committed.trees;
      holds = found.holds;
      reads = found.reads;
      opens = c.in-Ok-over.ensures.begins.found clean;
    }

pub returns-in-Err-clause-connected : goal.returns-in-Err-clause-connected
returns-in-Err-clause-connected g c = (
  λ is. absurd (c.in-Err.ensures.unmade.0 is),
  λ is. absurd (c.in-Err.ensures.unmade.1 is),
)

pub returns-in-Err-clause-bad : goal.returns-in-Err-clause-bad
returns-in-Err-clause-bad g c = λ bad. absurd (c.in-Err.ensures.unmade.0
    (bad_of_connection c.in-Err.fault bad))

pub returns-in-Err-clause-rows : goal.returns-in-Err-clause-rows
returns-in-Err-clause-rows g c = λ bad. absurd (c.in-Err.ensures.unmade.0
    (rows_of_connection c.in-Err.fault bad))

pub returns-in-Err-clause-texts : goal.returns-in-Err-clause-texts
returns-in-Err-clause-texts g c = λ bad. absurd (c.in-Err.ensures.unmade.0
    (subst IsOfConnection (sym bad) tt))

pub returns-in-Err-clause-crash : goal.returns-in-Err-clause-crash
returns-in-Err-clause-crash g c = not_connected c.in-Err.left _ c.in-Err.ensures.unmade.1

pub returns-in-Err-over-clause-connected : goal.returns-in-Err-over-clause-connected
returns-in-Err-over-clause-connected g c = (λ _. tt, λ _. tt)

pub returns-in-Err-over-clause-bad : goal.returns-in-Err-over-clause-bad
returns-in-Err-over-clause-bad g c = λ bad clean db held content opened.
    let before : HasCleanDisk (file_state c.in-Ok.conn) = omega
    (arith, c.in-Err-over.ensures.refused.clean, clean) in
    let found = c.in-Ok.ensures.made.found before in
    let as_it_was : IsOpenedAs (file_state c.in-Ok.conn).committed.trees content =
    subst (λ t. IsOpenedAs t content) (sym (found.holds db held)) opened in
    elim bad [
      | inl rows ↦ c.in-Err-over.ensures.refused.rows rows clean content as_it_was
      | inr tables ↦ c.in-Err-over.ensures.refused.tables tables clean as_it_was.0 as_it_was.1
    ]

pub returns-in-Err-over-clause-rows : goal.returns-in-Err-over-clause-rows
returns-in-Err-over-clause-rows g c = λ bad clean db may.
    let before : HasCleanDisk (file_state c.in-Ok.conn) = omega
    (arith, c.in-Err-over.ensures.refused.clean, clean) in
    let found = c.in-Ok.ensures.made.found before in
    record {
      trees = (file_state c.in-Ok.conn).committed.trees;
      holds = found.holds;
      reads = found.reads;
      left = inl (c.in-Err-over.ensures.refused.kept bad clean db may);
    }

pub returns-in-Err-over-clause-texts : goal.returns-in-Err-over-clause-texts
returns-in-Err-over-clause-texts g c = λ bad clean db held.
    let before : HasCleanDisk (file_state c.in-Ok.conn) = omega
    (arith, c.in-Err-over.ensures.refused.clean, clean) in
    subst HasBadTexts ((c.in-Ok.ensures.made.found before).holds db held)
    (c.in-Err-over.ensures.refused.texts (same_cause _ _ bad) clean)

pub returns-in-Err-over-clause-crash : goal.returns-in-Err-over-clause-crash
returns-in-Err-over-clause-crash g c = λ clean db may.
    let before : HasCleanDisk (file_state c.in-Ok.conn) = omega
    (arith, c.in-Err-over.ensures.refused.clean, clean) in
    let found = c.in-Ok.ensures.made.found before in
    record {
      trees = (file_state c.in-Ok.conn).committed.trees;
      holds = found.holds;
      reads = found.reads;
      left = c.in-Err-over.ensures.refused.crash clean db may;
    }

pub returns-in-Err-clause-failed : goal.returns-in-Err-clause-failed
returns-in-Err-clause-failed g c = λ is. absurd (c.in-Err.ensures.unmade.0
    (fault_of_connection c.in-Err.fault is))

pub returns-in-Err-over-clause-failed : goal.returns-in-Err-over-clause-failed
returns-in-Err-over-clause-failed g c = λ is clean. omega
    (arith, c.in-Err-over.ensures.refused.failed is clean)

pub returns-in-Err-clause-unopened : goal.returns-in-Err-clause-unopened
returns-in-Err-clause-unopened g c = c.in-Err.ensures.unopened

pub returns-in-Err-clause-unconnected : goal.returns-in-Err-clause-unconnected
returns-in-Err-clause-unconnected g c = c.in-Err.ensures.left

pub returns-in-Err-over-clause-unopened : goal.returns-in-Err-over-clause-unopened
returns-in-Err-over-clause-unopened g c = λ none. absurd (let no = none in cc)

pub returns-in-Err-over-clause-unconnected : goal.returns-in-Err-over-clause-unconnected
returns-in-Err-over-clause-unconnected g c = tt
