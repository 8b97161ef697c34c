use Rattle.std.proofs.Common.{arith, inl, subst, sym}
use Rattle.sqlite.specs.Files.{file_state}
use Rattle.sqlite.specs.State.{HasCleanDisk}
use Rattle.builder_store.specs.Left.{IsMadeOfConnection}
use Rattle.builder_store.specs.Opening.{AreDeclared}
use Rattle.builder_store.proofs.Rests.{failure_of_connection, judged_of_connection}
use Rattle.builder_store.proofs.Rests.{no_foreign, not_connected}
use Rattle.builder_store.proofs.over.make_at.Goals as goal

pub make_over-requires-clause-made : goal.make_over-requires-clause-made
make_over-requires-clause-made g c = c.in-Ok.ensures.made.made

pub returns-in-Ok-make_over-clause-limit : goal.returns-in-Ok-make_over-clause-limit
returns-in-Ok-make_over-clause-limit g c = c.in-Ok-make_over.ensures.begins.limit

pub returns-in-Ok-make_over-clause-faults : goal.returns-in-Ok-make_over-clause-faults
returns-in-Ok-make_over-clause-faults g c = c.in-Ok-make_over.ensures.begins.faults

pub returns-in-Ok-make_over-clause-made : goal.returns-in-Ok-make_over-clause-made
returns-in-Ok-make_over-clause-made g c = c.in-Ok-make_over.ensures.begins.made

pub returns-in-Ok-make_over-clause-nothing : goal.returns-in-Ok-make_over-clause-nothing
returns-in-Ok-make_over-clause-nothing g c = λ clean db held.
    let before : HasCleanDisk (file_state c.in-Ok.conn) = omega
    (arith, c.in-Ok-make_over.ensures.begins.clean, clean) in
    subst (AreDeclared 0) ((c.in-Ok.ensures.made.found before).holds db held)
    (c.in-Ok-make_over.ensures.begins.nothing clean)

pub returns-in-Err-clause-unjudged : goal.returns-in-Err-clause-unjudged
returns-in-Err-clause-unjudged g c = λ is. c.in-Err.ensures.unmade.0
    (judged_of_connection c.in-Err.fault is)

pub returns-in-Err-clause-connected : goal.returns-in-Err-clause-connected
returns-in-Err-clause-connected g c = (
  λ is. absurd (c.in-Err.ensures.unmade.0 is),
  λ is. absurd (c.in-Err.ensures.unmade.1 is),
)

pub returns-in-Err-clause-taken : goal.returns-in-Err-clause-taken
returns-in-Err-clause-taken g c = λ is. absurd (c.in-Err.ensures.unmade.0
    (subst IsMadeOfConnection (sym is) tt))

pub returns-in-Err-clause-stays : goal.returns-in-Err-clause-stays
returns-in-Err-clause-stays g c = λ is. absurd (c.in-Err.ensures.unmade.0
    (subst IsMadeOfConnection (sym is) tt))

pub returns-in-Err-clause-crash : goal.returns-in-Err-clause-crash
returns-in-Err-clause-crash g c = not_connected c.in-Err.left _ c.in-Err.ensures.unmade.1

pub returns-in-Err-make_over-clause-connected : goal.returns-in-Err-make_over-clause-connected
returns-in-Err-make_over-clause-connected g c = (
  λ _. tt,
  λ _. c.in-Err-make_over.ensures.refused.of_connection,
)

pub returns-in-Err-make_over-clause-unjudged : goal.returns-in-Err-make_over-clause-unjudged
returns-in-Err-make_over-clause-unjudged g c = c.in-Err-make_over.ensures.refused.unjudged

pub returns-in-Err-make_over-clause-taken : goal.returns-in-Err-make_over-clause-taken
returns-in-Err-make_over-clause-taken g c = λ is clean db held declared.
    let before : HasCleanDisk (file_state c.in-Ok.conn) = omega
    (arith, c.in-Err-make_over.ensures.refused.clean, clean) in
    c.in-Err-make_over.ensures.refused.taken is clean (subst (AreDeclared 0)
    (sym ((c.in-Ok.ensures.made.found before).holds db held)) declared)

pub returns-in-Err-make_over-clause-stays : goal.returns-in-Err-make_over-clause-stays
returns-in-Err-make_over-clause-stays g c = λ is clean db may.
    let before : HasCleanDisk (file_state c.in-Ok.conn) = omega
    (arith, c.in-Err-make_over.ensures.refused.clean, clean) in
    let found = c.in-Ok.ensures.made.found before in
    record {
      trees = (file_state c.in-Ok.conn).committed.trees;
      holds = found.holds;
      reads = found.reads;
      left = inl (c.in-Err-make_over.ensures.refused.stays is clean db may);
    }

pub returns-in-Err-make_over-clause-crash : goal.returns-in-Err-make_over-clause-crash
returns-in-Err-make_over-clause-crash g c = λ clean db may.
    let before : HasCleanDisk (file_state c.in-Ok.conn) = omega
    (arith, c.in-Err-make_over.ensures.refused.clean, clean) in
    let found = c.in-Ok.ensures.made.found before in
    record {
      trees = (file_state c.in-Ok.conn).committed.trees;
      holds = found.holds;
      reads = found.reads;
      left = c.in-Err-make_over.ensures.refused.crash clean db may;
    }

pub returns-in-Err-clause-failed : goal.returns-in-Err-clause-failed
returns-in-Err-clause-failed g c = λ is. absurd (c.in-Err.ensures.unmade.0
    (failure_of_connection c.in-Err.fault is))

pub returns-in-Err-make_over-clause-failed : goal.returns-in-Err-make_over-clause-failed
returns-in-Err-make_over-clause-failed g c = λ is clean. omega
    (arith, c.in-Err-make_over.ensures.refused.failed is clean)

pub returns-in-Err-make_over-clause-foreign : goal.returns-in-Err-make_over-clause-foreign
returns-in-Err-make_over-clause-foreign g c = no_foreign _ c.in-Err-make_over.fault
    c.in-Err-make_over.ensures.refused.of_connection

pub returns-in-Err-clause-foreign : goal.returns-in-Err-clause-foreign
returns-in-Err-clause-foreign g c = c.in-Err.ensures.foreign

pub returns-in-Err-clause-unopened : goal.returns-in-Err-clause-unopened
returns-in-Err-clause-unopened g c = c.in-Err.ensures.unopened

pub returns-in-Err-clause-untouched : goal.returns-in-Err-clause-untouched
returns-in-Err-clause-untouched g c = c.in-Err.ensures.untouched

pub returns-in-Err-clause-unconnected : goal.returns-in-Err-clause-unconnected
returns-in-Err-clause-unconnected g c = c.in-Err.ensures.left

pub returns-in-Err-make_over-clause-untouched : goal.returns-in-Err-make_over-clause-untouched
returns-in-Err-make_over-clause-untouched g c = λ none. absurd (let no = none in cc)

pub returns-in-Err-make_over-clause-unconnected : goal.returns-in-Err-make_over-clause-unconnected
returns-in-Err-make_over-clause-unconnected g c = tt
