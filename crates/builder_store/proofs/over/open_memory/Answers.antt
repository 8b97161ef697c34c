use Rattle.std.proofs.Common.{arith, inl, inr, subst}
use Rattle.sqlite.specs.Held.{state}
use Rattle.sqlite.specs.Steps.{over_memory}
use Rattle.sqlite_rules.specs.Lists.{Has}
use Rattle.sqlite_schema.specs.declared.schema.Schema.{Schema}
use Rattle.builder_store.specs.Doubt.{undoubted}
use Rattle.builder_store.specs.Keepers.{content_of_keeper}
use Rattle.builder_store.specs.Opening.{nothing}
use Rattle.builder_store.proofs.Judged.{judged_as}
use Rattle.builder_store.proofs.Nothing.{empty_declared, empty_opens, empty_texts, opened_empty}
use Rattle.builder_store.proofs.over.open_memory.Goals as goal

pub over-requires : goal.over-requires
over-requires c =
    let e = c.in-Ok.ensures.empty in
    record {
      mode = e.0.autocommit;
      fresh = λ _. record {
        is_open = e.0.is_open;
        live = e.1;
        ordered = λ t h. absurd (subst (λ (s : Schema). Has s.tables t) e.2 h);
        committed = e.0.clean;
      };
    }

pub returns-in-Ok-over-clause-limit : goal.returns-in-Ok-over-clause-limit
returns-in-Ok-over-clause-limit c = c.in-Ok-over.ensures.begins.limit

pub returns-in-Ok-over-clause-faults : goal.returns-in-Ok-over-clause-faults
returns-in-Ok-over-clause-faults c = c.in-Ok-over.ensures.begins.faults

pub returns-in-Ok-over-clause-found : goal.returns-in-Ok-over-clause-found
returns-in-Ok-over-clause-found c = λ clean.
    opened_empty (state over_memory c.in-Ok.conn) c.in-Ok.ensures.empty
    (content_of_keeper c.in-Ok-over.keeper) (c.in-Ok-over.ensures.begins.found clean)

pub returns-clause-good : goal.returns-clause-good
returns-clause-good c = λ bad.
    let s = state over_memory c.in-Ok.conn in
    let e = c.in-Ok.ensures.empty in
    let refused = c.in-Err.ensures.refused in
    elim (judged_as c.in-Err.fault bad) [
      | inl is ↦ refused.rows is undoubted nothing (empty_opens s e c.nothing_is_holdable.ensures)
      | inr more ↦ elim more [
        | inl is ↦ empty_texts s e (refused.texts is undoubted)
        | inr is ↦ refused.tables is undoubted 0 (empty_declared s e)
      ]
    ]

pub returns-clause-unfailed : goal.returns-clause-unfailed
returns-clause-unfailed c = λ is. absurd (omega
    (arith, c.in-Err.ensures.refused.failed is undoubted))
