use Rattle.std.proofs.Common.{inl, inr, rules}
use Rattle.std.proofs.lemmas.Result.{IfErr-weaker, IfOk-weaker}
use Rattle.programs.proofs.importing.tell_import.Goals as goal

pub returns-in-Ok-clause-told : goal.returns-in-Ok-clause-told
returns-in-Ok-clause-told g c = IfOk-weaker c.deliver_to_store.result _ _
    (λ t delivered. inl (
      c.in-Ok.rows.items,
      c.hour_of.result,
      c.in-Ok.ensures.rows,
      c.hour_of.ensures,
      delivered,
      c.deliver_to_store.ensures.opened,
    ))
    c.deliver_to_store.ensures.told

pub returns-in-Ok-clause-fault : goal.returns-in-Ok-clause-fault
returns-in-Ok-clause-fault g c = IfErr-weaker c.deliver_to_store.result _ _
    (λ why failed. inr (
      c.in-Ok.rows.items,
      c.hour_of.result,
      c.in-Ok.ensures.rows,
      c.hour_of.ensures,
      failed,
      c.deliver_to_store.ensures.opened,
    ))
    c.deliver_to_store.ensures.fault

pub returns-clause-told : goal.returns-clause-told
returns-clause-told g c = search rules
