use Rattle.std.proofs.Common.{◌≡◌, ◌⊎◌, inl, inr, refl, subst, sym, ℕ}
use Rattle.programs.proofs.Telling.{fault_statuses, texts_and}
use Rattle.programs.proofs.performing.finish.Goals as goal

pub returns-in-Err : goal.returns-in-Err
returns-in-Err g c = inr (
  subst (λ (status : ℕ). (status ≡ 1) ⊎ (status ≡ 3)) (sym c.fault_status.ensures)
      (fault_statuses c.args.task.now c.in-Err.fault),
  inl (
    c.in-Err.fault,
    c.in-Err.ensures.failed.0,
    c.fault_status.ensures,
    texts_and g.E.Write.contents c.args.errors.now c.carry_out.new.errors c.tell_fault.new.errors
        c.tell_meaning.new.errors _ _ _ c.in-Err.ensures.failed.1 c.tell_fault.ensures
        c.tell_meaning.ensures,
  ),
)

pub returns-in-Ok-Refused : goal.returns-in-Ok-Refused
returns-in-Ok-Refused g c = inr (
  inl refl,
  inr (
    rw c.in-Ok-Refused.field-0-is at c.in-Ok-Refused.ensures.ended,
    c.in-Ok-Refused.ensures.untold,
    refl,
  ),
)
