use Rattle.std.proofs.Common.{Err, ap, subst, sym, ◌∙◌}
use Rattle.ring_model.specs.Valid.{IsValid}
use Rattle.store_rows.proofs.ring_reading.read_ring.Goals as goal

pub returns-in-Ok : goal.returns-in-Ok
returns-in-Ok c = λ ring s. c.in_ok-parts.ensures ring s ∙ sym c.in-Ok.ensures.built

pub returns-in-Err-Invalid : goal.returns-in-Err-Invalid
returns-in-Err-Invalid c = λ ring s. c.in-Err-Invalid.ensures.invalid.0
    (ap Err c.in-Err-Invalid.field-0-is)
    (subst IsValid (c.in_ok-parts.ensures ring s) s.proper.valid)
