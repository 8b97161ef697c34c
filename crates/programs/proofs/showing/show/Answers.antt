use Rattle.std.proofs.Common.{◌∙◌, ap, inl, inr, refl}
use Rattle.std.proofs.lemmas.Result.{err_from_is_err_and}
use Rattle.program_stores.specs.Faults.{stream_fault}
use Rattle.programs.proofs.showing.show.Goals as goal

pub returns-clause-shown : goal.returns-clause-shown
returns-clause-shown g c = (
  c.in_ok-bytes.bytes.items,
  c.in_ok-bytes.ensures.shown,
  rw c.as_slice.ensures.value at c.in_ok-write_text.ensures.ok,
  c.in_ok-write_text.ensures.cause,
  c.in_ok-write_text.ensures.flushed,
)

pub returns-in_err-write_text-clause-fault : goal.returns-in_err-write_text-clause-fault
returns-in_err-write_text-clause-fault g c =
    let failed = c.in_err-write_text.ensures.failed in
    let p = err_from_is_err_and c.from_residual-in_err-write_text.result
    c.from_residual-in_err-write_text.ensures.1 in
    rw (p.1) (inr (inr (
      p.2 ∙ ap stream_fault failed.0,
      (
        c.in_ok-bytes.bytes.items,
        c.in_ok-bytes.ensures.shown,
        rw c.as_slice.ensures.value at failed.1,
        c.in_err-write_text.ensures.cause,
      ),
    )))

pub returns-in_err-bytes-clause-fault : goal.returns-in_err-bytes-clause-fault
returns-in_err-bytes-clause-fault g c =
    let p = err_from_is_err_and c.from_residual.result c.from_residual.ensures.1 in
    rw (p.1, p.2) (elim c.in_err-bytes.ensures.fault [
      | inl refused ↦ inl (refused.0, refused.1, refl)
      | inr nothing ↦ inr (inl (nothing, refl))
    ])
