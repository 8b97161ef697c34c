use Rattle.std.proofs.Common.{◌∙◌, ap, inl, inr, refl}
use Rattle.std.proofs.lemmas.Result.{err_from_is_err_and}
use Rattle.program_stores.specs.Faults.{stream_fault}
use Rattle.programs.proofs.importing.import_table.Goals as goal

pub returns-in_err-write_told-clause-failed : goal.returns-in_err-write_told-clause-failed
returns-in_err-write_told-clause-failed g c =
    let failed = c.in_err-write_told.ensures.failed in
    let p = err_from_is_err_and c.from_residual-in_err-write_told.result
    c.from_residual-in_err-write_told.ensures.1 in
    rw (p.1) (inr (
      p.2 ∙ ap stream_fault failed.0,
      (c.in_ok-told.told, c.in_ok-told.ensures.told, failed.1),
    ))

pub returns-in_err-told-clause-failed : goal.returns-in_err-told-clause-failed
returns-in_err-told-clause-failed g c =
    let p = err_from_is_err_and c.from_residual.result c.from_residual.ensures.1 in
    rw (p.1, p.2) (inl (c.in_err-told.ensures.fault, refl))
