use Rattle.std.proofs.Common.{inl, inr, refl}
use Rattle.std.proofs.lemmas.Result.{IfErr-weaker, err_from_is_err_and, on_ok_weaker}
use Rattle.programs.proofs.founding.found_store.Goals as goal

pub returns-in_err-snapshots-clause-failed : goal.returns-in_err-snapshots-clause-failed
returns-in_err-snapshots-clause-failed g c =
    let p = err_from_is_err_and c.from_residual.result c.from_residual.ensures.1 in
    rw (p.1, p.2) (
      inl (c.in_err-snapshots.ensures.failed.0, refl),
      c.in_err-snapshots.ensures.failed.1,
    )

pub returns-in_err-need_file-clause-failed : goal.returns-in_err-need_file-clause-failed
returns-in_err-need_file-clause-failed g c =
    let returned = c.from_residual-in_err-need_file in
    let p = err_from_is_err_and returned.result returned.ensures.1 in
    rw (p.1, p.2) (inr (inl (c.in_err-need_file.ensures.missing, refl)), c.in_ok-snapshots.ensures.untold)

pub returns-clause-failed : goal.returns-clause-failed
returns-clause-failed g c = IfErr-weaker c.found_beside.result _ _
    (λ why failed. (
      inr (inr (
        _,
        record { min_hours = refl; hour = c.hour_of.ensures },
        c.deref.result.now,
        rw c.deref.ensures.value c.in_ok-snapshots.ensures.held,
        failed,
      )),
      c.in_ok-snapshots.ensures.untold,
    ))
    c.found_beside.ensures.failed

pub returns-clause-founded : goal.returns-clause-founded
returns-clause-founded g c = on_ok_weaker c.found_beside.result
    (λ beside. (
      record {
        terms = _;
        asks = record { min_hours = refl; hour = c.hour_of.ensures };
        snapshots = c.deref.result.now;
        hold = rw c.deref.ensures.value c.in_ok-snapshots.ensures.held;
        founds = beside.0;
      },
      beside.1,
      c.in_ok-need_file.ensures.there,
    ))
    c.found_beside.ensures.founded
