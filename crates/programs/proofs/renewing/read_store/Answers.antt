use Rattle.std.proofs.Common.{inl, inr}
use Rattle.std.proofs.lemmas.Result.{err_from_is_err_and}
use Rattle.programs.specs.Begun.{FailedToClose, IsClosedWhole, WasClosedAfter}
use Rattle.programs.proofs.Kept.{at_end, unclosed}
use Rattle.programs.proofs.Renewals.{read_anyhow, read_kept}
use Rattle.programs.proofs.Runs.{at_err, at_ok, at_value}
use Rattle.programs.specs.Left.{Closes}
use Rattle.programs.proofs.renewing.read_store.Goals as goal

pub returns-clause-found : goal.returns-clause-found
returns-clause-found g c = let told = c.found_in-found in
    read_kept g.S.Kept.Keeper _ (IsClosedWhole g.S.Kept.Keeper (Closes g.S.Stores))
    c.in_ok-keeper.keeper told.result.1 c.in_ok-keeper.ensures.begins (
      at_end c.close_store-closed.result (Closes g.S.Stores told.result.1) c.in_ok-closed.was
          c.close_store-closed.ensures.ends,
      at_ok told.result.0 _ _ c.in_ok-found.was told.ensures.whole,
    ) _
    (at_value told.result.0 c.in_ok-found.found _ c.in_ok-found.was told.ensures.found)

pub returns-in_err-found-clause-fault : goal.returns-in_err-found-clause-fault
returns-in_err-found-clause-fault g c =
    let told = c.found_in-found in
    let p = err_from_is_err_and c.from_residual-in_err-found.result
    c.from_residual-in_err-found.ensures.1 in
    let failed = at_err told.result.0 c.in_err-found.field-0.0 _ c.in_err-found.was told.ensures.fault
    in
    rw (p.1, p.2) (inr (inl (
      failed.0,
      failed.1,
      read_kept g.S.Kept.Keeper _ (WasClosedAfter g.S.Kept.Keeper (Closes g.S.Stores) failed.0)
          c.in_ok-keeper.keeper told.result.1 c.in_ok-keeper.ensures.begins
          ((c.close_store-closed.result, c.close_store-closed.ensures.ends), failed.2) _ failed.3,
    )))

pub returns-in_err-closed-clause-fault : goal.returns-in_err-closed-clause-fault
returns-in_err-closed-clause-fault g c =
    let told = c.found_in-found in
    let p = err_from_is_err_and c.from_residual-in_err-closed.result
    c.from_residual-in_err-closed.ensures.1 in
    rw (p.1, p.2) (inr (inr (
      at_err c.close_store-closed.result c.in_err-closed.field-0.0 _ c.in_err-closed.was
          c.close_store-closed.ensures.fault,
      read_anyhow g.S.Kept.Keeper _ (FailedToClose (Closes g.S.Stores) c.in_err-closed.field-0.0) _
          (read_kept g.S.Kept.Keeper _ (FailedToClose (Closes g.S.Stores) c.in_err-closed.field-0.0)
          c.in_ok-keeper.keeper told.result.1 c.in_ok-keeper.ensures.begins
          (unclosed c.close_store-closed.result (Closes g.S.Stores told.result.1)
          c.in_err-closed.field-0.0 c.in_err-closed.was c.close_store-closed.ensures.ends) _
          (at_value told.result.0 c.in_ok-found.found _ c.in_ok-found.was told.ensures.found)),
    )))

pub returns-in_err-keeper-clause-fault : goal.returns-in_err-keeper-clause-fault
returns-in_err-keeper-clause-fault g c =
    let p = err_from_is_err_and c.from_residual.result c.from_residual.ensures.1 in
    rw (p.1, p.2) (inl (c.in_err-keeper.ensures.refused, c.in_err-keeper.ensures.fault))
