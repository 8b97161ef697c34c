use Rattle.std.proofs.Common.{inr, inl}
use Rattle.std.proofs.lemmas.Result.{err_from_is_err_and}
use Rattle.programs.specs.Begun.{FailedToClose, IsClosed}
use Rattle.programs.proofs.Kept.{imports_kept}
use Rattle.programs.specs.Left.{Closes}
use Rattle.programs.proofs.importing.deliver_to_store.Goals as goal

pub returns-clause-told : goal.returns-clause-told
returns-clause-told g c = let delivered = c.deliver_rows-told in
    imports_kept g.S.Kept.Keeper _ (IsClosed (Closes g.S.Stores)) c.in_ok-keeper.keeper
    delivered.result.1 c.in_ok-keeper.ensures.begins c.in_ok-close_store.ensures.ends c.args.ask
    c.args.rows.items c.args.hour delivered.result.0 delivered.ensures

pub returns-in_err-close_store-clause-fault : goal.returns-in_err-close_store-clause-fault
returns-in_err-close_store-clause-fault g c =
    let delivered = c.deliver_rows-told in
    let p = err_from_is_err_and c.from_residual-in_err-close_store.result
    c.from_residual-in_err-close_store.ensures.1 in
    rw (p.1, p.2) (inr (
      c.in_err-close_store.ensures.fault,
      (
        delivered.result.0,
        imports_kept g.S.Kept.Keeper _ (FailedToClose (Closes g.S.Stores) c.in_err-close_store.field-0.0)
            c.in_ok-keeper.keeper delivered.result.1 c.in_ok-keeper.ensures.begins
            c.in_err-close_store.ensures.ends c.args.ask
            c.args.rows.items c.args.hour delivered.result.0 delivered.ensures,
      ),
    ))

pub returns-in_err-keeper-clause-fault : goal.returns-in_err-keeper-clause-fault
returns-in_err-keeper-clause-fault g c =
    let p = err_from_is_err_and c.from_residual.result c.from_residual.ensures.1 in
    rw (p.1, p.2) (inl (c.in_err-keeper.ensures.refused, c.in_err-keeper.ensures.fault))
