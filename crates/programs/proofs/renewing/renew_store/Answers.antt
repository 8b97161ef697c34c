use Rattle.std.proofs.Common.{◌∙◌, ap, inl}
use Rattle.std.proofs.lemmas.Result.{err_from_is_err_and, on_ok_weaker}
use Rattle.byte_streams.specs.Counted.{one_more}
use Rattle.programs.proofs.Renewals.{fails_unmade, renews}
use Rattle.programs.specs.Left.{Closes, FailsToMake, RefusesToOpen}
use Rattle.programs.proofs.renewing.renew_store.Goals as goal

pub returns-clause-renewed : goal.returns-clause-renewed
returns-clause-renewed g c = on_ok_weaker c.make_store.result
    (λ made. renews _ _ _ _ _ _ c.in_ok-rings.ensures.found made) c.make_store.ensures.made

pub returns-clause-fault : goal.returns-clause-fault
returns-clause-fault g c = fails_unmade g.S.Kept.Keeper (g.S.Stores.begins c.args.file.now)
    (Closes g.S.Stores) (RefusesToOpen g.S.Stores c.args.file.now) (FailsToMake g.S.Stores c.args.new.now) _ _ _ _
    c.make_store.result (c.make_store.ensures.opened ∙ ap one_more c.in_ok-rings.ensures.opened)
    c.in_ok-rings.ensures.found c.make_store.ensures.unmade c.make_store.ensures.fault

pub returns-in_err-rings-clause-fault : goal.returns-in_err-rings-clause-fault
returns-in_err-rings-clause-fault g c =
    let p = err_from_is_err_and c.from_residual.result c.from_residual.ensures.1 in
    rw (p.1, p.2) (inl (c.in_err-rings.ensures.fault, c.in_err-rings.ensures.opened))
