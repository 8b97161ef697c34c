use Rattle.std.proofs.Common.{inl, inr, refl}
use Rattle.programs.specs.Begun.{WasClosed}
use Rattle.programs.specs.Left.{Closes}
use Rattle.programs.proofs.Telling.{telling_kept}
use Rattle.programs.proofs.service.serve_programs.Goals as goal

pub returns-in-Err-clause-stopped : goal.returns-in-Err-clause-stopped
returns-in-Err-clause-stopped g c = (inl (c.in-Err.ensures.refused, c.in-Err.ensures.fault), refl)

pub returns-clause-stopped : goal.returns-clause-stopped
returns-clause-stopped g c =
    let ran = c.serve_kept-fault in
    let ended = telling_kept g.S.Kept.Keeper g.C.Clock.tells c.args.ask.now c.args.clock
    (g.S.Stores.begins c.args.ask.now.file.now) (WasClosed (Closes g.S.Stores)) c.in-Ok.keeper ran.result.1
    c.in-Ok.ensures.begins (c.close_store.result, c.close_store.ensures.ends) g.P.Door.Stream.Read.remaining
    g.P.Door.Stream.Write.contents g.P.Door.Door.gives g.P.Door.Door.fails g.P.Ports.opens
    g.P.Ports.shuts g.E.Write.contents c.args.errors.now ran.new.errors ran.result.0 ran.ensures in
    (inr ended.0, ended.1)
