use Rattle.std.proofs.Common.{inr, subst}
use Rattle.std.proofs.lemmas.Result.{IfErr-weaker, IfOk-weaker}
use Rattle.ring_reads.specs.Holding.{holding_of}
use Rattle.ring_book.proofs.Holdings.{found_held}
use Rattle.programs.specs.Showing.{HidesAs, ShowsAs}
use Rattle.programs.proofs.showing.kept_bytes.Goals as goal

pub returns-clause-shown : goal.returns-clause-shown
returns-clause-shown g c =
    let hour = c.in_ok-hour.ensures in
    let load = c.in_ok-load.ensures in
    let found = found_held g.K.Keeper c.args.keeper.now _ c.load.new.self (holding_of c.held_by.result)
    c.in_ok-hour.hour c.args.clock load.sound hour.content load.content hour.limit load.limit hour.hour
    c.held_by.ensures in
    IfOk-weaker c.shown_bytes.result _ _
    (λ bytes shows sound. subst (ShowsAs c.args.names.prefix.now c.args.names.suffix.now
    c.args.question.now bytes.items) (found sound) shows)
    c.shown_bytes.ensures.shown

pub returns-clause-fault : goal.returns-clause-fault
returns-clause-fault g c =
    let hour = c.in_ok-hour.ensures in
    let load = c.in_ok-load.ensures in
    let found = found_held g.K.Keeper c.args.keeper.now _ c.load.new.self (holding_of c.held_by.result)
    c.in_ok-hour.hour c.args.clock load.sound hour.content load.content hour.limit load.limit hour.hour
    c.held_by.ensures in
    IfErr-weaker c.shown_bytes.result _ _
    (λ why hides. inr (λ sound. subst (HidesAs c.args.question.now why) (found sound) hides))
    c.shown_bytes.ensures.fault
