use Rattle.std.proofs.Common.{IfErr, IfOk, subst, sym}
use Rattle.command_line.specs.declared.task.Shown.{Shown}
use Rattle.programs.specs.Showing.{AsksToShow, HasNoName, IsFormFault}
use Rattle.programs.proofs.showing.ask_shown.Goals as goal

pub returns-in-Ring-clause-asked : goal.returns-in-Ring-clause-asked
returns-in-Ring-clause-asked c = subst (λ (what : Shown). IfOk c.ask_ring.result (AsksToShow what))
    (sym c.in-Ring.is) c.ask_ring.ensures.asked

pub returns-in-Ring-clause-fault : goal.returns-in-Ring-clause-fault
returns-in-Ring-clause-fault c = subst (λ (what : Shown). IfErr c.ask_ring.result
    (IsFormFault (HasNoName what) ⊥)) (sym c.in-Ring.is) c.ask_ring.ensures.fault

pub returns-in-Preview-clause-asked : goal.returns-in-Preview-clause-asked
returns-in-Preview-clause-asked c = subst
    (λ (what : Shown). IfOk c.ask_preview.result (AsksToShow what))
    (sym c.in-Preview.is) c.ask_preview.ensures.asked

pub returns-in-Preview-clause-fault : goal.returns-in-Preview-clause-fault
returns-in-Preview-clause-fault c = subst (λ (what : Shown). IfErr c.ask_preview.result
    (IsFormFault (HasNoName what) ⊥)) (sym c.in-Preview.is) c.ask_preview.ensures.fault

pub returns-in-Moves-clause-asked : goal.returns-in-Moves-clause-asked
returns-in-Moves-clause-asked c = subst (λ (what : Shown). IfOk c.ask_moves.result (AsksToShow what))
    (sym c.in-Moves.is) c.ask_moves.ensures.asked

pub returns-in-Moves-clause-fault : goal.returns-in-Moves-clause-fault
returns-in-Moves-clause-fault c = subst (λ (what : Shown). IfErr c.ask_moves.result
    (IsFormFault (HasNoName what) ⊥)) (sym c.in-Moves.is) c.ask_moves.ensures.fault
