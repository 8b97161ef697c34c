use Rattle.std.proofs.Common.{inl, inr, refl, []}
use Rattle.programs.proofs.Endings.{as_asked, ended_shown, failed_asked}
use Rattle.programs.specs.Left.{Closes}
use Rattle.programs.proofs.performing.show_task.Goals as goal

pub returns-in-Table-clause-done : goal.returns-in-Table-clause-done
returns-in-Table-clause-done g c = rw c.in-Table.is (ended_shown _ _ (Closes g.S.Stores) g.W.Write.contents
    c.args.writer.now c.show_asked.new.writer c.show_asked.result c.ask_tables.result [] [] _ _ _
    c.ask_tables.ensures.asked (λ s one. (refl, (s, one))) c.show_asked.ensures.done)

pub returns-in-Table-clause-failed : goal.returns-in-Table-clause-failed
returns-in-Table-clause-failed g c = rw c.in-Table.is (failed_asked
    c.args.writer.now c.show_asked.new.writer _ c.show_asked.result c.ask_tables.result _ _ _
    c.ask_tables.ensures.fault (λ why form same none. inl (form, same, none))
    (λ why f. inr (as_asked c.ask_tables.result _ _ c.ask_tables.ensures.asked f.0, f.1))
    c.show_asked.ensures.failed)

pub returns-in-Show-clause-done : goal.returns-in-Show-clause-done
returns-in-Show-clause-done g c = rw c.in-Show.is (ended_shown _ _ (Closes g.S.Stores) g.W.Write.contents
    c.args.writer.now c.show_asked-in-Show.new.writer c.show_asked-in-Show.result c.ask_shown-asked.result [] [] _ _ _
    c.ask_shown-asked.ensures.asked (λ s one. (refl, (s, one))) c.show_asked-in-Show.ensures.done)

pub returns-in-Show-clause-failed : goal.returns-in-Show-clause-failed
returns-in-Show-clause-failed g c = rw c.in-Show.is (failed_asked
    c.args.writer.now c.show_asked-in-Show.new.writer _ c.show_asked-in-Show.result c.ask_shown-asked.result _ _ _
    c.ask_shown-asked.ensures.fault (λ why form same none. inl (form, same, none))
    (λ why f. inr (as_asked c.ask_shown-asked.result _ _ c.ask_shown-asked.ensures.asked f.0, f.1))
    c.show_asked-in-Show.ensures.failed)

pub returns-in-Nodes-clause-done : goal.returns-in-Nodes-clause-done
returns-in-Nodes-clause-done g c = rw c.in-Nodes.is (ended_shown _ _ (Closes g.S.Stores) g.W.Write.contents
    c.args.writer.now c.show_asked-in-Nodes.new.writer c.show_asked-in-Nodes.result c.ask_nodes-asked.result _ _ _ _ _
    c.ask_nodes-asked.ensures.asked (λ s one. (refl, (s, one))) c.show_asked-in-Nodes.ensures.done)

pub returns-in-Nodes-clause-failed : goal.returns-in-Nodes-clause-failed
returns-in-Nodes-clause-failed g c = rw c.in-Nodes.is (failed_asked
    c.args.writer.now c.show_asked-in-Nodes.new.writer _ c.show_asked-in-Nodes.result c.ask_nodes-asked.result _ _ _
    c.ask_nodes-asked.ensures.fault (λ why form same none. inl (form, same, none))
    (λ why f. inr (as_asked c.ask_nodes-asked.result _ _ c.ask_nodes-asked.ensures.asked f.0, f.1))
    c.show_asked-in-Nodes.ensures.failed)

pub returns-in-Export-clause-done : goal.returns-in-Export-clause-done
returns-in-Export-clause-done g c = rw c.in-Export.is
    (ended_shown _ _ (Closes g.S.Stores) g.W.Write.contents
    c.args.writer.now c.show_asked-in-Export.new.writer c.show_asked-in-Export.result c.ask_published-asked.result [] [] _ _ _
    c.ask_published-asked.ensures.asked (λ s one. (refl, (s, one))) c.show_asked-in-Export.ensures.done)

pub returns-in-Export-clause-failed : goal.returns-in-Export-clause-failed
returns-in-Export-clause-failed g c = rw c.in-Export.is (failed_asked
    c.args.writer.now c.show_asked-in-Export.new.writer _ c.show_asked-in-Export.result c.ask_published-asked.result _ _ _
    c.ask_published-asked.ensures.fault (λ why form same none. inl (form, same, none))
    (λ why f. inr (as_asked c.ask_published-asked.result _ _ c.ask_published-asked.ensures.asked f.0, f.1))
    c.show_asked-in-Export.ensures.failed)
