use Rattle.std.proofs.Common.{inl, inr, refl, subst, sym}
use Rattle.std.proofs.lemmas.Result.{IfErr-weaker}
use Rattle.programs.specs.Inner.Showing.{IsShowing}
use Rattle.programs.proofs.Endings.{as_asked, failed_asked}
use Rattle.programs.proofs.Endings.{imported_as, shown_failed}
use Rattle.programs.specs.Left.{Closes, FailsToMake, GivesNoText, GivesText, MakesStore}
use Rattle.programs.specs.Left.{RefusesToOpen}
use Rattle.programs.proofs.performing.perform_task.Goals as goal

pub returns-in-Import-clause-ended : goal.returns-in-Import-clause-ended
returns-in-Import-clause-ended g c = imported_as _ g.S.Kept.Keeper g.S.Stores.begins (Closes g.S.Stores)
    g.R.Read.remaining g.W.Write.contents c.args.reader.now c.args.reader.now c.args.writer.now
    c.import.new.writer (GivesText g.S.Stores) (GivesNoText g.S.Stores) _ _ (MakesStore g.S.Stores) _ c.import.result
    c.ask_import-asked.result c.in-Import.file c.in-Import.ring c.in-Import.caller
    c.in-Import.number c.in-Import.csv c.in-Import.hour c.in-Import.is refl
    c.ask_import-asked.ensures.asked c.import.ensures.ended

pub returns-in-Import-clause-failed : goal.returns-in-Import-clause-failed
returns-in-Import-clause-failed g c = rw c.in-Import.is (failed_asked
    c.args.writer.now c.import.new.writer _ c.import.result c.ask_import-asked.result _ _ _
    c.ask_import-asked.ensures.fault (λ why form same none. inl (form, refl, same, none))
    (λ why f. inr (refl, as_asked c.ask_import-asked.result _ _ c.ask_import-asked.ensures.asked f))
    c.import.ensures.failed)

pub returns-in-Table-clause-failed : goal.returns-in-Table-clause-failed
returns-in-Table-clause-failed g c =
    let showing : IsShowing c.args.task.now = elim c.in-Table.is [
      | inl it ↦ subst IsShowing (sym it.2) tt
      | inr rest ↦ elim rest [
        | inl it ↦ subst IsShowing (sym it.2) tt
        | inr further ↦ elim further [
          | inl it ↦ subst IsShowing (sym it.6) tt
          | inr it ↦ subst IsShowing (sym it.4) tt
        ]
      ]
    ] in
    IfErr-weaker c.show_task.result _ _ (shown_failed _ g.S.Kept.Keeper g.S.Stores.begins
    (Closes g.S.Stores) g.R.Read.remaining g.W.Write.contents c.args.reader.now c.args.writer.now
    c.show_task.new.writer (GivesText g.S.Stores) (GivesNoText g.S.Stores)
    (g.S.Stores.openings c.args.stores.now) (g.S.Stores.openings c.show_task.new.stores)
    (RefusesToOpen g.S.Stores) (FailsToMake g.S.Stores) c.args.task.now showing) c.show_task.ensures.failed
