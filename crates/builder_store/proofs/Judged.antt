-- Which faults judge what is there.
use Rattle.std.proofs.Common.{◌≡◌, ◌⊎◌, Err, Ok, Result, inl, inr, refl, subst}
use Rattle.std.specs.Prelude.{IfErr, IsErrAnd}
use Rattle.builder_store.specs.Left.{IsOfConnection}
use Rattle.builder_store.specs.Opening.{JudgesFileRows, JudgesFiles, JudgesRows, JudgesTables}
use Rattle.builder_store.specs.declared.fault.FileFault.{FileFault}
use Rattle.builder_store.specs.declared.fault.FileFault.TheVariants as file
use Rattle.builder_store.specs.declared.fault.OpenFault.{OpenFault}
use Rattle.builder_store.specs.declared.fault.OpenFault.TheVariants.{BadRows, BadTables, BadTexts}
use Rattle.builder_store.specs.declared.fault.OpenFault.TheVariants.{Damaged, NoMemory, Refused}
use Rattle.builder_store.specs.declared.fault.OpenFault.TheVariants.{Store}

rows_judged : (why : OpenFault) → JudgesRows why → JudgesTables why
rows_judged BadRows is = tt
rows_judged BadTexts is = tt
rows_judged BadTables is = tt
rows_judged NoMemory is = is
rows_judged Store is = is
rows_judged Damaged is = is
rows_judged Refused is = is

-- a call that judges nothing judges no rows
pub no_rows : {A : Type 0} (r : Result A OpenFault) → IfErr r (λ why. JudgesTables why → ⊥)
    → IsErrAnd r JudgesRows → ⊥
no_rows (Ok x) never is = is
no_rows (Err why) never is = never (rows_judged why is)

-- and has no fault that judges
pub no_judge : {A : Type 0} (r : Result A OpenFault) (why : OpenFault) → JudgesTables why
    → IfErr r (λ why. JudgesTables why → ⊥) → r ≡ Err why → ⊥
no_judge r why judges never is =
    subst (λ (r : Result _ OpenFault). IfErr r (λ why. JudgesTables why → ⊥)) is never judges

-- the three that judge
pub judged_as : (why : OpenFault) → JudgesTables why
    → (why ≡ BadRows) ⊎ ((why ≡ BadTexts) ⊎ (why ≡ BadTables))
judged_as BadRows is = inl refl
judged_as BadTexts is = inr (inl refl)
judged_as BadTables is = inr (inr refl)
judged_as NoMemory is = absurd is
judged_as Store is = absurd is
judged_as Damaged is = absurd is
judged_as Refused is = absurd is

-- a fault that judges what files hold speaks of a connection
pub files_of_connection : (fault : FileFault) → JudgesFiles fault → IsOfConnection fault
files_of_connection (file.Opening why) is = tt
files_of_connection file.Busy is = is
files_of_connection file.CannotOpen is = is
files_of_connection file.NoMemory is = is
files_of_connection file.Store is = is
files_of_connection file.NoDatabase is = is
files_of_connection file.Damaged is = is

pub rows_of_connection : (fault : FileFault) → JudgesFileRows fault → IsOfConnection fault
rows_of_connection (file.Opening why) is = tt
rows_of_connection file.Busy is = is
rows_of_connection file.CannotOpen is = is
rows_of_connection file.NoMemory is = is
rows_of_connection file.Store is = is
rows_of_connection file.NoDatabase is = is
rows_of_connection file.Damaged is = is
