use Rattle.std.proofs.Common.{arith}
use Rattle.std.proofs.lemmas.Result.{err_from_is_err_and}
use Rattle.programs.proofs.BadTables.{bad_table, good_table, lost_table}
use Rattle.programs.specs.Left.{GivesNoText, GivesText}
use Rattle.programs.proofs.importing.read_table.Goals as goal

pub returns-in-Ok-clause-rows : goal.returns-in-Ok-clause-rows
returns-in-Ok-clause-rows g c = good_table (GivesText g.S.Stores c.args.csv.now)
    (GivesNoText g.S.Stores c.args.csv.now) c.in_ok-text.text.items _ c.in-Ok.rows.items
    c.as_slice.ensures.value (c.in_ok-text.ensures.text, omega (arith, c.in_ok-text.ensures.short))
    c.in-Ok.ensures.rows

pub returns-clause-wrong : goal.returns-clause-wrong
returns-clause-wrong g c = rw c.text_fault.ensures (bad_table
    (GivesText g.S.Stores c.args.csv.now) (GivesNoText g.S.Stores c.args.csv.now)
    c.in_ok-text.text.items _ c.in-Err.fault c.as_slice.ensures.value
    (c.in_ok-text.ensures.text, omega (arith, c.in_ok-text.ensures.short)) c.in-Err.ensures.wrong)

pub returns-in_err-text-clause-wrong : goal.returns-in_err-text-clause-wrong
returns-in_err-text-clause-wrong g c =
    let p = err_from_is_err_and c.from_residual.result
    c.from_residual.ensures.1 in
    rw (p.1, p.2) (lost_table (GivesText g.S.Stores c.args.csv.now)
    (GivesNoText g.S.Stores c.args.csv.now) c.in_err-text.field-0.0 c.in_err-text.ensures.unread
    c.in_err-text.ensures.fault)

pub returns-clause-rows : goal.returns-clause-rows
returns-clause-rows g c = tt
