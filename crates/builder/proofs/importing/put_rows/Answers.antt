use Rattle.std.proofs.Common.{◌≡◌, None, sym, arith}
use Rattle.std.proofs.lemmas.Grind.{common_steps}
use Rattle.builder.specs.Step.{row_refusal}
use Rattle.builder.proofs.Imports.{row_fits}
use Rattle.builder.proofs.importing.put_rows.Goals as goal

pub put-requires-clause-room : goal.put-requires-clause-room
put-requires-clause-room c = λ free.
    let none : row_refusal c.args.limits.now c.loop-place.draft c.index-rows-place.result ≡ None =
    sym c.in_default.ensures in
    let fits = row_fits c.args.limits.now c.loop-place.draft c.index-rows-place.result none free in
    omega (arith, fits.0, c.args.limits.now.devices_within)

pub put-requires-clause-numbers : goal.put-requires-clause-numbers
put-requires-clause-numbers c = λ free.
    let none : row_refusal c.args.limits.now c.loop-place.draft c.index-rows-place.result ≡ None =
    sym c.in_default.ensures in
    let fits = row_fits c.args.limits.now c.loop-place.draft c.index-rows-place.result none free in
    omega (arith, fits.1, c.args.limits.now.ids_within)

pub returns-in-Some-clause-refused : goal.returns-in-Some-clause-refused
returns-in-Some-clause-refused c = grind (arith, common_steps)
