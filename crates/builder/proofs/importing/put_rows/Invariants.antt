use Rattle.builder.proofs.Imports.{IsPut}
use Rattle.builder.proofs.importing.put_rows.Given as goal

abbrev pub invariant-loop-place : goal.invariant-loop-place
invariant-loop-place l = IsPut l.limits l.fn.draft l.rows l.place l.draft
