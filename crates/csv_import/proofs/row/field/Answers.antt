use Rattle.std.proofs.Common.{Bor, ◌-◌, ◌∙◌, ap, refl, List, ℕ}
use Rattle.csv.specs.Records.{fields_of}
use Rattle.csv_import.proofs.Places.{field_or_empty}
use Rattle.csv_import.proofs.row.field.Goals as goal

pub returns : goal.returns
returns c =
    ap (λ (r : Bor (List ℕ)). r.now) c.unwrap_or.ensures
    ∙ field_or_empty (fields_of c.args.fields.now) (c.args.column - 1) c.get.result _
    c.get.ensures.value refl
