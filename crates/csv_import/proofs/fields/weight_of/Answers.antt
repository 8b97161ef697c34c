use Rattle.std.proofs.Common.{rules}
use Rattle.csv_import.proofs.Spelling.{weight_is_text}
use Rattle.csv_import.proofs.fields.weight_of.Goals as goal

pub returns-in_default-clause-read : goal.returns-in_default-clause-read
returns-in_default-clause-read c = λ n spells. c.in_default.ensures.none
    (weight_is_text c.args.field.now n spells)

pub returns-clause-read : goal.returns-clause-read
returns-clause-read c = search rules
