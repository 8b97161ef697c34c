use Rattle.csv_import.proofs.Spelling.{number_is_text}
use Rattle.csv_import.proofs.fields.port_of.Goals as goal

pub returns-in_default-clause-read : goal.returns-in_default-clause-read
returns-in_default-clause-read c = λ n spells. c.in_default.ensures.none
    (number_is_text c.args.field.now 1 n spells)
