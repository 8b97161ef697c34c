use Rattle.csv_import.proofs.Spelling.{name_is_text}
use Rattle.csv_import.proofs.fields.name_of.Goals as goal

pub returns-in_default-clause-read : goal.returns-in_default-clause-read
returns-in_default-clause-read c = λ n spells. c.in_default.ensures.none (name_is_text c.args.field.now n
    spells)
