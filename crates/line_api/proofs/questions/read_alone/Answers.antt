use Rattle.line_api.proofs.Asking.{nothing_alone}
use Rattle.line_api.proofs.questions.read_alone.Goals as goal

pub returns-in-Err : goal.returns-in-Err
returns-in-Err c = nothing_alone c.args.words.now c.in-Err.fault c.requires.preview
    c.requires.moves c.in-Err.ensures
