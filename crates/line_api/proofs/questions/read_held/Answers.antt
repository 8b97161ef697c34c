use Rattle.line_api.proofs.Asking.{nothing_held}
use Rattle.line_api.proofs.questions.read_held.Goals as goal

pub returns-in-Err : goal.returns-in-Err
returns-in-Err c = nothing_held c.args.words.now c.in-Err.fault c.requires c.in-Err.ensures
