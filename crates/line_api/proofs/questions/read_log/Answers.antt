use Rattle.line_api.proofs.Asking.{no_log}
use Rattle.line_api.proofs.questions.read_log.Goals as goal

pub returns-in-Ok : goal.returns-in-Ok
returns-in-Ok c = (c.args.text.now, c.requires, c.in-Ok.ensures)

pub returns-in-Err : goal.returns-in-Err
returns-in-Err c = no_log c.args.words.now c.args.text.now c.in-Err.fault c.requires c.in-Err.ensures
