use Rattle.line_api.proofs.Asking.{ask_nothing}
use Rattle.line_api.proofs.questions.read_words.Goals as goal

pub returns-in-Err : goal.returns-in-Err
returns-in-Err c = ask_nothing c.args.words.now c.in-Err.fault c.in_default.not-rings
    c.in_default.not-status c.in-Err.ensures
