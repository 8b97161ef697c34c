use Rattle.std.proofs.lemmas.Result.{IfOk-weaker}
use Rattle.programs.proofs.founding.line_of_stop.Goals as goal

pub returns : goal.returns
returns c = IfOk-weaker c.stop_text.result _ _ (λ line is. (c.in_ok-at.at, c.in_ok-at.ensures, is))
    c.stop_text.ensures
