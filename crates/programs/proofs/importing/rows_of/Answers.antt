use Rattle.std.proofs.Common.{rules}
use Rattle.std.proofs.lemmas.Result.{IfErr-weaker, IfOk-weaker}
use Rattle.programs.proofs.importing.rows_of.Goals as goal

pub returns-clause-rows : goal.returns-clause-rows
returns-clause-rows c = IfOk-weaker c.read_rows.result _ _
    (λ rows all. all c.args.text.now (search rules)) c.read_rows.ensures.rows

pub returns-clause-wrong : goal.returns-clause-wrong
returns-clause-wrong c = IfErr-weaker c.read_rows.result _ _
    (λ why wrong other. wrong other c.args.text.now (search rules)) c.read_rows.ensures.wrong
