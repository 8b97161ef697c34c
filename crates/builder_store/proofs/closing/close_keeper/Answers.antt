use Rattle.std.proofs.Common.{ap}
use Rattle.sqlite.specs.Held.{Held}
use Rattle.std.proofs.lemmas.Result.{IfErr-weaker, IfOk-weaker}
use Rattle.builder_store.proofs.Closes.{closed_left, files_of, unclosed}
use Rattle.builder_store.proofs.closing.close_keeper.Goals as goal

pub returns-clause-left : goal.returns-clause-left
returns-clause-left g c = IfOk-weaker c.close_files.result _ _
    (λ files. closed_left c.args.keeper c.close-conn.result files c.close-conn.ensures)
    c.close_files.ensures.copied

pub returns-clause-unclosed : goal.returns-clause-unclosed
returns-clause-unclosed g c = IfErr-weaker c.close_files.result _ _
    (λ e failed. unclosed c.args.keeper c.close-conn.result e.1 e.0 c.close-conn.ensures failed.0
    failed.1) c.close_files.ensures.err

pub returns-clause-files : goal.returns-clause-files
returns-clause-files g c = IfOk-weaker c.close_files.result _ _
    (λ files it. files_of c.args.keeper.conn.store c.close-conn.result files
    (ap (λ (h : Held _). h.store) c.close-conn.ensures) it.0 it.1 it.2) c.close_files.ensures.ok
