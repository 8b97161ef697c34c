use Rattle.http_routes.proofs.Pairs.{read_more, read_all}
use Rattle.http_routes.proofs.query.read_pairs.Goals as goal

pub loop-name-preserved : goal.loop-name-preserved
loop-name-preserved c =
    rw c.in_ok-push.ensures.items (read_more _ _ _ _ _ _ c.loop-name.invariant
    c.in-Some.ensures.steps c.in_ok-read_pair.ensures)

pub returns : goal.returns
returns c = read_all _ _ _ c.loop-name.invariant c.in-None.ensures.steps.0
