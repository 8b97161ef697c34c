use Rattle.std.proofs.Common.{arith}
use Rattle.std.proofs.lemmas.Grind.{common_steps}
use Rattle.http_routes.proofs.query.read_key.Goals as goal

pub returns-then-len-ne2 : goal.returns-then-len-ne2
returns-then-len-ne2 c = grind (arith, common_steps)

pub returns : goal.returns
returns c = grind (arith, common_steps)
