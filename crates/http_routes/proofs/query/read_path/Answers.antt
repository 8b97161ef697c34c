use Rattle.std.proofs.Common.{arith}
use Rattle.std.proofs.lemmas.Grind.{common_steps}
use Rattle.http_routes.proofs.query.read_path.Goals as goal

pub returns-then-len-known : goal.returns-then-len-known
returns-then-len-known c = grind (arith, common_steps)

pub returns : goal.returns
returns c = grind (arith, common_steps)
