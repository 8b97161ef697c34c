use Rattle.std.proofs.Common.{arith}
use Rattle.std.proofs.lemmas.Grind.{common_steps, elements}
use Rattle.builder.proofs.deciding.publish.Goals as goal

pub returns-then-published_list-limits : goal.returns-then-published_list-limits
returns-then-published_list-limits c = grind (arith, common_steps)

pub with_published-requires : goal.with_published-requires
with_published-requires c = grind (arith, common_steps)

pub returns : goal.returns
returns c = grind (arith, elements)
