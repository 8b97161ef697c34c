use Rattle.std.proofs.Common.{rules}
use Rattle.builder.proofs.rebalancing.foretold_refusal.Goals as goal

pub returns-then-risen-told : goal.returns-then-risen-told
returns-then-risen-told c = search rules

pub returns-then-hour-told : goal.returns-then-hour-told
returns-then-hour-told c = search rules

pub returns-else-hour-told : goal.returns-else-hour-told
returns-else-hour-told c = search rules
