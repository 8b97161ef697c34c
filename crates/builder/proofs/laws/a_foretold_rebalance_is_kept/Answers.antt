use Rattle.builder.proofs.Kept.{kept_to}
use Rattle.builder.proofs.laws.a_foretold_rebalance_is_kept.Goals as goal

pub returns : goal.returns
returns c = kept_to
