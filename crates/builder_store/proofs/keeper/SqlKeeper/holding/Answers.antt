use Rattle.std.proofs.Common.{refl}
use Rattle.builder_store.specs.Inner.Known.{told_is}
use Rattle.builder_store.proofs.keeper.SqlKeeper.holding.Goals as goal

pub invariant_of-result : goal.invariant_of-result
invariant_of-result g c = record {
  small = c.args.limits.numbers_within;
  idle = c.requires.idle;
  tables = λ none clean. c.requires.tables clean;
  holds = λ clean. c.requires.holds clean;
  known = λ clean. c.requires.known clean;
}

pub returns : goal.returns
returns g c = record {
  same = refl;
  limit = refl;
  faults = refl;
  content = λ content clean alone. told_is _ _ _ _ content clean ∣ alone ∣₁;
}
