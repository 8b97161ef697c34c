use Rattle.std.proofs.Common.{ℕ, List, nat_eq, rules, tests}
use Rattle.std.specs.Cmp.Lexicographic.{pointwise}
use Rattle.std.proofs.lemmas.Iterator.{YieldsList-from_slice}
use Rattle.std.proofs.lemmas.Iterator.Search.{find_from_yields_List}
use Rattle.ring_model.proofs.rings.find_ring.Goals as goal

pub returns : goal.returns
returns c = find_from_yields_List (λ e. pointwise nat_eq e.0 c.args.name.now) _ _ c.find.result
    c.find.ensures.ran (YieldsList-from_slice c.args.rings.now cc) (λ x b q k. search (rules, tests))
