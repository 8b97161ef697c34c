use Rattle.std.proofs.Common.{take, map}
use Rattle.http_routes.specs.Inner.Pairs.{IsValueFound, pair_text}
use Rattle.http_routes.specs.Queries.{values_of_pairs}
use Rattle.http_routes.proofs.query.find.Given as goal

abbrev pub invariant-loop-pair : goal.invariant-loop-pair
invariant-loop-pair l = IsValueFound l.found (values_of_pairs l.name
    (map pair_text (take l.pair-index l.pairs)))
