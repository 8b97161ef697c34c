use Rattle.std.proofs.Common.{◌≡◌, ◌++◌, map}
use Rattle.form_urlencoded.specs.Parse.{raw_pairs_left}
use Rattle.http_routes.specs.Inner.Pairs.{decoded, pair_text}
use Rattle.http_routes.specs.Queries.{pairs_of}
use Rattle.http_routes.proofs.query.read_pairs.Given as goal

abbrev pub invariant-loop-name : goal.invariant-loop-name
invariant-loop-name l = map pair_text l.pairs.items ++ map decoded (raw_pairs_left l.name-iterator)
    ≡ pairs_of l.query
