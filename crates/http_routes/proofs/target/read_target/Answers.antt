use Rattle.std.proofs.Common.{◌≡◌, ◌∙◌, sym}
use denote.Enum.Bare.{differs_false}
use Rattle.http_messages.specs.contracts.request.Method.{the_type}
use Rattle.http_routes.proofs.Told.{told}
use Rattle.http_routes.proofs.target.read_target.Goals as goal

pub returns : goal.returns
returns c =
    let same : c.args.method ≡ c.method-allowed.result =
    differs_false the_type tt c.args.method c.method-allowed.result (sym c.ne.ensures ∙ c.if-ne.false) in
    let route = rw c.split_target.ensures.path at c.in-Some.ensures in
    let read = rw c.split_target.ensures.query at c.read_route.ensures in
    told c.args.target.now c.args.method c.in-Some.found.endpoint _ _ route
    (same ∙ c.method-allowed.ensures) c.read_route.result read
