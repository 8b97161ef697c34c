use Rattle.http_routes.proofs.Told.{log_told, ring_told}
use Rattle.http_routes.proofs.Words.{of_ring}
use Rattle.http_routes.proofs.target.read_route.Goals as goal

pub read_ring_route-requires : goal.read_ring_route-requires
read_ring_route-requires c = of_ring c.args.found.endpoint c.in_default.not-Requests
    c.in_default.not-Rings c.in_default.not-Status c.in_default.not-Metrics c.in_default.not-Log
    c.in_default.not-Page

pub returns-in-Log : goal.returns-in-Log
returns-in-Log c = log_told c.args.found.endpoint c.args.found.ring.now c.args.found.version.now
    c.args.query.now c.in-Log.is c.read_log_route.result c.read_log_route.ensures

pub returns-in_default : goal.returns-in_default
returns-in_default c = ring_told c.args.found.endpoint c.args.found.ring.now
    c.args.found.version.now c.args.query.now c.read_ring_route.result c.read_ring_route.ensures

pub returns-in-Metrics : goal.returns-in-Metrics
returns-in-Metrics c = c.in-Metrics.is
