use Rattle.http_routes.proofs.table.endpoint_of.Goals as goal

pub returns-in-Page : goal.returns-in-Page
returns-in-Page c = rw c.in-Page.is tt
