use Rattle.std.proofs.Common.{None, Some, ap, arith, length, refl}
use Rattle.http_routes.proofs.LogQueries.{one_at_most}
use Rattle.http_routes.proofs.query.value_or.Goals as goal

pub returns-in-Missing-clause-found : goal.returns-in-Missing-clause-found
returns-in-Missing-clause-found c = (None, c.in-Missing.ensures, refl, refl)

pub returns-in-One-clause-found : goal.returns-in-One-clause-found
returns-in-One-clause-found c = (Some c.in-One.value.now, c.in-One.ensures, refl, refl)

pub returns-in-Several-clause-several : goal.returns-in-Several-clause-several
returns-in-Several-clause-several c = λ text is.
    absurd (omega (arith, c.in-Several.ensures, ap length is, one_at_most text))
