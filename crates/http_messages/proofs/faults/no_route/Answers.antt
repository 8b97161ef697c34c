use Rattle.std.proofs.Common.{ap, sym, ◌∙◌}
use Rattle.http_messages.specs.declared.faults.RouteFault.TheVariants.{NoRoute}
use Rattle.http_messages.specs.Answers.{route_fault_answer}
use Rattle.http_messages.proofs.FixedAnswers as fixed
use Rattle.http_messages.proofs.faults.no_route.Goals as goal

pub returns-then-is_last : goal.returns-then-is_last
returns-then-is_last c = fixed.no_route_last ∙ ap (route_fault_answer NoRoute)
    (sym c.if-is_last.true)

pub returns-else-is_last : goal.returns-else-is_last
returns-else-is_last c = fixed.no_route ∙ ap (route_fault_answer NoRoute) (sym c.if-is_last.false)
