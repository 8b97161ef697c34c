use Rattle.builder.proofs.Proper.{safe_run}
use Rattle.builder.proofs.Safe.{led_run}
use Rattle.builder.proofs.laws.a_run_is_safe.Goals as goal

pub returns-clause-led : goal.returns-clause-led
returns-clause-led c = led_run

pub returns-clause-safe : goal.returns-clause-safe
returns-clause-safe c = safe_run
