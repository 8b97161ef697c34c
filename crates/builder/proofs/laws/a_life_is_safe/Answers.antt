use Rattle.builder.proofs.Lives.{led_life, safe_life}
use Rattle.builder.proofs.laws.a_life_is_safe.Goals as goal

pub returns-clause-led : goal.returns-clause-led
returns-clause-led c = led_life

pub returns-clause-safe : goal.returns-clause-safe
returns-clause-safe c = safe_life
