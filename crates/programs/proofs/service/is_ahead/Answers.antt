use Rattle.std.proofs.Common.{rules}
use Rattle.programs.proofs.service.is_ahead.Goals as goal

pub returns-then-has_hour : goal.returns-then-has_hour
returns-then-has_hour c = search rules
