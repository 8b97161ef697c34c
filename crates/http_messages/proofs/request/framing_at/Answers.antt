use Rattle.std.proofs.Common.{rules}
use Rattle.http_messages.proofs.request.framing_at.Goals as goal

pub returns-clause-value : goal.returns-clause-value
returns-clause-value c = search rules

pub returns-in_default-find-2-clause-value : goal.returns-in_default-find-2-clause-value
returns-in_default-find-2-clause-value c = search rules
