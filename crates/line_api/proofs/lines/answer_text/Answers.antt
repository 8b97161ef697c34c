use Rattle.std.proofs.Common.{rules}
use Rattle.line_api.proofs.lines.answer_text.Goals as goal

pub returns : goal.returns
returns c = search rules
