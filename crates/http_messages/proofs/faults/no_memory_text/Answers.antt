use Rattle.std.proofs.Common.{ap, sym, ◌∙◌}
use Rattle.http_messages.specs.Answers.{no_memory_answer}
use Rattle.http_messages.proofs.FixedAnswers as fixed
use Rattle.http_messages.proofs.faults.no_memory_text.Goals as goal

pub returns-then-is_last : goal.returns-then-is_last
returns-then-is_last c = fixed.lost_last ∙ ap no_memory_answer (sym c.if-is_last.true)

pub returns-else-is_last : goal.returns-else-is_last
returns-else-is_last c = fixed.lost ∙ ap no_memory_answer (sym c.if-is_last.false)
