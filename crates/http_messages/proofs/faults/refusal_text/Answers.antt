use Rattle.std.proofs.Common.{ap, sym, ◌∙◌}
use Rattle.http_messages.specs.Answers.{refusal_answer}
use Rattle.http_messages.proofs.FixedAnswers.{bad_head, wrong_version, bad_host, no_transfer_coding}
use Rattle.http_messages.proofs.FixedAnswers.{bad_length, too_large, length_required, unknown_method}
use Rattle.http_messages.proofs.FixedAnswers.{not_allowed}
use Rattle.http_messages.proofs.faults.refusal_text.Goals as goal

pub returns-in-BadHead : goal.returns-in-BadHead
returns-in-BadHead c = bad_head ∙ ap refusal_answer (sym c.in-BadHead.is)

pub returns-in-WrongVersion : goal.returns-in-WrongVersion
returns-in-WrongVersion c = wrong_version ∙ ap refusal_answer (sym c.in-WrongVersion.is)

pub returns-in-BadHost : goal.returns-in-BadHost
returns-in-BadHost c = bad_host ∙ ap refusal_answer (sym c.in-BadHost.is)

pub returns-in-NotAllowed : goal.returns-in-NotAllowed
returns-in-NotAllowed c = not_allowed ∙ ap refusal_answer (sym c.in-NotAllowed.is)

pub returns-in-NoTransferCoding : goal.returns-in-NoTransferCoding
returns-in-NoTransferCoding c = no_transfer_coding ∙ ap refusal_answer
    (sym c.in-NoTransferCoding.is)

pub returns-in-BadLength : goal.returns-in-BadLength
returns-in-BadLength c = bad_length ∙ ap refusal_answer (sym c.in-BadLength.is)

pub returns-in-TooLarge : goal.returns-in-TooLarge
returns-in-TooLarge c = too_large ∙ ap refusal_answer (sym c.in-TooLarge.is)

pub returns-in-LengthRequired : goal.returns-in-LengthRequired
returns-in-LengthRequired c = length_required ∙ ap refusal_answer (sym c.in-LengthRequired.is)

pub returns-in-UnknownMethod : goal.returns-in-UnknownMethod
returns-in-UnknownMethod c = unknown_method ∙ ap refusal_answer (sym c.in-UnknownMethod.is)
