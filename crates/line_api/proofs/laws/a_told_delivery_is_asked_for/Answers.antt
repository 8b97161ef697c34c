use Rattle.std.proofs.Common.{refl}
use Rattle.ring_messages.specs.Message.{message_text}
use Rattle.ring_messages.proofs.Keyed.{is_message}
use Rattle.line_api.proofs.laws.a_told_delivery_is_asked_for.Goals as goal

pub returns : goal.returns
returns c = λ entry named fits small proper text. record {
  message = message_text entry.key entry.command;
  is = refl;
  hour = small;
  reads = is_message entry.key entry.command named fits proper text;
}
