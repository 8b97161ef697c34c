-- A refusal keeps the rings.
use Rattle.std.proofs.Common.{◌≡◌, ℕ, true}
use Rattle.builder.specs.Step.{State, Step, is_refused}
use Rattle.ring_words.specs.declared.request.Limits.{Limits}
use Rattle.ring_words.specs.declared.command.Command.{Command}
use Rattle.ring_words.specs.declared.command.Reply.{Reply}
use Rattle.ring_words.specs.declared.command.Reply.TheVariants.{Done, Refused}

-- A refusal leaves the rings as they were.
pub refused_keeps : (limits : Limits) (old new : State) (hour : ℕ) (command : Command)
    (reply : Reply) → Step limits old hour command reply new → is_refused reply ≡ true → new ≡ old
refused_keeps limits old new hour command (Refused refused) step is = step.1
refused_keeps limits old new hour command (Done answer) step is = cc
