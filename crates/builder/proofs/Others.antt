-- What a step leaves of the rings that its command doesn't name.
use Rattle.std.proofs.Common.{◌≡◌, ℕ, List, ap, ◌∙◌}
use Rattle.ring_model.specs.Rings.{ring_at}
use Rattle.ring_words.specs.declared.request.Limits.{Limits}
use Rattle.ring_words.specs.declared.command.Command.{Command}
use Rattle.ring_words.specs.declared.command.Reply.{Reply}
use Rattle.ring_words.specs.declared.command.Reply.TheVariants.{Done, Refused}
use Rattle.ring_model.proofs.ByName.{ring_at-with_other}
use Rattle.builder.specs.Step.{State, Step}

pub others_stay : (limits : Limits) (rings after : State) (hour : ℕ) (command : Command)
    (reply : Reply) (name : List ℕ) → Step limits rings hour command reply after →
    (name ≡ command.ring → ⊥) → ring_at name after ≡ ring_at name rings
others_stay limits rings after hour command (Refused refused) name step other =
    ap (ring_at name) step.1
others_stay limits rings after hour command (Done answer) name step other = let done = step.1 in
    ap (ring_at name) done.2 ∙ ring_at-with_other rings command.ring name done.0 other
