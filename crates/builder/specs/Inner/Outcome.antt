-- What a command comes to, before the rings are put together.
use Rattle.std.specs.Prelude.{◌≡◌, ℕ, List, Some, None}
use Rattle.builder.specs.Step.{Cause, Effect, State, answer_at, causes, first_cause}
use Rattle.builder.specs.declared.deciding.Outcome.{Outcome}
use Rattle.builder.specs.declared.deciding.Outcome.TheVariants as outcome
use Rattle.ring_model.specs.Ring.{RingRecord}
use Rattle.ring_model.specs.Rings.{ring_at}
use Rattle.ring_words.specs.declared.request.Limits.{Limits}
use Rattle.ring_words.specs.declared.command.Command.{Command}
use Rattle.ring_words.specs.declared.command.Done.{Done}

-- The outcome is the first of the causes that stands, or, where none does, the effect.
abbrev pub IsFirstOr : List Cause → (Done → RingRecord → Type 0) → Outcome → Type 0
IsFirstOr causes effect (outcome.Refused refused) = first_cause causes ≡ Some refused
IsFirstOr causes effect (outcome.Done what new) =
    (first_cause causes ≡ None) × effect (answer_at new what) new

-- what a command comes to
abbrev pub IsOutcome : Limits → State → ℕ → Command → Outcome → Type 0
IsOutcome limits rings hour command =
    IsFirstOr (causes limits rings hour (ring_at command.ring rings) command.act)
    (Effect command.ring hour (ring_at command.ring rings) command.act)
