-- What is told of a rebalance before it is done.
use Rattle.std.specs.Prelude.{◌≡◌, ℕ, List, Some}
use Rattle.builder.specs.Safety.{BookEntry, IsSameBeside}
use Rattle.builder.specs.Step.{State, Step, answer_at}
use Rattle.ring_model.specs.Ring.{RingRecord}
use Rattle.ring_model.specs.Rings.{ring_at}
use Rattle.ring_place.specs.Rebalance.{changed_seats}
use Rattle.ring_share.specs.Figures.{ring_balance, ring_dispersion}
use Rattle.ring_words.specs.declared.request.Limits.{Limits}
use Rattle.ring_words.specs.declared.command.Act.TheVariants as act
use Rattle.ring_words.specs.declared.command.Command.{Command}
use Rattle.ring_words.specs.declared.command.Deed.{Deed}
use Rattle.ring_words.specs.declared.command.Deed.TheVariants as deed
use Rattle.ring_words.specs.declared.command.Done.{Done}
use Rattle.ring_words.specs.declared.command.Foretold.{Foretold}
use Rattle.ring_words.specs.declared.command.Reply.{Reply}
use Rattle.ring_words.specs.declared.command.Reply.TheVariants as reply

-- the command that rebalances the ring of this name with this seed
abbrev pub rebalance_of : List ℕ → ℕ → Command
rebalance_of name seed = record { ring = name; act = act.Rebalance seed }

-- At the hour the rebalance of the ring of this name with this seed gives this reply and leaves these
-- rings.
abbrev pub Rebalances : Limits → State → ℕ → List ℕ → ℕ → Reply → State → Type 0
Rebalances limits rings hour name seed told left =
    Step limits rings hour (rebalance_of name seed) told left

-- Where the ring of the name is as in these rings, its rebalance at the hour with the seed gives
-- this reply and no other, and the ring that it leaves under the name is the one in those left.
-- Other rings may differ.
abbrev pub IsOnly : Limits → State → ℕ → List ℕ → ℕ → Reply → State → Type 0
IsOnly limits rings hour name seed told left = (others : State) (other : Reply) (after : State) →
    ring_at name others ≡ ring_at name rings →
    Rebalances limits others hour name seed other after →
    (other ≡ told) × (ring_at name after ≡ ring_at name left)

-- A REBALANCE THAT WAS FORETOLD

-- the command that rebalances the ring of this name as it was foretold
abbrev pub foretold_of : List ℕ → Foretold → Command
foretold_of name told = record { ring = name; act = act.RebalanceAs told }

-- what a rebalance did, told as of one that was foretold: the figures are the same
abbrev pub foretold_deed : Deed → Deed
foretold_deed (deed.Rebalance balance changed dispersion) =
    deed.RebalanceAs balance changed dispersion
foretold_deed other = other

-- the reply of a rebalance, as one that was foretold has it: version and figures are the same
abbrev pub as_foretold : Done → Done
as_foretold answer = record answer { deed = foretold_deed answer.deed }

-- At the hour the plain rebalance with the seed that was told leaves these rings too, and its reply
-- has the same version and figures. The version and the hour are those that were told.
pub record IsAsForetold (limits : Limits) (rings : State) (hour : ℕ) (name : List ℕ)
    (told : Foretold) (answer : Done) (left : State) : Type 0 where
  pub plain : Done
  pub is : Rebalances limits rings hour name told.seed (reply.Done plain) left
  pub same : answer ≡ as_foretold plain
  pub version : answer.version ≡ told.version
  pub hour_told : hour ≡ told.hour

-- what is asked of a rebalance at this hour and with this seed that is to give this ring: the version
-- is the one that the ring has
abbrev pub asked_as : ℕ → ℕ → RingRecord → Foretold
asked_as hour seed new = record { seed = seed; version = new.version; hour = hour }

-- what is answered where a rebalance that was foretold made the new ring of the old one
abbrev pub foretold_answer : RingRecord → RingRecord → Done
foretold_answer old new = answer_at new (deed.RebalanceAs (ring_balance new) (changed_seats old new)
    (ring_dispersion new))

-- An entry is a rebalance that was foretold to make the one ring of the other, and so it was done: at
-- the hour that was told, with the figures of the foretold ring, which stands under the name in the
-- rings after it, whatever texts are published of it.
pub record IsDoneAsTold (name : List ℕ) (first foretold : RingRecord) (told : Foretold)
    (entry : BookEntry) (after : State) : Type 0 where
  pub hour : entry.hour ≡ told.hour
  pub reply : entry.reply ≡ reply.Done (foretold_answer first foretold)
  pub left : RingRecord
  pub is : ring_at name after ≡ Some left
  pub same : IsSameBeside foretold left
