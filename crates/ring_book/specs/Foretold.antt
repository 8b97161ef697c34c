-- What the preview of a rebalance foretells.
use Rattle.std.specs.Prelude.{◌≡◌, ◌+◌, ◌<◌, ◌≤◌, ℕ, List, Some, slice_get}
use Rattle.builder.specs.Preview.{IsDoneAsTold, asked_as, foretold_answer, foretold_of}
use Rattle.builder.specs.Safety.{BookEntry, Entries, IsDone, IsWay}
use Rattle.builder.specs.Step.{MovesSeats, State, Step}
use Rattle.ring_model.specs.Ring.{RingRecord}
use Rattle.ring_model.specs.Rings.{ring_at}
use Rattle.ring_reads.specs.Preview.{TellsMoves}
use Rattle.ring_words.specs.Limits.{greatest_long}
use Rattle.ring_words.specs.declared.command.Act.TheVariants as act
use Rattle.ring_words.specs.declared.command.Done.{Done}
use Rattle.ring_words.specs.declared.command.Reply.{Reply}
use Rattle.ring_words.specs.declared.command.Reply.TheVariants as reply
use Rattle.ring_words.specs.declared.request.Limits.{Limits}

-- The text tells of the ring that a rebalance of the ring of a name at an hour with a seed leaves,
-- and the answer is that of this rebalance: balance, dispersion, version and changed seats of both
-- are those of the same new ring.
pub record IsForetold (name : List ℕ) (hour seed : ℕ) (rings : State) (text : List ℕ) (answer : Done)
    (after : State) : Type 0 where
  pub old : RingRecord
  pub new : RingRecord
  pub was : ring_at name rings ≡ Some old
  pub is : ring_at name after ≡ Some new
  pub moves : MovesSeats hour seed old answer new
  pub told : TellsMoves name hour seed old new text

-- The text of a preview of the ring of a name in these rings foretells the reply, and the ring that
-- it leaves under the name. A refusal has no such text.
abbrev pub Foretells : List ℕ → ℕ → ℕ → State → List ℕ → Reply → State → Type 0
Foretells name hour seed rings text (reply.Refused refused) after = ⊥
Foretells name hour seed rings text (reply.Done answer) after =
    IsForetold name hour seed rings text answer after

-- The text of a preview of the ring of a name in these rings binds each rebalance that asks for what
-- it tells: the hour, the seed, and the version of the new ring.
pub record Binds (limits : Limits) (name : List ℕ) (hour seed : ℕ) (held : State) (text : List ℕ) :
    Type 0 where
  pub old : RingRecord
  pub new : RingRecord
  pub was : ring_at name held ≡ Some old
  pub told : TellsMoves name hour seed old new text
  -- At that hour it is done as long as the ring is as it was: it leaves the new ring, and its reply
  -- has the figures of which the text tells.
  pub done : (rings after : State) (answer : Reply) → ring_at name rings ≡ Some old →
      Step limits rings hour (foretold_of name (asked_as hour seed new)) answer after →
      (answer ≡ reply.Done (foretold_answer old new)) × (ring_at name after ≡ Some new)
  -- It is done at no other hour, and only where the ring gets the version of the new ring by it.
  pub only : (rings after : State) (at : ℕ) (answer : Done) →
      Step limits rings at (foretold_of name (asked_as hour seed new)) (reply.Done answer) after →
      (at ≡ hour) × (answer.version ≡ new.version)
  -- So, where it is done in a run behind a place where the ring was the old one, it is done as the
  -- text tells, whatever came in between: only texts may have been published.
  pub kept : (begin end : State) (entries : Entries) (rings : ℕ → State) →
      IsWay limits begin entries end rings →
      (i j : ℕ) (entry : BookEntry) → i ≤ j → slice_get entries j ≡ Some entry →
      ring_at name (rings i) ≡ Some old → new.version < greatest_long →
      IsDone name (act.RebalanceAs (asked_as hour seed new)) entry →
      IsDoneAsTold name old new (asked_as hour seed new) entry (rings (j + 1))
