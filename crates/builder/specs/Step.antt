-- One step of the builder: what a command is replied, and what it does to the rings.
use Rattle.std.specs.Prelude.{◌≡◌, ◌+◌, ◌==◌, ◌&&◌, ℕ, Bool, true, false, not, nat_le, nat_lt}
use Rattle.ring_words.specs.Limits.{greatest_power}
use Rattle.std.specs.Prelude.{count_by, List, [], ◌∷◌, ◌++◌, length, find, Option, Some, None}
use Rattle.std.specs.Option.{option_map}
use Rattle.ring_model.specs.Import.{after_row, after_rows}
use Rattle.ring_model.specs.Publish.{is_published, with_published}
use Rattle.ring_model.specs.Raise.{IsRaised}
use Rattle.ring_model.specs.Ring.{RingRecord, changed, has_device, has_present, is_assigned}
use Rattle.ring_model.specs.Ring.{new_ring, risen, with_altered, with_device, with_hours_passed}
use Rattle.ring_model.specs.Ring.{with_min_hours}
use Rattle.ring_words.specs.Kinds.{device_deed}
use Rattle.ring_words.specs.Rows.{has_place, same_place}
use Rattle.ring_model.specs.Rings.{ring_at, with_ring}
use Rattle.ring_place.specs.Rebalance.{IsRebalance, changed_seats}
use Rattle.ring_place.specs.Seeded.{IsSeeded}
use Rattle.ring_share.specs.Figures.{ring_balance, ring_dispersion}
use Rattle.ring_share.specs.Want.{is_open}
use Rattle.ring_words.specs.declared.request.Limits.{Limits}
use Rattle.ring_words.specs.declared.command.Command.{Command}
use Rattle.ring_words.specs.declared.command.Act.{Act}
use Rattle.ring_words.specs.declared.command.Act.TheVariants as act
use Rattle.ring_words.specs.declared.command.DeviceAct.{DeviceAct}
use Rattle.ring_words.specs.declared.command.DeviceAct.TheVariants as device_act
use Rattle.ring_words.specs.declared.command.Done.{Done}
use Rattle.ring_words.specs.declared.command.Deed.{Deed}
use Rattle.ring_words.specs.declared.command.Deed.TheVariants as deed
use Rattle.ring_words.specs.declared.command.Refusal.{Refusal}
use Rattle.ring_words.specs.declared.command.Refusal.TheVariants as refusal
use Rattle.ring_words.specs.declared.command.RowCause.{RowCause}
use Rattle.ring_words.specs.declared.command.RowCause.TheVariants as row_cause
use Rattle.ring_words.specs.declared.device.Device.{Device}
use Rattle.ring_words.specs.declared.device.Row.{Row}
use Rattle.ring_words.specs.declared.command.Foretold.{Foretold}
use Rattle.ring_words.specs.declared.command.NewRing.{NewRing}
use Rattle.ring_words.specs.declared.command.Reply.{Reply}
use Rattle.ring_words.specs.declared.command.Reply.TheVariants as reply
use Rattle.ring_text.specs.Snapshot.{snapshot_of}
use Rattle.ring_text.specs.Spelling.{spelling}

-- all rings, by rising name
abbrev pub State : Type 0
State = List (List ℕ × RingRecord)

-- WHY A COMMAND IS REFUSED

-- a cause of a refusal, and whether it stands
pub record Cause : Type 0 where
  pub refused : Refusal
  pub stands : Bool

-- The cause that the mark of the device of a number may be against doing this to it: a mark is taken
-- off only where there is one, and all else is done only to a device that isn't marked.
abbrev pub of_mark : ℕ → DeviceAct → RingRecord → Cause
of_mark id device_act.Keep ring =
    record { refused = refusal.NotMarked; stands = has_present id ring.devices }
of_mark id other ring =
    record { refused = refusal.DeviceRemoved; stands = not (has_present id ring.devices) }

-- the causes that may stand against doing this to the device of a number
abbrev pub of_device : ℕ → DeviceAct → RingRecord → List Cause
of_device id what ring =
    record { refused = refusal.NoDevice; stands = not (has_device id ring.devices) }
    ∷ of_mark id what ring ∷ []

-- a cause for which a row of an import is refused, and whether it stands
pub record RowTrouble : Type 0 where
  pub cause : RowCause
  pub stands : Bool

-- the first cause that stands
abbrev pub first_trouble : List RowTrouble → Option RowCause
first_trouble troubles = option_map (λ trouble. trouble.cause) (find (λ trouble. trouble.stands)
    troubles)

-- the causes that may stand against a row's weight at a device
abbrev pub of_weight : Row → Device → List RowTrouble
of_weight row device =
    record { cause = row_cause.DeviceRemoved; stands = device.removed }
    ∷ record {
      cause = row_cause.TierDiffers;
      stands = not ((device.row.region == row.region) &&
          (device.row.zone == row.zone));
    }
    ∷ []

-- the causes that may stand against one more device
abbrev pub of_more : Limits → RingRecord → List RowTrouble
of_more limits ring =
    record {
      cause = row_cause.TooManyDevices;
      stands = nat_le limits.devices (length ring.devices);
    }
    ∷ record { cause = row_cause.IdsUsedUp; stands = nat_le limits.ids ring.next_id }
    ∷ []

-- the causes that may stand against a row, by the device of its address, port and name, if there is
-- one
abbrev pub troubles_at : Limits → RingRecord → Row → Option Device → List RowTrouble
troubles_at limits ring row (Some device) = of_weight row device
troubles_at limits ring row None = of_more limits ring

-- the first cause that stands against a row
abbrev pub row_refusal : Limits → RingRecord → Row → Option RowCause
row_refusal limits ring row = first_trouble (troubles_at limits ring row
    (find (λ device. same_place device.row row) ring.devices))

-- a cause against the n-th row, if there is one
abbrev pub of_row : ℕ → Option RowCause → List Cause
of_row n (Some cause) = record { refused = refusal.RowRefused n cause; stands = true } ∷ []
of_row n None = []

-- The causes against rows, the first of which is the n-th. Each row is put into the ring that those
-- before it leave.
abbrev pub of_rows : Limits → ℕ → RingRecord → List Row → List Cause
of_rows limits n ring [] = []
of_rows limits n ring (row ∷ rows) = of_row n (row_refusal limits ring row) ++
    of_rows limits (n + 1) (after_row ring row) rows

-- the causes that may stand against publishing a ring: a version that is published already takes no
-- more room
abbrev pub of_text : Limits → RingRecord → List Cause
of_text limits ring =
    record { refused = refusal.NotAssigned; stands = not (is_assigned ring) }
    ∷ record {
      refused = refusal.TooManyVersions;
      stands = not (is_published ring) &&
          nat_le limits.versions (length ring.published);
    }
    ∷ []

-- the causes that may stand against adding a device
abbrev pub of_addition : Limits → Row → RingRecord → List Cause
of_addition limits row ring =
    record { refused = refusal.DeviceExists; stands = has_place row ring.devices }
    ∷ record {
      refused = refusal.TooManyDevices;
      stands =
          nat_le limits.devices (length ring.devices);
    }
    ∷ record { refused = refusal.IdsUsedUp; stands = nat_le limits.ids ring.next_id }
    ∷ []

-- the cause that may stand against raising the power
abbrev pub of_power : RingRecord → List Cause
of_power ring = record { refused = refusal.PowerLimit; stands = ring.power == greatest_power } ∷ []

-- the cause that may stand against a rebalance
abbrev pub of_rebalance : RingRecord → List Cause
of_rebalance ring = record {
  refused = refusal.TooFewDevices;
  stands =
      nat_lt (count_by is_open ring.devices) ring.replicas;
} ∷ []

-- The causes that may stand at an hour against a rebalance that was foretold. What was told is the
-- version that the ring would have after it, and the hour.
abbrev pub of_foretold : ℕ → Foretold → RingRecord → List Cause
of_foretold hour told ring = of_rebalance ring ++
    record { refused = refusal.OtherVersion; stands = not (risen ring.version == told.version) }
    ∷ record { refused = refusal.OtherHour; stands = not (hour == told.hour) }
    ∷ []

-- the causes that may stand at an hour against an act on this ring, in the order in which they are
-- looked at
abbrev pub ring_causes : Limits → ℕ → RingRecord → Act → List Cause
ring_causes limits hour ring (act.Create new) =
    record { refused = refusal.RingExists; stands = true } ∷ []
ring_causes limits hour ring (act.Add row) = of_addition limits row ring
ring_causes limits hour ring (act.OnDevice id what) = of_device id what ring
ring_causes limits hour ring (act.SetHours hours) = []
ring_causes limits hour ring act.PretendPassed = []
ring_causes limits hour ring act.RaisePower = of_power ring
ring_causes limits hour ring (act.Import rows) = of_rows limits 1 ring rows
ring_causes limits hour ring (act.Rebalance seed) = of_rebalance ring
ring_causes limits hour ring (act.RebalanceAs told) = of_foretold hour told ring
ring_causes limits hour ring act.Publish = of_text limits ring

-- the causes that may stand against an act where no ring has the name: only making a ring needs
-- none
abbrev pub no_ring_causes : Limits → State → Act → List Cause
no_ring_causes limits rings (act.Create new) = record {
  refused = refusal.TooManyRings;
  stands =
      nat_le limits.rings (length rings);
} ∷ []
no_ring_causes limits rings other = record { refused = refusal.NoRing; stands = true } ∷ []

-- the causes that may stand at an hour against an act, by the ring of the name, if there is one
abbrev pub causes : Limits → State → ℕ → Option RingRecord → Act → List Cause
causes limits rings hour None = no_ring_causes limits rings
causes limits rings hour (Some ring) = ring_causes limits hour ring

-- the first cause that stands
abbrev pub first_cause : List Cause → Option Refusal
first_cause causes = option_map (λ cause. cause.refused) (find (λ cause. cause.stands) causes)

-- the first cause that stands against a command at an hour
abbrev pub first_refusal : Limits → State → ℕ → Command → Option Refusal
first_refusal limits rings hour command = first_cause (causes limits rings hour
    (ring_at command.ring rings) command.act)

-- WHAT A COMMAND DOES

-- Each effect says how a command is answered, and which ring it leaves under the name.

-- The answer where this was done and left this ring: it tells the ring's version.
abbrev pub answer_at : RingRecord → Deed → Done
answer_at new what = record { version = new.version; deed = what }

-- A ring is made.
abbrev pub MakesRing : NewRing → Done → RingRecord → Type 0
MakesRing made answer new = (new ≡ new_ring made.power made.replicas made.min_hours) ×
    (answer ≡ answer_at new deed.Create)

-- A device is added. Told is its number.
abbrev pub AddsDevice : Row → RingRecord → Done → RingRecord → Type 0
AddsDevice row old answer new = (new ≡ with_device old row) ×
    (answer ≡ answer_at new (deed.Add old.next_id))

-- This is done to the device of a number, and nothing to any other.
abbrev pub AltersDevice : ℕ → DeviceAct → RingRecord → Done → RingRecord → Type 0
AltersDevice id what old answer new = (new ≡ with_altered old id what) ×
    (answer ≡ answer_at new (device_deed what))

-- A partition that was moved stays for so many hours from now on.
abbrev pub SetsHours : ℕ → RingRecord → Done → RingRecord → Type 0
SetsHours hours old answer new = (new ≡ with_min_hours old hours) ×
    (answer ≡ answer_at new deed.SetHours)

-- Each partition is as if it never had been moved.
abbrev pub PretendsPassed : RingRecord → Done → RingRecord → Type 0
PretendsPassed old answer new = (new ≡ with_hours_passed old) ×
    (answer ≡ answer_at new deed.PretendPassed)

-- Each partition is split into two.
abbrev pub RaisesPower : RingRecord → Done → RingRecord → Type 0
RaisesPower old answer new = IsRaised old new × (answer ≡ answer_at new deed.RaisePower)

-- Told is how many of the rows took a number, and how many did not.
abbrev pub CountsRows : List Row → RingRecord → RingRecord → Deed → Type 0
CountsRows rows old new (deed.Import added reweighted) =
    (new.next_id ≡ old.next_id + added) × (added + reweighted ≡ length rows)
CountsRows rows old new other = ⊥

-- Rows are put in. Each that found no device took a number, and every other found one.
abbrev pub ImportsRows : List Row → RingRecord → Done → RingRecord → Type 0
ImportsRows rows old answer new =
    (new ≡ changed (after_rows old rows)) × (answer ≡ answer_at new answer.deed) ×
    CountsRows rows old new answer.deed

-- The rebalance of the seed. Told are how many seats differ, and the figures of the new ring.
abbrev pub MovesSeats : ℕ → ℕ → RingRecord → Done → RingRecord → Type 0
MovesSeats hour seed old answer new =
    IsRebalance old hour new × (answer ≡ answer_at new (deed.Rebalance (ring_balance new)
    (changed_seats old new) (ring_dispersion new))) × IsSeeded old hour seed new

-- The rebalance that was foretold. Told is the same.
abbrev pub MovesAsForetold : ℕ → Foretold → RingRecord → Done → RingRecord → Type 0
MovesAsForetold hour told old answer new =
    IsRebalance old hour new × (answer ≡ answer_at new (deed.RebalanceAs (ring_balance new)
    (changed_seats old new) (ring_dispersion new))) × IsSeeded old hour told.seed new

-- The text of the ring as it is, under its name, is published.
abbrev pub PublishesText : List ℕ → RingRecord → Done → RingRecord → Type 0
PublishesText name old answer new = (new ≡ with_published old (spelling (snapshot_of name old))) ×
    (answer ≡ answer_at new deed.Publish)

-- the effect of an act on this ring of this name at an hour
abbrev pub RingEffect : List ℕ → ℕ → RingRecord → Act → Done → RingRecord → Type 0
RingEffect name hour old (act.Create made) = λ answer new. ⊥
RingEffect name hour old (act.Add row) = AddsDevice row old
RingEffect name hour old (act.OnDevice id what) = AltersDevice id what old
RingEffect name hour old (act.SetHours hours) = SetsHours hours old
RingEffect name hour old act.PretendPassed = PretendsPassed old
RingEffect name hour old act.RaisePower = RaisesPower old
RingEffect name hour old (act.Import rows) = ImportsRows rows old
RingEffect name hour old (act.Rebalance seed) = MovesSeats hour seed old
RingEffect name hour old (act.RebalanceAs told) = MovesAsForetold hour told old
RingEffect name hour old act.Publish = PublishesText name old

-- the effect of an act where no ring has the name: only making a ring has one
abbrev pub NoRingEffect : Act → Done → RingRecord → Type 0
NoRingEffect (act.Create made) = MakesRing made
NoRingEffect other = λ answer new. ⊥

-- the effect of an act, by the ring of the name, if there is one
abbrev pub Effect : List ℕ → ℕ → Option RingRecord → Act → Done → RingRecord → Type 0
Effect name hour None = NoRingEffect
Effect name hour (Some old) = RingEffect name hour old

-- From these rings, a command at an hour may be given this reply, and leave those rings.
abbrev pub Step : Limits → State → ℕ → Command → Reply → State → Type 0
-- refused: the first cause that stands is answered, and the rings are as they were
Step limits rings hour command (reply.Refused refused) after =
    (first_refusal limits rings hour command ≡ Some refused) × (after ≡ rings)
-- done: no cause stands, the named ring is changed by the effect, and the other rings are as they
-- were
Step limits rings hour command (reply.Done answer) after =
    (first_refusal limits rings hour command ≡ None)
    × ((new : RingRecord) × Effect command.ring hour (ring_at command.ring rings) command.act answer
    new × (after ≡ with_ring rings command.ring new))

-- whether a reply is a refusal
abbrev pub is_refused : Reply → Bool
is_refused (reply.Refused refused) = true
is_refused (reply.Done answer) = false
