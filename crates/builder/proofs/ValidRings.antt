-- A step keeps valid rings valid.
use Rattle.std.proofs.Common.{◌≡◌, ℕ, ◌+◌, ◌<◌, ◌^◌, Bool, true, false, cond, List, [], ◌∷◌, ◌++◌}
use Rattle.ring_words.specs.Limits.{greatest_power, long_count}
use Rattle.std.proofs.Common.{length, replicate, filter, Option, Some, None, refl, sym, ap, subst}
use Rattle.std.proofs.Common.{◌∙◌, ⊎_elim, arith, find, true≢false}
use Rattle.std.specs.Prelude.{◌==◌, All, IsTrue, is_some, nat_eq}
use Rattle.std.specs.List.{AllByRecursion}
use Rattle.std.specs.Option.{option_map}
use Rattle.std.specs.Cmp.Lexicographic.{pointwise}
use Rattle.std.proofs.lemmas.Bool.{and_cases, cond_both, eqb-false, leb-false, not-false}
use Rattle.std.proofs.lemmas.List.{length-replicate}
use Rattle.std.proofs.lemmas.List.Elements.{All-append, All-cons, All-filter, All-head, All-nil}
use Rattle.std.proofs.lemmas.List.Elements.{All-replicate, All-tail}
use Rattle.ring_messages.specs.Commands.{IsProperAct, IsProperCommand}
use Rattle.ring_model.proofs.Amidst.{among_valid}
use Rattle.ring_model.proofs.ByName.{at_most_with, by_name_with}
use Rattle.ring_model.proofs.Changes.{added_valid, altered_keeps, altered_valid, changed_valid}
use Rattle.ring_model.proofs.Changes.{proper_each, reweighed_by_keeps, reweighed_by_proper}
use Rattle.ring_model.proofs.Raising.{raised_valid}
use Rattle.ring_model.specs.Import.{after_row, after_rows, reweighed_by}
use Rattle.ring_model.specs.Publish.{among, is_published, with_published}
use Rattle.ring_model.specs.Ring.{RingRecord, added, altered, altered_at, new_ring}
use Rattle.ring_model.specs.Ring.{partition_count}
use Rattle.ring_model.specs.Rings.{is_before, ring_at, with_ring}
use Rattle.ring_model.specs.Valid.{IsHour, IsValid}
use Rattle.ring_words.specs.Rows.{IsProperRow, has_place}
use Rattle.ring_words.specs.Texts.{is_label}
use Rattle.ring_words.specs.declared.device.Device.{Device}
use Rattle.ring_words.specs.declared.device.Row.{Row}
use Rattle.ring_words.specs.declared.request.Limits.{Limits}
use Rattle.ring_words.specs.declared.command.NewRing.{NewRing}
use Rattle.ring_words.specs.declared.command.Command.{Command}
use Rattle.ring_words.specs.declared.command.Act.{Act}
use Rattle.ring_words.specs.declared.command.Act.TheVariants as act
use Rattle.ring_words.specs.declared.command.DeviceAct.{DeviceAct}
use Rattle.ring_words.specs.declared.command.DeviceAct.TheVariants as device_act
use Rattle.ring_words.specs.declared.command.Done.{Done}
use Rattle.ring_words.specs.declared.command.Reply.{Reply}
use Rattle.ring_words.specs.declared.command.Reply.TheVariants as reply
use Rattle.ring_words.specs.declared.command.RowCause.{RowCause}
use Rattle.builder.specs.Safety.{AreValid}
use Rattle.builder.specs.Step.{Cause, Effect, NoRingEffect, RingEffect, State, Step, causes}
use Rattle.builder.specs.Step.{first_cause, no_ring_causes, of_row, of_rows, ring_causes}
use Rattle.builder.specs.Step.{row_refusal}
use Rattle.builder.proofs.Imports.{row_fits}
use Rattle.builder.proofs.RebalancedValid.{rebalanced_valid}
use Rattle.builder.proofs.RingAt.{one_ring}

-- ---- where nothing is refused, no cause stands

abbrev pub AreClear : List Cause → Type 0
AreClear causes = AllByRecursion (λ cause. cause.stands ≡ false) causes

clear_first : (b : Bool) (cause : Cause) (causes : List Cause) → cause.stands ≡ b
    → option_map (λ cause. cause.refused)
    (cond b (Some cause) (find (λ cause. cause.stands) causes)) ≡ None
    → (first_cause causes ≡ None → AreClear causes)
    → AreClear (cause ∷ causes)
clear_first true cause causes is none rest = cc
clear_first false cause causes is none rest = (is, rest none)

pub none_stands : (causes : List Cause) → first_cause causes ≡ None → AreClear causes
none_stands [] none = tt
none_stands (cause ∷ causes) none = clear_first cause.stands cause causes refl none
    (none_stands causes)

-- ---- the ring after an act

made_valid : (n : NewRing) → IsProperAct (act.Create n)
    → IsValid (new_ring n.power n.replicas n.min_hours)
made_valid n proper = record {
  power = proper.0;
  replicas = proper.1.0;
  min_hours = let most = proper.1.1.0.1 in omega (arith, most);
  next_id = omega arith;
  version = omega arith;
  devices =
      record {
        count = omega arith;
        below = All-nil _;
        rise = λ k low. absurd (omega arith);
        apart =
            λ i j d less low. absurd (omega arith);
        proper = All-nil _;
      };
  seats =
      record {
        whole = λ some. absurd (omega arith);
        known = All-nil _;
        distinct =
            λ partition one other id low high at. cc;
      };
  moved = length-replicate _ _;
  hours = All-replicate IsHour _ None tt;
  published = record {
    count = omega arith;
    rise = λ k low. absurd (omega arith);
    versions = All-nil _;
  };
}

-- a device to which something is done where a test says so stays such as there is
altered_proper : (b : Bool) (id : ℕ) (what : DeviceAct) (d : Device)
    → IsProperAct (act.OnDevice id what) → IsProperRow d.row
    → IsProperRow (cond b (altered what d) d).row
altered_proper false id what d proper row = row
altered_proper true id (device_act.SetWeight weight) d proper row = record {
  region = row.region;
  zone = row.zone;
  address = row.address;
  port = row.port;
  name = row.name;
  weight = proper.1.0;
}
altered_proper true id what d proper row = row

row_valid : (limits : Limits) (ring : RingRecord) (row : Row) → row_refusal limits ring row ≡ None
    → IsProperRow row → IsValid ring → IsValid (after_row ring row)
row_valid limits ring row none proper valid =
    cond_both (has_place row ring.devices) (record ring { devices = _ }) (added ring row) IsValid
    (λ known. altered_valid (reweighed_by row) (reweighed_by_keeps row) ring valid
    (reweighed_by_proper row proper ring valid))
    (λ new. (let fits = row_fits limits ring row none new in
    added_valid ring row valid (omega (arith, fits.0, limits.devices_within))
    (omega (arith, fits.1, limits.ids_within)) new proper))

clear_row : (n : ℕ) (refused : Option RowCause) (rest : List Cause)
    → AreClear (of_row n refused ++ rest) → (refused ≡ None) × AreClear rest
clear_row n None rest clear = (refl, clear)
clear_row n (Some cause) rest clear = absurd (true≢false clear.0)

rows_valid : (limits : Limits) (n : ℕ) (ring : RingRecord) (rows : List Row)
    → AreClear (of_rows limits n ring rows) → AllByRecursion IsProperRow rows → IsValid ring
    → IsValid (after_rows ring rows)
rows_valid limits n ring [] clear proper valid = valid
rows_valid limits n ring (row ∷ rows) clear proper valid =
    let first =
    clear_row n (row_refusal limits ring row) (of_rows limits (n + 1) (after_row ring row) rows)
    clear in
    rows_valid limits (n + 1) (after_row ring row) rows first.1 proper.1
    (row_valid limits ring row first.0 proper.0 valid)

hours_valid : (ring : RingRecord) (hours : ℕ) → hours < 2 ^ 16 → IsValid ring
    → IsValid (record ring { min_hours = hours })
hours_valid ring hours small valid = record {
  power = valid.power;
  replicas = valid.replicas;
  min_hours = omega arith;
  next_id = valid.next_id;
  version = valid.version;
  devices = valid.devices;
  seats = valid.seats;
  moved = valid.moved;
  hours = valid.hours;
  published = valid.published;
}

passed_valid : (ring : RingRecord) → IsValid ring
    → IsValid (record ring { moved = replicate (partition_count ring) None })
passed_valid ring valid = record {
  power = valid.power;
  replicas = valid.replicas;
  min_hours = valid.min_hours;
  next_id = valid.next_id;
  version = valid.version;
  devices = valid.devices;
  seats = valid.seats;
  moved = length-replicate _ _;
  hours = All-replicate IsHour _ None tt;
  published = valid.published;
}

published_valid : (limits : Limits) (ring : RingRecord) (text : List ℕ)
    → (is_published ring ≡ false → length ring.published < limits.versions) → IsValid ring
    → IsValid (with_published ring text)
published_valid limits ring text room valid =
    cond_both (is_published ring) ring
    (record ring { published = among ring.version text ring.published }) IsValid
    (λ known. valid)
    (λ new. among_valid ring text valid (let low = room new in
    omega (arith, limits.versions_within)))

new_valid : (a : Act) (answer : Done) (limits : Limits) (name : List ℕ) (old new : RingRecord)
    (hour : ℕ) → hour < long_count → AreClear (ring_causes limits hour old a) → IsProperAct a
    → IsValid old
    → RingEffect name hour old a answer new → IsValid new
new_valid (act.Add row) answer limits name old new hour small clear proper valid effect =
    subst IsValid (sym effect.0) (changed_valid (added old row) (added_valid old row valid
    (let room = leb-false limits.devices (length old.devices) clear.1.0 in
    omega (arith, limits.devices_within))
    (let room = leb-false limits.ids old.next_id clear.1.1.0 in omega (arith, limits.ids_within))
    clear.0 (record {
      region = let most = proper.0.1 in omega (arith, most);
      zone = let most = proper.1.0.1 in omega (arith, most);
      address = proper.1.1.0;
      port = (proper.1.1.1.0.0, let most = proper.1.1.1.0.1 in omega (arith, most));
      name = proper.1.1.1.1.0;
      weight = proper.1.1.1.1.1.0;
    })))
new_valid (act.OnDevice id what) answer limits name old new hour small clear proper valid effect =
    subst IsValid (sym effect.0)
    (changed_valid _ (altered_valid (altered_at id what) (altered_keeps id what) old valid
    (proper_each (altered_at id what) (λ d row. altered_proper (d.id == id) id what d proper row)
    old.devices valid.devices.proper)))
new_valid (act.SetHours hours) answer limits name old new hour small clear proper valid effect =
    let most = proper.0.1 in
    subst IsValid (sym effect.0) (changed_valid _ (hours_valid old hours (omega (arith, most))
    valid))
new_valid act.PretendPassed answer limits name old new hour small clear proper valid effect =
    subst IsValid (sym effect.0) (changed_valid _ (passed_valid old valid))
new_valid act.RaisePower answer limits name old new hour small clear proper valid effect =
    let below : old.power ≡ greatest_power → ⊥ = eqb-false old.power greatest_power clear.0 in
    raised_valid old new valid effect.0 (let up = effect.0.power in let most = valid.power.1 in
    omega arith)
new_valid (act.Import rows) answer limits name old new hour small clear
    proper valid effect =
    subst IsValid (sym effect.0) (changed_valid _ (rows_valid limits 1 old rows clear proper.0
    valid))
new_valid (act.Rebalance seed) answer limits name old new hour small clear proper valid effect =
    rebalanced_valid old new hour small valid effect.0
new_valid (act.RebalanceAs told) answer limits name old new hour small clear proper valid effect =
    rebalanced_valid old new hour small valid effect.0
new_valid act.Publish answer limits name old new hour small clear proper valid effect =
    subst IsValid (sym effect.0) (published_valid limits old _
    (λ unpublished. ⊎_elim (λ published. absurd
    (true≢false (sym (not-false _ published) ∙ unpublished))) (λ room. leb-false limits.versions
    (length old.published) room) (and_cases _ _ clear.1.0))
    valid)
new_valid a answer limits name old new hour small clear proper valid effect = absurd effect

-- ---- the rings after a step

found_if : (b : Bool) (first : List ℕ × RingRecord) (rest : Option (List ℕ × RingRecord))
    (ring : RingRecord) → option_map (λ e. e.1) (cond b (Some first) rest) ≡ Some ring
    → IsValid first.1 → (option_map (λ e. e.1) rest ≡ Some ring → IsValid ring) → IsValid ring
found_if true first rest ring found valid others = subst IsValid (one_ring first.1 ring found) valid
found_if false first rest ring found valid others = others found

pub valid_at : (rings : State) (name : List ℕ) (ring : RingRecord)
    → All (λ named. IsValid named.1) rings → ring_at name rings ≡ Some ring → IsValid ring
valid_at [] name ring valid found = cc
valid_at (first ∷ rest) name ring valid found =
    found_if (pointwise nat_eq first.0 name) first (find (λ e. pointwise nat_eq e.0 name) rest) ring
    found
    (All-head (λ named. IsValid named.1) first rest valid)
    (valid_at rest name ring (All-tail (λ named. IsValid named.1) first rest valid))

pub put_among : (P : List ℕ × RingRecord → Type 0) (rings : State) (name : List ℕ) (ring : RingRecord)
    → All P rings → P (name, ring) → All P (with_ring rings name ring)
put_among P rings name ring all here =
    All-append P (filter (λ e. is_before e.0 name) rings)
    ((name, ring) ∷ filter (λ e. is_before name e.0) rings)
    (All-filter (λ e. is_before e.0 name) P rings all)
    (All-cons P (name, ring) (filter (λ e. is_before name e.0) rings) here
    (All-filter (λ e. is_before name e.0) P rings all))

put_valid : (rings : State) (name : List ℕ) (ring : RingRecord) → AreValid rings
    → IsTrue (is_label name) → IsValid ring
    → (is_some (ring_at name rings) ≡ false → length rings < 16)
    → AreValid (with_ring rings name ring)
put_valid rings name ring valid label new room = record {
  count = at_most_with rings name ring 16 valid.count room;
  by_name = by_name_with rings name ring valid.by_name;
  named = put_among (λ named. IsTrue (is_label named.0)) rings name ring valid.named label;
  each = put_among (λ named. IsValid named.1) rings name ring valid.each new;
}

-- A ring that was made where there was none, or that was changed, is valid, and there is room for
-- it.
record IsNewValid (rings : State) (name : List ℕ) (new : RingRecord) : Type 0 where
  ring : IsValid new
  room : is_some (ring_at name rings) ≡ false → length rings < 16

first_valid : (a : Act) (answer : Done) (limits : Limits) (rings : State) (name : List ℕ)
    (new : RingRecord) → AreClear (no_ring_causes limits rings a) → IsProperAct a →
    NoRingEffect a answer new
    → IsNewValid rings name new
first_valid (act.Create made) answer limits rings name new clear proper effect = record {
  ring = subst IsValid (sym effect.0) (made_valid made proper);
  room =
      λ none. (let few = leb-false limits.rings (length rings) clear.0 in
      omega (arith, limits.rings_within));
}
first_valid a answer limits rings name new clear proper effect = absurd effect

by_found : (found : Option RingRecord) (a : Act) (answer : Done) (limits : Limits) (rings : State)
    (name : List ℕ) (new : RingRecord) (hour : ℕ) → hour < long_count → ring_at name rings ≡ found
    → AreClear (causes limits rings hour found a) → IsProperAct a → AreValid rings
    → Effect name hour found a answer new → IsNewValid rings name new
by_found None a answer limits rings name new hour small is clear proper valid effect =
    first_valid a answer limits rings name new clear proper effect
by_found (Some old) a answer limits rings name new hour small is clear proper valid effect = record {
  ring = new_valid a answer limits name old new hour small clear proper (valid_at rings name old
      valid.each is) effect;
  room = λ none. absurd (true≢false (sym (ap is_some is) ∙ none));
}

pub stay_valid : (limits : Limits) (rings after : State) (hour : ℕ) (command : Command) (r : Reply)
    → hour < long_count → Step limits rings hour command r after → IsProperCommand command
    → AreValid rings → AreValid after
stay_valid limits rings after hour command (reply.Refused refused) small step proper valid =
    subst AreValid (sym step.1) valid
stay_valid limits rings after hour command (reply.Done answer) small step proper valid =
    let new : RingRecord = step.1.0 in
    let clear =
    none_stands (causes limits rings hour (ring_at command.ring rings) command.act) step.0 in
    let is =
    by_found (ring_at command.ring rings) command.act answer limits rings command.ring new hour small refl
    clear proper.act valid step.1.1 in
    subst AreValid (sym step.1.2) (put_valid rings command.ring new valid proper.ring is.ring
    is.room)
