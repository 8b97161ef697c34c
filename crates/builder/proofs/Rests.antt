-- How long the replicas of a moved partition stay.
use Rattle.std.proofs.Common.{◌≡◌, ℕ, ◌+◌, ◌-◌, ◌*◌, ◌/◌, ◌%◌, ◌^◌, ◌<◌, ◌≤◌, ◌⊎◌, Bool, true}
use Rattle.std.proofs.Common.{false, cond, List, length, get_or, Option, Some, None, refl, sym, ap}
use Rattle.std.proofs.Common.{subst, ◌∙◌, inl, inr, ⊎_elim, arith}
use Rattle.std.specs.Prelude.{slice_get}
use Rattle.std.proofs.lemmas.Bool.{cases_eq, lt-ltb, ltb-false}
use Rattle.std.proofs.lemmas.Nat.{shr-shr, shr_below}
use Rattle.std.proofs.lemmas.Option.{slice_get_within}
use Rattle.ring_model.specs.Raise.{IsRaised}
use Rattle.ring_model.specs.Ring.{RingRecord, moved_at, partition_count}
use Rattle.ring_model.specs.Rings.{ring_at}
use Rattle.ring_words.specs.declared.request.Limits.{Limits}
use Rattle.ring_words.specs.declared.command.Command.{Command}
use Rattle.ring_words.specs.declared.command.Act.{Act}
use Rattle.ring_words.specs.declared.command.Act.TheVariants as act
use Rattle.ring_words.specs.declared.command.Done.{Done}
use Rattle.ring_words.specs.declared.command.Reply.{Reply}
use Rattle.ring_words.specs.declared.command.Reply.TheVariants as reply
use Rattle.request_book.specs.declared.entry.Entry.{Entry}
use Rattle.ring_place.specs.Rebalance.{IsAfter, IsRebalance, Leaves, has_changed, is_locked}
use Rattle.ring_place.proofs.Lawful.{lawful, unlocked_leave}
use Rattle.builder.specs.Safety.{DoNotFall, Entries, HasRebalanced, IsDone, IsWay, NeverBetween}
use Rattle.builder.specs.Safety.{RebalanceAt, origin}
use Rattle.builder.specs.Step.{Effect, RingEffect, State, Step}
use Rattle.builder.proofs.Changes.{Alike, Change, Next, PretendPassed, Raise, Rebalance, SetHours}
use Rattle.builder.proofs.RingAt.{one_ring, ring_at-with}
use Rattle.builder.proofs.Few.{done_answer, plain_step, rebalanced_by}
use Rattle.builder.proofs.Hours.{hours_next}
use Rattle.builder.proofs.Ways.{IsThere, later_hour, of_there, there_later}

-- ---- the partitions that came from one

same_origin : (first old new : RingRecord) (part : ℕ) → new.power ≡ old.power
    → origin first new part ≡ origin first old part
same_origin first old new part same = ap (λ (p : ℕ). part / 2 ^ (p - first.power)) same

below_same : (old new : RingRecord) (part : ℕ) → new.power ≡ old.power → part < partition_count new
    → part < partition_count old
below_same old new part same there = subst (λ (p : ℕ). part < 2 ^ p) same there

-- ---- moved since an hour

-- Each partition that came from this one was last moved at this hour or later.
pub record IsMovedSince (first : RingRecord) (partition hour : ℕ) (now : RingRecord) : Type 0 where
  pub power : first.power ≤ now.power
  pub moved : (part : ℕ) → part < partition_count now → origin first now part ≡ partition
      → (last : ℕ) × (moved_at now part ≡ Some last) × (hour ≤ last)

since_alike : (first old new : RingRecord) (partition hour : ℕ) → new.power ≡ old.power
    → new.moved ≡ old.moved → IsMovedSince first partition hour old
    → IsMovedSince first partition hour new
since_alike first old new partition hour same moves since = record {
  power = omega (arith, since.power);
  moved = λ part there from.
      let was =
      since.moved part (below_same old new part same there)
      (sym (same_origin first old new part same) ∙ from) in
      (was.0, ap (λ (m : List (Option ℕ)). get_or m part None) moves ∙ was.1, was.2);
}

half_of : (part : ℕ) → (part ≡ 2 * (part / 2)) ⊎ (part ≡ 2 * (part / 2) + 1)
half_of part = ⊎_elim (λ e. inl (omega arith)) (λ ne. inr (omega arith)) (cases_eq (part % 2) 0)

-- Both halves of a partition were moved when it was.
since_raised : (first old new : RingRecord) (partition hour : ℕ) → IsRaised old new
    → IsMovedSince first partition hour old → IsMovedSince first partition hour new
since_raised first old new partition hour raised since = record {
  power = omega (arith, raised.power, since.power);
  moved = λ part there from.
      let k : ℕ = old.power - first.power in
      let up = raised.power in
      let low = since.power in
      let more : 1 + k ≡ new.power - first.power = omega arith in
      let half : origin first old (part / 2) ≡ partition =
      shr-shr part 1 k ∙ ap (λ (n : ℕ). part / 2 ^ n) more ∙ from in
      let within : part / 2 < partition_count old =
      shr_below part old.power 1 (subst (λ (p : ℕ). part < 2 ^ p) up there) in
      let was = since.moved (part / 2) within half in
      let both = raised.moved (part / 2) in (
        was.0,
        ⊎_elim
            (λ e. ap (moved_at new) e ∙ both.0 ∙ was.1)
            (λ e. ap (moved_at new) e ∙ both.1 ∙ was.1)
            (half_of part),
        was.2,
      );
}

same_power : (old new : RingRecord) (hour : ℕ) → IsAfter old hour new → new.power ≡ old.power
same_power old new hour after = ap (λ (r : RingRecord). r.power) after.rest

later_move : (old new : RingRecord) (part since hour : ℕ) (b : Bool) → since ≤ hour
    → moved_at new part ≡ cond b (Some hour) (moved_at old part)
    → (last : ℕ) × (moved_at old part ≡ Some last) × (since ≤ last)
    → (last : ℕ) × (moved_at new part ≡ Some last) × (since ≤ last)
later_move old new part since hour true late moved was = (hour, moved, late)
later_move old new part since hour false late moved was = (was.0, moved ∙ was.1, was.2)

-- A rebalance keeps the hour of the last move, or puts its own in its place.
since_rebalanced : (first old new : RingRecord) (partition since hour : ℕ) → IsAfter old hour new
    → since ≤ hour → IsMovedSince first partition since old → IsMovedSince first partition since new
since_rebalanced first old new partition since hour after late held = record {
  power = (let same = same_power old new hour after in omega (arith, held.power));
  moved = λ part there from.
      let same = same_power old new hour after in
      let within = below_same old new part same there in
      later_move old new part since hour (has_changed old new part) late (after.moved part within)
      (held.moved part within (sym (same_origin first old new part same) ∙ from));
}

since_changed : (what : Act) (hour : ℕ) (first old new : RingRecord) (partition since : ℕ)
    → Change what hour old new → (what ≡ act.PretendPassed → ⊥) → since ≤ hour
    → IsMovedSince first partition since old → IsMovedSince first partition since new
since_changed what hour first old new partition since (Alike alike) never late held =
    since_alike first old new partition since alike.power alike.moved held
since_changed what hour first old new partition since (SetHours hours is set) never late held =
    since_alike first old new partition since set.power set.moved held
since_changed what hour first old new partition since (PretendPassed is same) never late held =
    absurd (never is)
since_changed what hour first old new partition since (Raise raised) never late held =
    since_raised first old new partition since raised held
since_changed what hour first old new partition since (Rebalance is) never late held =
    since_rebalanced first old new partition since hour is.after late held

since_next : (name : List ℕ) (entry : Entry Command Reply) (first : RingRecord)
    (partition since : ℕ) → (IsDone name act.PretendPassed entry → ⊥) → since ≤ entry.hour
    → (old new : RingRecord) → Next name entry old new → IsMovedSince first partition since old
    → IsMovedSince first partition since new
since_next name entry first partition since never late old new next held = ⊎_elim
    (λ same. subst (IsMovedSince first partition since) (sym same) held)
    (λ did. since_changed entry.command.act entry.hour first old new partition since did.1
    (λ is. never (record { ring = did.0.ring; is = is; done = did.0.done })) late held)
    next

-- ---- two rebalances

rebalanced : (limits : Limits) (rings after : State) (name : List ℕ)
    (e : Entry Command Reply) (old new : RingRecord) → HasRebalanced name e
    → Step limits rings e.hour e.command e.reply after → ring_at name rings ≡ Some old
    → ring_at name after ≡ Some new → IsRebalance old e.hour new
rebalanced limits rings after name e old new is step was found =
    let answer : Done = (done_answer e.reply is.done).0 in
    let at : Step limits rings e.hour (record { ring = name; act = e.command.act })
    (reply.Done answer) after =
    plain_step limits rings after name e is step in
    let it : RingRecord = at.1.0 in
    let effect : RingEffect name e.hour old e.command.act answer it =
    subst (λ o. Effect name e.hour o e.command.act answer it) was at.1.1 in
    let same : it ≡ new =
    one_ring it new (sym (ring_at-with rings name it) ∙ sym (ap (ring_at name) at.1.2) ∙ found) in
    subst (λ (r : RingRecord). IsRebalance old e.hour r) same
    (rebalanced_by e.command.act name e.hour old answer it is.is effect)

-- just after a rebalance that changed a seat
moved_now : (old new : RingRecord) (hour partition : ℕ) → IsAfter old hour new
    → has_changed old new partition ≡ true → IsMovedSince old partition hour new
moved_now old new hour partition after changed =
    let same = same_power old new hour after in
    record {
      power = omega arith;
      moved = λ part there from.
          let none : new.power - old.power ≡ 0 = omega arith in
          let one : part / 1 ≡ partition = simp none at from in
          let itself : part ≡ partition = omega arith in
          let within : partition < partition_count old =
          subst (λ (p : ℕ). p < partition_count old) itself (below_same old new part same there) in (
            hour,
            ap (moved_at new) itself ∙ rw changed at (after.moved partition within),
            omega arith,
          );
    }

unlocked_since : (first ring : RingRecord) (partition part hour at : ℕ)
    → IsMovedSince first partition hour ring → part < partition_count ring
    → origin first ring part ≡ partition → is_locked ring at part ≡ false
    → hour + ring.min_hours ≤ at
unlocked_since first ring partition part hour at held there from free =
    let was = held.moved part there from in
    let past : was.0 + ring.min_hours ≤ at = ltb-false at (was.0 + ring.min_hours)
    (rw was.1 at free) in
    omega (arith, past, was.2)

locked_since : (first ring : RingRecord) (partition part hour at : ℕ)
    → IsMovedSince first partition hour ring → part < partition_count ring
    → origin first ring part ≡ partition → at < hour + ring.min_hours
    → is_locked ring at part ≡ true
locked_since first ring partition part hour at held there from early =
    let was = held.moved part there from in
    let before : at < was.0 + ring.min_hours = omega (arith, was.2) in
    rw was.1 (lt-ltb at (was.0 + ring.min_hours) before)

-- ---- a rebalance on a way, and what is known later of the ring

module _ (limits : Limits) (old new : State) (entries : Entries) (rings : ℕ → State)
    (way : IsWay limits old entries new rings) where
  rebalanced_at : (name : List ℕ) (i : ℕ) (it : RebalanceAt entries rings name i)
      → IsRebalance it.old it.entry.hour it.new
  rebalanced_at name i it =
      rebalanced limits (rings i) (rings (i + 1)) name it.entry it.old it.new it.done
      (way.steps i it.entry it.there) it.found it.left

  -- What is known of a ring just after an entry, and what each later one keeps, is known of it
  -- further on.
  known_later : (name : List ℕ) (P : RingRecord → Type 0) (i j : ℕ) (first now : RingRecord) → i < j
      → j ≤ length entries
      → ((k : ℕ) (entry : Entry Command Reply) → i < k → k < j → slice_get entries k ≡ Some entry →
      (old new : RingRecord) → Next name entry old new → P old → P new)
      → ring_at name (rings (i + 1)) ≡ Some first → P first → ring_at name (rings j) ≡ Some now
      → P now
  known_later name P i j first now less within keeps was known is =
      let n : ℕ = j - (i + 1) in
      let at : i + 1 + n ≡ j = omega arith in
      let later : IsThere (rings (i + 1 + n)) name P =
      there_later limits old new entries rings way name P (i + 1) n (omega arith)
      (λ k entry low high there. keeps k entry (omega arith) (omega arith) there)
      (record { now = first; is = was; has = known }) in
      of_there (rings j) name P now (subst (λ (k : ℕ). IsThere (rings k) name P) at later) is

  moved_later : DoNotFall entries → (name : List ℕ) (i j : ℕ) → i < j → j ≤ length entries
      → NeverBetween entries i j name act.PretendPassed → (move : RebalanceAt entries rings name i)
      → (now : RingRecord) → ring_at name (rings j) ≡ Some now → (partition : ℕ)
      → has_changed move.old move.new partition ≡ true
      → IsMovedSince move.old partition move.entry.hour now
  moved_later rise name i j less within never move now is partition changed =
      known_later name (IsMovedSince move.old partition move.entry.hour) i j move.new now less
      within
      (λ k entry low high at. since_next name entry move.old partition move.entry.hour
      (never k entry low high at) (later_hour entries rise i k move.entry entry low move.there
      at))
      move.left (moved_now move.old move.new move.entry.hour partition
      (rebalanced_at name i move).after changed) is

  pub lock_stays : DoNotFall entries → (name : List ℕ) (i j : ℕ) → i < j → j ≤ length entries
      → NeverBetween entries i j name act.PretendPassed → (move : RebalanceAt entries rings name i)
      → (now : RingRecord) → ring_at name (rings j) ≡ Some now → (partition hour : ℕ)
      → partition < partition_count now
      → has_changed move.old move.new (origin move.old now partition) ≡ true
      → hour < move.entry.hour + now.min_hours → is_locked now hour partition ≡ true
  lock_stays rise name i j less within never move now is partition hour there changed early =
      locked_since move.old now (origin move.old now partition) partition move.entry.hour hour
      (moved_later rise name i j less within never move now is (origin move.old now partition)
      changed) there refl early

  pub rests : DoNotFall entries → (name : List ℕ) (i j : ℕ) → i < j
      → NeverBetween entries i j name act.PretendPassed → (move : RebalanceAt entries rings name i)
      (later : RebalanceAt entries rings name j) → (partition replica : ℕ)
      → has_changed move.old move.new (origin move.old later.old partition) ≡ true
      → Leaves later.old later.new partition replica
      → move.entry.hour + later.old.min_hours ≤ later.entry.hour
  rests rise name i j less never move later partition replica changed leaves =
      let end : j < length entries = slice_get_within entries j later.entry later.there in
      let held =
      moved_later rise name i j less (omega arith) never move later.old later.found
      (origin move.old later.old partition) changed in
      unlocked_since move.old later.old
      (origin move.old later.old partition) partition move.entry.hour later.entry.hour held
      leaves.0.partition_there refl
      (unlocked_leave later.old later.new later.entry.hour partition replica
      (lawful later.old later.new later.entry.hour (rebalanced_at name j later)) leaves)

  -- Where none set fewer, a ring has at least so many hours.
  hours_later : (name : List ℕ) (hours i j : ℕ) → i < j → j ≤ length entries
      → ((set : ℕ) → set < hours → NeverBetween entries i j name (act.SetHours set))
      → (first now : RingRecord) → ring_at name (rings (i + 1)) ≡ Some first
      → hours ≤ first.min_hours → ring_at name (rings j) ≡ Some now → hours ≤ now.min_hours
  hours_later name hours i j less within never first now was many is =
      known_later name (λ (ring : RingRecord). hours ≤ ring.min_hours) i j first now less within
      (λ k entry low high at. hours_next name entry hours (λ set few. never set few k entry low high
      at)) was many is

  pub rests_for : DoNotFall entries → (name : List ℕ) (hours i j : ℕ) → i < j
      → NeverBetween entries i j name act.PretendPassed
      → ((set : ℕ) → set < hours → NeverBetween entries i j name (act.SetHours set))
      → (move : RebalanceAt entries rings name i) (later : RebalanceAt entries rings name j)
      → hours ≤ move.old.min_hours → (partition replica : ℕ)
      → has_changed move.old move.new (origin move.old later.old partition) ≡ true
      → Leaves later.old later.new partition replica → move.entry.hour + hours ≤ later.entry.hour
  rests_for rise name hours i j less never fewer move later many partition replica changed leaves =
      let end : j < length entries = slice_get_within entries j later.entry later.there in
      let rest = rests rise name i j less never move later partition replica changed leaves in
      let same : move.new.min_hours ≡ move.old.min_hours =
      ap (λ (r : RingRecord). r.min_hours) (rebalanced_at name i move).after.rest in
      let enough : hours ≤ later.old.min_hours =
      hours_later name hours i j less (omega arith) fewer move.new later.old move.left
      (omega arith) later.found in
      omega arith
