use Rattle.std.proofs.Common.{◌∙◌, Err, ap, arith, inl, inr, refl, rules, subst, sym}
use Rattle.std.proofs.Math.Logic.{∥∥₁_map}
use Rattle.sqlite.specs.Held.{state}
use Rattle.sqlite.specs.State.{HasCleanDisk}
use Rattle.builder_store.specs.Keepers.{content_of_keeper}
use Rattle.builder_store.specs.Opening.{Stands}
use Rattle.builder_store.specs.Standing.{Holds, StandsAlone}
use Rattle.std.specs.Prelude.{◌+◌}
use Rattle.builder_store.specs.Inner.Bound.{BoundsIn}
use Rattle.builder_store.specs.Inner.Known.{told_same, whole_trees}
use Rattle.builder_store.specs.Inner.Leaves.{after_call, leaves_one, open_leaves}
use Rattle.builder_store.proofs.Bounding.{bounds_known}
use Rattle.builder_store.proofs.Keeping.{bounded_now, counted_now, gains_now, gains_told, kept_trees}
use Rattle.builder_store.proofs.Keeping.{lost_trees, never, not_failed, one_more}
use Rattle.builder_store.proofs.Keeping.{only_memory, stands_now}
use Rattle.builder_store.proofs.keeper.SqlKeeperKeeperRingMachine.commit.Goals as goal

pub keep-requires-clause-mode : goal.keep-requires-clause-mode
keep-requires-clause-mode g c = c.args.self.now.idle

pub keep-requires-clause-tables : goal.keep-requires-clause-tables
keep-requires-clause-tables g c = c.args.self.now.tables c.requires.faults

pub keep-requires-clause-small : goal.keep-requires-clause-small
keep-requires-clause-small g c = c.args.self.now.small

pub same-state : goal.same-state
same-state g c = refl

pub overflow_add-self : goal.overflow_add-self
overflow_add-self g c = let small = c.args.self.now.small in let room = c.in-Ok.ensures.room in
    omega (arith, small, room)

pub overflow_add-self-in-Err-Store : goal.overflow_add-self-in-Err-Store
overflow_add-self-in-Err-Store g c = let none = c.requires.faults in omega (arith, none)

pub invariant_of-self : goal.invariant_of-self
invariant_of-self g c =
    let k = c.args.self.now in
    let old = state g.S.Store k.conn in
    let new = state g.S.Store c.keep.new.conn in
    record {
      small = k.small;
      idle = c.keep.ensures.mode;
      tables = λ none clean. c.keep.ensures.tables clean (not_failed c.in-Ok.is);
      holds = λ clean.
          let was : HasCleanDisk old = omega (arith, c.keep.ensures.survives.clean, clean) in
          let made = gains_now k c.requires.faults was (c.requires.room was)
          (c.requires.unknown was) (c.requires.hour was) (c.requires.step was)
          (c.in-Ok.ensures.done clean) in
          subst (λ db. Holds db c.args.state (k.count + 1) c.args.hour) (sym
          (whole_trees g.S.Store k.faults c.of.result.value c.keep.new.conn c.requires.faults))
          (∥∥₁_map made (λ h. (
            _,
            h,
            refl,
            one_more (content_of_keeper k).book _ k.count (counted_now k was),
            refl,
          )));
      known = λ clean.
          let was : HasCleanDisk old = omega (arith, c.keep.ensures.survives.clean, clean) in
          let made = gains_now k c.requires.faults was (c.requires.room was)
          (c.requires.unknown was) (c.requires.hour was) (c.requires.step was)
          (c.in-Ok.ensures.done clean) in
          subst (BoundsIn c.keep.new.callers) (sym
          (whole_trees g.S.Store k.faults c.of.result.value c.keep.new.conn c.requires.faults))
          (bounds_known new.committed.trees _ c.keep.new.callers made (c.in-Ok.ensures.noted
          (content_of_keeper k).book (bounded_now k c.requires.faults was)));
    }

pub returns-in-Ok-clause-commits : goal.returns-in-Ok-clause-commits
returns-in-Ok-clause-commits g c = λ clean.
    let k = c.args.self.now in
    let old = state g.S.Store k.conn in
    let was : HasCleanDisk old = omega (arith, c.keep.ensures.survives.clean, clean) in
    let made = gains_now k c.requires.faults was (c.requires.room was)
    (c.requires.unknown was) (c.requires.hour was) (c.requires.step was)
    (c.in-Ok.ensures.done clean) in
    gains_told _ _ _ _ _ (content_of_keeper k) _ c.args.state (whole_trees g.S.Store k.faults
    c.of.result.value c.keep.new.conn c.requires.faults) clean made

pub returns-in-Ok-clause-left : goal.returns-in-Ok-clause-left
returns-in-Ok-clause-left g c = λ clean.
    let k = c.args.self.now in
    let old = state g.S.Store k.conn in
    let new = state g.S.Store c.keep.new.conn in
    let was : HasCleanDisk old = omega (arith, c.keep.ensures.survives.clean, clean) in
    let made = gains_now k c.requires.faults was (c.requires.room was)
    (c.requires.unknown was) (c.requires.hour was) (c.requires.step was)
    (c.in-Ok.ensures.done clean) in
    let has = c.keep.ensures.tables clean (not_failed c.in-Ok.is) in
    open_leaves new _ _ (λ db may. g.met.S.Store.settled c.keep.new.conn.store db has.0 may)
    (g.met.S.Store.stays c.keep.new.conn.store has.0) made
    (record { appended = refl; reached = refl; latest = refl })

pub invariant_of-self-in-Err-NoMemory : goal.invariant_of-self-in-Err-NoMemory
invariant_of-self-in-Err-NoMemory g c =
    let k = c.args.self.now in
    let old = state g.S.Store k.conn in
    let new = state g.S.Store c.keep.new.conn in
    record {
      small = k.small;
      idle = c.keep.ensures.mode;
      tables = λ none clean. c.keep.ensures.tables clean (only_memory
          c.in-Err-NoMemory.is c.in-Err-NoMemory.field-0-is);
      holds = λ clean.
          let was : HasCleanDisk old = omega (arith, c.keep.ensures.survives.clean, clean) in
          let same = ap (λ d. d.trees) (c.keep.ensures.none clean (c.in-Err-NoMemory.is
          ∙ ap Err c.in-Err-NoMemory.field-0-is)) in
          let later = kept_trees k _ _ c.requires.faults same in
          subst (λ db. Holds db k.rings k.count k.hour) (sym later) (k.holds was);
      known = λ clean content stands.
          let was : HasCleanDisk old = omega (arith, c.keep.ensures.survives.clean, clean) in
          let same = ap (λ d. d.trees) (c.keep.ensures.none clean (c.in-Err-NoMemory.is
          ∙ ap Err c.in-Err-NoMemory.field-0-is)) in
          let later = kept_trees k _ _ c.requires.faults same in
          c.keep.ensures.bounds content.book (k.known was content (subst (λ db. Stands db content)
          later stands));
    }

pub returns-in-Err-NoMemory-clause-commits : goal.returns-in-Err-NoMemory-clause-commits
returns-in-Err-NoMemory-clause-commits g c = λ clean.
    let k = c.args.self.now in
    let old = state g.S.Store k.conn in
    let new = state g.S.Store c.keep.new.conn in
    let was : HasCleanDisk old = omega (arith, c.keep.ensures.survives.clean, clean) in
    let same = ap (λ d. d.trees) (c.keep.ensures.none clean (c.in-Err-NoMemory.is
    ∙ ap Err c.in-Err-NoMemory.field-0-is)) in
    let later = kept_trees k _ _ c.requires.faults same in
    told_same _ _ _ _ _ _ _ _ later was clean

pub returns-in-Err-NoMemory-clause-left : goal.returns-in-Err-NoMemory-clause-left
returns-in-Err-NoMemory-clause-left g c = λ clean.
    let k = c.args.self.now in
    let old = state g.S.Store k.conn in
    let new = state g.S.Store c.keep.new.conn in
    let was : HasCleanDisk old = omega (arith, c.keep.ensures.survives.clean, clean) in
    let has = c.keep.ensures.tables clean (only_memory c.in-Err-NoMemory.is
    c.in-Err-NoMemory.field-0-is) in
    let same = ap (λ d. d.trees) (c.keep.ensures.none clean (c.in-Err-NoMemory.is
    ∙ ap Err c.in-Err-NoMemory.field-0-is)) in
    let content = content_of_keeper k in
    open_leaves new content _ (λ db may. g.met.S.Store.settled c.keep.new.conn.store db has.0 may)
    (g.met.S.Store.stays c.keep.new.conn.store has.0) (subst (λ t. ∥ StandsAlone t content ∥₁)
    (sym same) (stands_now k c.requires.faults was)) refl

pub invariant_of-self-in-Err-Store : goal.invariant_of-self-in-Err-Store
invariant_of-self-in-Err-Store g c =
    let k = c.args.self.now in
    let old = state g.S.Store k.conn in
    let new = state g.S.Store c.keep.new.conn in
    record {
      small = k.small;
      idle = c.keep.ensures.mode;
      tables = λ none clean. absurd (never k.faults none);
      holds = λ clean.
          let was : HasCleanDisk old = omega (arith, c.keep.ensures.survives.clean, clean) in
          let later = lost_trees k _ c.requires.faults c.of.ensures in
          subst (λ db. Holds db k.rings k.count k.hour) (sym later) (k.holds was);
      known = λ clean content stands.
          let was : HasCleanDisk old = omega (arith, c.keep.ensures.survives.clean, clean) in
          let later = lost_trees k _ c.requires.faults c.of.ensures in
          c.keep.ensures.bounds content.book (k.known was content (subst (λ db. Stands db content)
          later stands));
    }

pub returns-clause-commits : goal.returns-clause-commits
returns-clause-commits g c = λ clean.
    let k = c.args.self.now in
    let old = state g.S.Store k.conn in
    let new = state g.S.Store c.keep.new.conn in
    let was : HasCleanDisk old = omega (arith, c.keep.ensures.survives.clean, clean) in
    let later = lost_trees k _ c.requires.faults c.of.ensures in
    inl (told_same _ _ _ _ _ _ _ _ later was clean)

pub returns-clause-left : goal.returns-clause-left
returns-clause-left g c = λ clean.
    let k = c.args.self.now in
    let old = state g.S.Store k.conn in
    let new = state g.S.Store c.keep.new.conn in
    let was : HasCleanDisk old = omega (arith, c.keep.ensures.survives.clean, clean) in
    let content = content_of_keeper k in
    let stands = stands_now k c.requires.faults was in
    leaves_one new content _ _ (g.met.S.Store.survives c.keep.new.conn.store clean)
    (after_call old new _ content _ clean c.keep.ensures.survives
    (λ db left. subst (λ t. ∥ StandsAlone t content ∥₁) (sym (g.met.S.Store.settled k.conn.store db
    (k.tables c.requires.faults was).0 left)) stands)
    (λ db gains. gains_now k c.requires.faults was (c.requires.room was)
    (c.requires.unknown was) (c.requires.hour was) (c.requires.step was) gains))
    (inl refl) (inr (record { appended = refl; reached = refl; latest = refl }))

pub returns-in-Ok-clause-sound : goal.returns-in-Ok-clause-sound
returns-in-Ok-clause-sound g c = λ clean. omega (arith, c.keep.ensures.survives.clean, clean)

pub returns-in-Ok-clause-limit : goal.returns-in-Ok-clause-limit
returns-in-Ok-clause-limit g c = search rules

pub returns-in-Ok-clause-cause : goal.returns-in-Ok-clause-cause
returns-in-Ok-clause-cause g c = search rules

pub returns-in-Err-NoMemory-clause-sound : goal.returns-in-Err-NoMemory-clause-sound
returns-in-Err-NoMemory-clause-sound g c = λ clean. omega
    (arith, c.keep.ensures.survives.clean, clean)

pub returns-in-Err-NoMemory-clause-limit : goal.returns-in-Err-NoMemory-clause-limit
returns-in-Err-NoMemory-clause-limit g c = search rules

pub returns-in-Err-NoMemory-clause-cause : goal.returns-in-Err-NoMemory-clause-cause
returns-in-Err-NoMemory-clause-cause g c = search rules

pub returns-clause-sound : goal.returns-clause-sound
returns-clause-sound g c = λ clean. omega (arith, c.keep.ensures.survives.clean, clean)

pub returns-clause-limit : goal.returns-clause-limit
returns-clause-limit g c = search rules

pub returns-clause-cause : goal.returns-clause-cause
returns-clause-cause g c = search rules
