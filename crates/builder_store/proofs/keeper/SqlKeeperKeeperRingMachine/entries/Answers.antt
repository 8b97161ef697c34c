use Rattle.std.proofs.Common.{arith, subst, sym}
use Rattle.std.proofs.Math.Logic.{∥∥₁_elim}
use Rattle.sqlite.specs.Held.{state}
use Rattle.sqlite.specs.State.{HasCleanDisk}
use Rattle.builder_store.specs.Standing.{Holds}
use Rattle.builder_store.specs.Inner.Bound.{BoundsIn}
use Rattle.builder_store.specs.Inner.Known.{told_same}
use Rattle.builder_store.proofs.Found.{entries_prop}
use Rattle.builder_store.proofs.Keeping.{lost_trees, never, not_failed, only_memory, quiet_holds}
use Rattle.builder_store.proofs.Keeping.{quiet_known}
use Rattle.builder_store.proofs.Keeping.{quiet_left, quiet_trees, stands_now}
use Rattle.builder_store.proofs.keeper.SqlKeeperKeeperRingMachine.entries.Goals as goal

pub invariant_of-self : goal.invariant_of-self
invariant_of-self g c =
    let k = c.args.self.now in
    record {
      small = k.small;
      idle = c.read_page.ensures.mode;
      tables = λ none clean. c.read_page.ensures.tables clean (not_failed c.in-Ok.is);
      holds = λ clean. quiet_holds k _ c.read_page.new.conn g.met.S.Store.settled g.met.S.Store.stays
          c.requires c.read_page.ensures.survives clean
          (c.read_page.ensures.tables clean (not_failed c.in-Ok.is));
      known = λ clean. quiet_known k _ c.read_page.new.conn g.met.S.Store.settled g.met.S.Store.stays
          c.requires c.read_page.ensures.survives clean
          (c.read_page.ensures.tables clean (not_failed c.in-Ok.is));
    }

pub invariant_of-self-in-Err-NoMemory : goal.invariant_of-self-in-Err-NoMemory
invariant_of-self-in-Err-NoMemory g c =
    let k = c.args.self.now in
    let memory = only_memory c.in-Err-NoMemory.is c.in-Err-NoMemory.field-0-is in
    record {
      small = k.small;
      idle = c.read_page.ensures.mode;
      tables = λ none clean. c.read_page.ensures.tables clean memory;
      holds = λ clean. quiet_holds k _ c.read_page.new.conn g.met.S.Store.settled g.met.S.Store.stays
          c.requires c.read_page.ensures.survives clean (c.read_page.ensures.tables clean memory);
      known = λ clean. quiet_known k _ c.read_page.new.conn g.met.S.Store.settled g.met.S.Store.stays
          c.requires c.read_page.ensures.survives clean (c.read_page.ensures.tables clean memory);
    }

pub invariant_of-self-in-Err-Store : goal.invariant_of-self-in-Err-Store
invariant_of-self-in-Err-Store g c =
    let k = c.args.self.now in
    let old = state g.S.Store k.conn in
    record {
      small = k.small;
      idle = c.read_page.ensures.mode;
      tables = λ none clean. absurd (never k.faults none);
      holds = λ clean.
          let was : HasCleanDisk old = omega (arith, c.read_page.ensures.survives.clean, clean) in
          subst (λ db. Holds db k.rings k.count k.hour)
          (sym (lost_trees k _ c.requires c.of.ensures)) (k.holds was);
      known = λ clean.
          let was : HasCleanDisk old = omega (arith, c.read_page.ensures.survives.clean, clean) in
          subst (BoundsIn k.callers) (sym (lost_trees k _ c.requires c.of.ensures)) (k.known was);
    }

pub returns-in-Ok-clause-entries : goal.returns-in-Ok-clause-entries
returns-in-Ok-clause-entries g c = λ clean.
    let k = c.args.self.now in
    let was : HasCleanDisk (state g.S.Store k.conn) = omega
    (arith, c.read_page.ensures.survives.clean, clean) in
    ∥∥₁_elim (stands_now k c.requires was) (entries_prop _ _)
    (λ h. c.in-Ok.ensures.entries clean _ h.0)

pub returns-in-Ok-clause-content : goal.returns-in-Ok-clause-content
returns-in-Ok-clause-content g c = λ clean.
    let k = c.args.self.now in
    let was : HasCleanDisk (state g.S.Store k.conn) = omega
    (arith, c.read_page.ensures.survives.clean, clean) in
    told_same _ _ _ _ _ _ _ _ (quiet_trees k _ c.read_page.new.conn g.met.S.Store.settled
    g.met.S.Store.stays c.requires c.read_page.ensures.survives clean
    (c.read_page.ensures.tables clean (not_failed c.in-Ok.is))) was clean

pub returns-in-Ok-clause-left : goal.returns-in-Ok-clause-left
returns-in-Ok-clause-left g c = quiet_left c.args.self.now c.read_page.new.conn g.met.S.Store.settled
    g.met.S.Store.survives c.requires c.read_page.ensures.survives

pub returns-in-Err-NoMemory-clause-content : goal.returns-in-Err-NoMemory-clause-content
returns-in-Err-NoMemory-clause-content g c = λ clean.
    let k = c.args.self.now in
    let was : HasCleanDisk (state g.S.Store k.conn) = omega
    (arith, c.read_page.ensures.survives.clean, clean) in
    told_same _ _ _ _ _ _ _ _ (quiet_trees k _ c.read_page.new.conn g.met.S.Store.settled
    g.met.S.Store.stays c.requires c.read_page.ensures.survives clean (c.read_page.ensures.tables clean
    (only_memory c.in-Err-NoMemory.is c.in-Err-NoMemory.field-0-is))) was clean

pub returns-in-Err-NoMemory-clause-left : goal.returns-in-Err-NoMemory-clause-left
returns-in-Err-NoMemory-clause-left g c = quiet_left c.args.self.now c.read_page.new.conn
    g.met.S.Store.settled g.met.S.Store.survives c.requires c.read_page.ensures.survives

pub returns-in-Err-Store-clause-content : goal.returns-in-Err-Store-clause-content
returns-in-Err-Store-clause-content g c = λ clean.
    let k = c.args.self.now in
    let was : HasCleanDisk (state g.S.Store k.conn) = omega
    (arith, c.read_page.ensures.survives.clean, clean) in
    told_same _ _ _ _ _ _ _ _ (lost_trees k _ c.requires c.of.ensures) was clean

pub returns-in-Err-Store-clause-left : goal.returns-in-Err-Store-clause-left
returns-in-Err-Store-clause-left g c = quiet_left c.args.self.now c.read_page.new.conn
    g.met.S.Store.settled g.met.S.Store.survives c.requires c.read_page.ensures.survives
