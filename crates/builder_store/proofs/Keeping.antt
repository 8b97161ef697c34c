-- From one connection of a keeper to the next.
use Rattle.std.proofs.Common.{◌≡◌, ◌≢◌, ◌+◌, ◌<◌, ◌∙◌, Err, Ok, ap, arith, refl, rules, subst, sym}
use Rattle.std.proofs.Math.Logic.{∥∥₁_map}
use Rattle.std.specs.Prelude.{◌++◌, ◌∷◌, [], Bool, List, length, ◌≤◌, ◌↔◌, ℕ, IsTrue, Result, cond}
use Rattle.std.specs.Prelude.{None, nat_le, nat_lt}
use Rattle.request_book.specs.declared.keeper.KeepFault.{KeepFault}
use Rattle.request_book.specs.declared.keeper.KeepFault.TheVariants.{NoMemory, Store}
use Rattle.request_book.specs.Keeper.{Gains, LeavesOnly}
use Rattle.sqlite_trees.specs.Tree.{Trees}
use Rattle.sqlite_trees.specs.View.{IsClean, doubt}
use Rattle.sqlite_trees.specs.declared.store.Store.{Ghosts}
use Rattle.sqlite.specs.Held.{Held, state}
use Rattle.sqlite.specs.State.{HasCleanDisk, Survives}
use Rattle.request_book.specs.Content.{entry_of}
use Rattle.builder.specs.Step.{Step}
use Rattle.builder.specs.declared.machine.RingMachine.{RingMachine}
use Rattle.store_rows.specs.Callers.{Bounds}
use Rattle.store_rows.specs.RingRows.{NamedRings}
use Rattle.store_rows.specs.Stands.{DecidedRequest, RingContent, gained}
use Rattle.store_rows.specs.Differences.{IsChangedAt, KeepsOwn, with_state}
use Rattle.builder_store.specs.Keepers.{content_of_keeper}
use Rattle.builder_store.specs.Standing.{Holds, IsKnown, MayLeave, StandsAlone, content_told}
use Rattle.builder_store.specs.Standing.{stands_for_one}
use Rattle.builder_store.specs.Inner.Bound.{BoundsIn}
use Rattle.builder_store.specs.Inner.Gains.{GainsIn}
use Rattle.builder_store.specs.Inner.Known.{told_agrees, told_is, told_stands, whole_trees}
use Rattle.builder_store.specs.Inner.Leaves.{quiet_leaves}
use Rattle.builder_store.specs.Inner.Tables.{HasTables}
use Rattle.builder_store.proofs.Bounding.{bounds_of}
use Rattle.builder_store.proofs.Settled.{quiet_commit}
use Rattle.builder_store.proofs.StepChanges.{step_changes}
use Rattle.builder_store.proofs.StepTexts.{step_keeps_own}
use Rattle.builder_store.specs.declared.keeper.SqlKeeper.{SqlKeeper}

-- a call whose store hasn't failed answers otherwise
pub not_failed : {A : Type 0} {x : A} {r : Result A KeepFault} → r ≡ Ok x → r ≢ Err Store
not_failed is e = cc

pub only_memory : {A : Type 0} {fault : KeepFault} {r : Result A KeepFault} → r ≡ Err fault
    → fault ≡ NoMemory → r ≢ Err Store
only_memory is memory e = cc

-- the connection of a keeper whose store has failed
failed : {A : Type 0} (n : ℕ) (last conn : A) → n ≡ 0 → cond (nat_lt 0 (n + 1)) last conn ≡ last
failed n last conn e = subst (λ m. cond (nat_lt 0 (m + 1)) last conn ≡ last) (sym e) refl

pub failed_trees : {S : Type 0} (g : Ghosts S) (n : ℕ) (last conn : Held S) → n ≡ 0 → (state g
    (cond (nat_lt 0 (n + 1)) last conn)).committed.trees ≡ (state g last).committed.trees
failed_trees g n last conn e = ap (λ h. (state g h).committed.trees) (failed n last conn e)

-- what is committed stands for the content that is told, where the store hasn't failed
pub told_now : {S : Type 0} (g : Ghosts S) (n : ℕ) (last conn : Held S) (rings : NamedRings)
    (count hour : ℕ)
    (holds : HasCleanDisk (state g conn) → Holds (state g (cond
    (nat_lt 0 n) last conn)).committed.trees rings count hour) (other : RingContent) → n ≡ 0
    → HasCleanDisk (state g conn)
    → ∥ StandsAlone (state g conn).committed.trees (content_told (state g (cond
    (nat_lt 0 n) last conn)).committed.trees (state g conn).is_clean (λ it. stands_for_one
    (holds it)) other) ∥₁
told_now g n last conn rings count hour holds other none clean =
    subst (λ db. ∥ StandsAlone db (content_told (state g (cond
    (nat_lt 0 n) last conn)).committed.trees (state g conn).is_clean (λ it. stands_for_one
    (holds it)) other) ∥₁) (whole_trees g n last conn none)
    (told_stands (state g (cond (nat_lt 0 n) last conn)).committed.trees (state g conn).is_clean
    (λ it. stands_for_one (holds it)) other clean)

pub never : (n : ℕ) → n + 1 ≡ 0 → ⊥
never n e = omega (arith, e)

-- a book of so many requests is full
pub full_at : (limit count n : ℕ) → n ≡ count → IsTrue (nat_le limit count) ↔ (limit ≤ n)
full_at limit count n e = subst (λ m. IsTrue (nat_le limit count) ↔ (limit ≤ m)) (sym e)
    (search rules)

pub one_more : {A : Type 0} (xs : List A) (x : A) (count : ℕ) → length xs ≡ count → length
    (xs ++ x ∷ []) ≡ count + 1
one_more [] x count e = omega (arith, e)
one_more (y ∷ ys) x count e = let rest = one_more ys x (length ys) refl in omega (arith, e, rest)

-- where the tables stand for what a content gains, that is what is told of equal ones
pub gains_told : (db found : Trees) (clean : Bool) (known : doubt clean ≡ 0 → IsKnown db)
    (other content : RingContent) (entry : DecidedRequest) (after : NamedRings) → db ≡ found
    → doubt clean ≡ 0 → ∥ StandsAlone found (gained (with_state content after) entry) ∥₁
    → Gains content entry after (content_told db clean known other)
gains_told db found clean known other content entry after same is h =
    let stands : ∥ StandsAlone db (gained (with_state content after) entry) ∥₁ = subst
    (λ t. ∥ StandsAlone t (gained (with_state content after) entry) ∥₁) (sym same) h in
    subst (λ x. Gains content entry after x) (sym (told_is db clean known other (gained
    (with_state content after) entry) is stands)) (record {
      appended = refl;
      reached = refl;
      latest =
          refl;
    })

module _ {S : Type 0} {g : Ghosts S} (k : SqlKeeper S g) where
  -- what is committed stands for the content of a keeper whose store hasn't failed
  pub stands_now : k.faults ≡ 0 → HasCleanDisk (state g k.conn) → ∥ StandsAlone (state g
      k.conn).committed.trees (content_of_keeper k) ∥₁
  stands_now none was = told_now g k.faults k.last.value k.conn k.rings k.count k.hour
      (λ it. k.holds it) (record { state = k.rings; book = []; hour = k.hour }) none was

  -- and no key of its book is beyond the keeper's callers
  pub known_now : k.faults ≡ 0 → HasCleanDisk (state g k.conn) → BoundsIn k.callers (state g
      k.conn).committed.trees
  known_now none was = subst (BoundsIn k.callers)
      (whole_trees g k.faults k.last.value k.conn none) (k.known was)

  pub bounded_now : k.faults ≡ 0 → HasCleanDisk (state g k.conn) → Bounds k.callers
      (content_of_keeper k).book
  bounded_now none was = bounds_of (state g k.conn).committed.trees (content_of_keeper k) k.callers
      (stands_now none was) (known_now none was)

  -- and that has as many requests as the keeper counts
  pub counted_now : HasCleanDisk (state g k.conn) → length (content_of_keeper k).book ≡ k.count
  counted_now was = (told_agrees (state g (cond
      (nat_lt 0 k.faults) k.last.value k.conn)).committed.trees (state g k.conn).is_clean k.rings
      k.count k.hour (λ it. k.holds it) (record { state = k.rings; book = []; hour = k.hour })
      was).1

  -- trees in which a request is gained stand for that content with the request
  pub gains_now : {entry : DecidedRequest} {after : NamedRings} {db : Trees} → k.faults ≡ 0
      → HasCleanDisk (state g k.conn) → length (content_of_keeper k).book < k.limit
      → entry_of entry.key (content_of_keeper k).book ≡ None
      → (content_of_keeper k).hour ≤ entry.hour
      → (machine : RingMachine) × Step machine.limits (content_of_keeper k).state entry.hour
      entry.command entry.reply after
      → GainsIn (state g k.conn).committed.trees k.rings k.count k.limit k.hour entry after db
      → ∥ StandsAlone db (gained (with_state (content_of_keeper k) after) entry) ∥₁
  gains_now {entry} {after} none was room unknown later (machine, step) gains =
      let agrees = told_agrees (state g (cond
      (nat_lt 0 k.faults) k.last.value k.conn)).committed.trees (state g k.conn).is_clean k.rings
      k.count k.hour (λ it. k.holds it) (record { state = k.rings; book = []; hour = k.hour })
      was in
      ∥∥₁_map (stands_now none was) (λ h. gains (content_of_keeper k) h.0 (record {
        held = agrees.0;
        counted = agrees.1;
        reached = agrees.2;
        room = omega (arith, agrees.1, room);
        unknown = unknown;
        later = later;
        changed = subst (λ rings. IsChangedAt entry.command.ring rings after) agrees.0
            (step_changes machine.limits (content_of_keeper k).state after entry.hour entry.command
            entry.reply step);
        published = subst (λ rings. KeepsOwn rings after) agrees.0
            (step_keeps_own machine.limits (content_of_keeper k).state after entry.hour
            entry.command entry.reply step);
      }))

  -- a call that commits nothing leaves the keeper's trees
  pub kept_trees : (value conn : Held S) → k.faults ≡ 0
      → (state g conn).committed.trees ≡ (state g k.conn).committed.trees
      → (state g (cond (nat_lt 0 k.faults) value conn)).committed.trees ≡ (state g (cond
      (nat_lt 0 k.faults) k.last.value k.conn)).committed.trees
  kept_trees value conn none same = whole_trees g k.faults value conn none ∙ same ∙ sym
      (whole_trees g k.faults k.last.value k.conn none)

  -- and one in which the store fails leaves those that it found
  pub lost_trees : {last : Held S} (conn : Held S) → k.faults ≡ 0 → last ≡ k.conn
      → (state g (cond (nat_lt 0 (k.faults + 1)) last conn)).committed.trees ≡ (state g (cond
      (nat_lt 0 k.faults) k.last.value k.conn)).committed.trees
  lost_trees {last = last} conn none same = failed_trees g k.faults last conn none ∙ ap
      (λ h. (state g h).committed.trees) same ∙ sym
      (whole_trees g k.faults k.last.value k.conn none)

  -- what a store that is open leaves, and that any store leaves something
  abbrev Settles : Type 0
  Settles = (s : S) (db : Trees) → IsTrue (g.view s).is_open → g.recovers s db
      → db ≡ (g.view s).committed

  abbrev Stays : Type 0
  Stays = (s : S) → IsTrue (g.view s).is_open → g.recovers s (g.view s).committed

  abbrev Leaves : Type 0
  Leaves = (s : S) → IsClean (g.view s) → ∥ ((db : Trees) × g.recovers s db) ∥₁

  -- a call that commits nothing, and after which the tables are seen, leaves the keeper's trees
  pub quiet_trees : (value conn : Held S) → Settles → Stays → k.faults ≡ 0
      → Survives (state g k.conn) (state g conn) (λ _. ⊥) → HasCleanDisk (state g conn)
      → HasTables (state g conn)
      → (state g (cond (nat_lt 0 k.faults) value conn)).committed.trees ≡ (state g (cond
      (nat_lt 0 k.faults) k.last.value k.conn)).committed.trees
  quiet_trees value conn settles stays none call clean has =
      let was : HasCleanDisk (state g k.conn) = omega (arith, call.clean, clean) in
      kept_trees value conn none (quiet_commit (state g k.conn) (state g conn) clean (λ db may.
      settles k.conn.store db (k.tables none was).0 may) (stays conn.store has.0) call)

  -- and they still stand for what the keeper holds
  pub quiet_holds : (value conn : Held S) → Settles → Stays → k.faults ≡ 0
      → Survives (state g k.conn) (state g conn) (λ _. ⊥) → HasCleanDisk (state g conn)
      → HasTables (state g conn)
      → Holds (state g (cond (nat_lt 0 k.faults) value conn)).committed.trees k.rings k.count k.hour
  quiet_holds value conn settles stays none call clean has =
      let was : HasCleanDisk (state g k.conn) = omega (arith, call.clean, clean) in
      subst (λ db. Holds db k.rings k.count k.hour)
      (sym (quiet_trees value conn settles stays none call clean has)) (k.holds was)

  -- and no key of a book is beyond the keeper's callers
  pub quiet_known : (value conn : Held S) → Settles → Stays → k.faults ≡ 0
      → Survives (state g k.conn) (state g conn) (λ _. ⊥) → HasCleanDisk (state g conn)
      → HasTables (state g conn)
      → BoundsIn k.callers (state g (cond (nat_lt 0 k.faults) value conn)).committed.trees
  quiet_known value conn settles stays none call clean has =
      let was : HasCleanDisk (state g k.conn) = omega (arith, call.clean, clean) in
      subst (BoundsIn k.callers)
      (sym (quiet_trees value conn settles stays none call clean has)) (k.known was)

  -- a crash after a call that commits nothing leaves the keeper's content
  pub quiet_left : (conn : Held S) → Settles → Leaves → k.faults ≡ 0
      → Survives (state g k.conn) (state g conn) (λ _. ⊥) → HasCleanDisk (state g conn)
      → LeavesOnly (MayLeave (state g conn)) (content_of_keeper k)
  quiet_left conn settles leaves none call clean =
      let was : HasCleanDisk (state g k.conn) = omega (arith, call.clean, clean) in
      quiet_leaves (state g k.conn) (state g conn) (content_of_keeper k) clean
      (leaves conn.store clean) call (λ db may. settles k.conn.store db (k.tables none was).0 may)
      (stands_now none was)
