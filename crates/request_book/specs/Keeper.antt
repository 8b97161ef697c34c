-- What the calls of a keeper tell and leave.
use Rattle.std.specs.Prelude.{◌++◌, ◌<◌, ◌≡◌, ◌≢◌, ◌∷◌, ◌⊎◌, Err, IsSomeAnd, None, Ok, Option}
use Rattle.std.specs.Prelude.{Result, Some, [], ℕ}
use Rattle.request_book.specs.declared.entry.Entry.{Entry}
use Rattle.request_book.specs.declared.keeper.Found.{Found}
use Rattle.request_book.specs.declared.keeper.Found.TheVariants.{New, Other, Same}
use Rattle.request_book.specs.declared.keeper.KeepFault.{KeepFault}
use Rattle.request_book.specs.declared.keeper.KeepFault.TheVariants.{NoMemory, Store}
use Rattle.request_book.specs.Content.{Content}

-- What is found of a command, where this is its key's entry: New without an entry, the kept reply
-- of an equal command, Other of another.
abbrev pub IsFound : {C R : Type 0} → Option (Entry C R) → C → Found R → Type 0
IsFound None command New = Unit {0}
IsFound None command (Same reply) = ⊥
IsFound None command Other = ⊥
IsFound (Some entry) command New = ⊥
IsFound (Some entry) command (Same reply) = (entry.command ≡ command) × (reply ≡ entry.reply)
IsFound (Some entry) command Other = entry.command ≢ command

-- The count of faults rises exactly where a call fails by its store.
abbrev pub HasCause : {A : Type 0} → ℕ → ℕ → Result A KeepFault → Type 0
HasCause old new (Ok value) = new ≡ old
HasCause old new (Err NoMemory) = new ≡ old
HasCause old new (Err Store) = old < new

-- The new content is the old one with this entry at the book's end, its hour and this state.
pub record Gains {S C R : Type 0} (old : Content S C R) (entry : Entry C R) (state : S)
    (new : Content S C R) : Type 0 where
  pub appended : new.book ≡ old.book ++ entry ∷ []
  pub reached : new.state ≡ state
  pub latest : new.hour ≡ entry.hour

-- A commit that succeeds gains the entry and the state, one without memory nothing, and one whose
-- store fails gains both or neither.
abbrev pub Commits : {S C R A : Type 0} → Content S C R → Entry C R → S → Result A KeepFault →
    Content S C R → Type 0
Commits old entry state (Ok done) new = Gains old entry state new
Commits old entry state (Err NoMemory) new = new ≡ old
Commits old entry state (Err Store) new = (new ≡ old) ⊎ Gains old entry state new

-- A crash leaves a content with this property: there is something that it may leave, and whatever
-- it may leave is such a content. None is what an opening refuses.
pub record CrashLeaves {S C R : Type 0} (may_leave : Option (Content S C R) → Type 0)
    (P : Content S C R → Type 0) : Type 0 where
  pub something : ∥ ((left : Option (Content S C R)) × may_leave left) ∥₁
  pub each : (left : Option (Content S C R)) → may_leave left → IsSomeAnd left P

-- A crash leaves this content and nothing else.
abbrev pub LeavesOnly : {S C R : Type 0} → (Option (Content S C R) → Type 0) → Content S C R →
    Type 0
LeavesOnly may_leave content = CrashLeaves may_leave (λ left. left ≡ content)
