-- What the program `renew` does.
use Rattle.std.specs.Prelude.{◌≡◌, ◌⊎◌, ⊤, ℕ}
use Rattle.builder.specs.Step.{State}
use Rattle.request_book.specs.Keeper.{LeavesOnly}
use Rattle.request_book.specs.declared.keeper.KeepFault.{KeepFault}
use Rattle.ring_book.specs.Book.{Keeping}
use Rattle.program_stores.specs.Faults.{IsCloseFault, IsStoreFault, keep_fault}
use Rattle.program_stores.specs.Stores.{Closing}
use Rattle.programs.specs.Begun.{FailedToClose, IsClosedWhole}
use Rattle.programs.specs.Begun.{OpensOne}
use Rattle.programs.specs.Begun.{OpensTwo, WasClosedAfter}
use Rattle.program_stores.specs.declared.faults.ProgramFault.{ProgramFault}

-- A keeper that begins so is read and left so, and this is so of its rings and its hour. It keeps
-- its content, and a crash leaves that and nothing else.
pub record IsRead {K : Type 0} (g : Keeping K) (Begins Ends : K → Type 0)
    (IsSo : State → ℕ → Type 0) : Type 0 where
  pub keeper : K
  pub later : K
  pub opened : Begins keeper
  pub ended : Ends later
  pub stays_sound : g.sound later → g.sound keeper
  pub stays : g.sound later → g.content later ≡ g.content keeper
  pub left : g.sound later → LeavesOnly (g.may_leave later) (g.content keeper)
  pub is_so : g.sound later → IsSo (g.content keeper).state (g.content keeper).hour

-- An old store, whose keeper begins so and is left so, was read and stays as it was, and a new one
-- was made of its rings and its hour.
abbrev pub Renews : {K : Type 0} → Keeping K → (K → Type 0) → (K → Type 0) → (State → ℕ → Type 0)
    → Type 0
Renews old Begins Ends IsMade = IsRead old Begins Ends IsMade

-- Keepers of old stores are these, begin so, and end so with what closing them answers, and an old
-- store is not opened for such faults.
module _ {K : Type 0} (old : Keeping K) (Begins : K → Type 0) (Ends : K → Closing → Type 0)
    (Refuses : ProgramFault → Type 0) where
  -- This fault came of reading the old store, which stays as it was: it wasn't opened, for that
  -- fault; or its keeper failed so; or closing it did.
  abbrev pub FailsToRead : ProgramFault → Type 0
  FailsToRead why = (Refuses why × IsStoreFault why)
      ⊎ ((cause : KeepFault) × (why ≡ keep_fault cause)
      × IsRead old Begins (WasClosedAfter old Ends cause) (λ rings hour. ⊤))
      ⊎ (IsCloseFault why × IsRead old Begins (FailedToClose Ends why) (λ rings hour. ⊤))

  -- This fault came of renewing it: one of reading it, and no other store was made or opened; or it
  -- was read and stays as it was, and making a new one of its rings and its hour failed so.
  abbrev pub FailsToRenew : (State → ℕ → ProgramFault → Type 0) → ℕ → ℕ → ProgramFault → Type 0
  FailsToRenew IsUnmade before after why = (FailsToRead why × OpensOne before after)
      ⊎ (IsStoreFault why × Renews old Begins (IsClosedWhole old Ends)
      (λ rings hour. IsUnmade rings hour why)
      × OpensTwo before after)
