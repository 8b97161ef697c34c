-- Books as programs open them.
use Rattle.std.specs.Prelude.{◌<◌, ◌≡◌, ⊤, [], Err, Ok, ℕ}
use Rattle.ring_words.specs.Limits.{most_devices, most_ids, most_numbers, most_rings, most_versions}
use Rattle.ring_words.specs.declared.request.Limits.{Limits}
use Rattle.builder.specs.declared.machine.RingMachine.{RingMachine}
use Rattle.byte_streams.specs.Counted.{one_more}
use Rattle.request_book.specs.Book.{Parts}
use Rattle.request_book.specs.declared.keeper.KeepFault.{KeepFault}
use Rattle.request_book.specs.declared.keeper.KeepFault.TheVariants as keep
use Rattle.ring_book.specs.Book.{Keeping}
use Rattle.program_stores.specs.Stores.{Closing}
use Rattle.program_stores.specs.declared.faults.ProgramFault.{ProgramFault}

-- These are the limits of a service, the greatest that there are.
pub record AreServiceLimits (limits : Limits) : Type 0 where
  pub rings : limits.rings ≡ most_rings
  pub devices : limits.devices ≡ most_devices
  pub ids : limits.ids ≡ most_ids
  pub versions : limits.versions ≡ most_versions
  pub numbers : limits.numbers ≡ most_numbers

-- A book of the builder as a program opens it: under the limits of a service, over a keeper that
-- begins so.
pub record IsBegun {K : Type 0} (Begins : K → Type 0) (book : Parts RingMachine K) : Type 0 where
  pub full : AreServiceLimits book.machine.limits
  pub keeper : Begins book.keeper

-- Nothing is said of the keeper.
abbrev pub IsAny : {K : Type 0} → K → Type 0
IsAny keeper = ⊤

-- The keeper was closed, and all that it holds is in its place.
abbrev pub IsClosed : {K : Type 0} → (K → Closing → Type 0) → K → Type 0
IsClosed Ends keeper = Ends keeper (Ok tt)

-- The keeper was closed, whatever that answered.
abbrev pub WasClosed : {K : Type 0} → (K → Closing → Type 0) → K → Type 0
WasClosed Ends keeper = (answer : Closing) × Ends keeper answer

-- The keeper was closed, which failed so.
abbrev pub FailedToClose : {K : Type 0} → (K → Closing → Type 0) → ProgramFault → K → Type 0
FailedToClose Ends why keeper = Ends keeper (Err why)

-- The keeper's store has not failed.
abbrev pub HasNotFailed : {K : Type 0} → Keeping K → K → Type 0
HasNotFailed g keeper = g.fault_count keeper ≡ 0

-- The fault of a keeper is its cause: the keeper's store failed exactly where the fault tells that.
abbrev pub HasFailedBy : {K : Type 0} → Keeping K → KeepFault → K → Type 0
HasFailedBy g keep.Store keeper = 0 < g.fault_count keeper
HasFailedBy g keep.NoMemory keeper = HasNotFailed g keeper

-- The keeper was closed, all that it holds is in its place, and its store has not failed.
abbrev pub IsClosedWhole : {K : Type 0} → Keeping K → (K → Closing → Type 0) → K → Type 0
IsClosedWhole g Ends keeper = IsClosed Ends keeper × HasNotFailed g keeper

-- The keeper was closed, whatever that answered, and failed before by this fault.
abbrev pub WasClosedAfter : {K : Type 0} → Keeping K → (K → Closing → Type 0) → KeepFault → K
    → Type 0
WasClosedAfter g Ends cause keeper = WasClosed Ends keeper × HasFailedBy g cause keeper

-- No store was opened or made, nor was to be: the count of these stays.
abbrev pub OpensNone : ℕ → ℕ → Type 0
OpensNone before after = after ≡ before

-- One store was opened or made, or was to be: the count has one more.
abbrev pub OpensOne : ℕ → ℕ → Type 0
OpensOne before after = after ≡ one_more before

-- Two stores were opened or made, or were to be: the count has two more.
abbrev pub OpensTwo : ℕ → ℕ → Type 0
OpensTwo before after = after ≡ one_more (one_more before)

-- A keeper begins with no ring, no request, and hour 0, and keeps 100,000 requests.
pub record IsNew {K : Type 0} (g : Keeping K) (keeper : K) : Type 0 where
  pub state : (g.content keeper).state ≡ []
  pub book : (g.content keeper).book ≡ []
  pub hour : (g.content keeper).hour ≡ 0
  pub limit : g.limit keeper ≡ most_numbers
