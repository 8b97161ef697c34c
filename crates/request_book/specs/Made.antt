-- What one call makes of a book.
use Rattle.std.specs.Prelude.{◌<◌, ◌≡◌, ◌∷◌, [], Option, false, nat_lt, ℕ}
use Rattle.request_book.specs.Book.{Parts}
use Rattle.request_book.specs.Call.{Call, FaultsTold, finds_closed}
use Rattle.request_book.specs.Called.{Called}
use Rattle.request_book.specs.Content.{Content}
use Rattle.request_book.specs.Keeper.{CrashLeaves}

module _ {M S C R K : Type 0} (step : M → S → ℕ → C → R → S → Type 0) (content : K → Content S C R)
    (sound : K → Type 0) (limit : K → ℕ) (faults : K → ℕ)
    (may_leave : K → Option (Content S C R) → Type 0) where
  -- From the one book to the other this call was made: what it was answered and left, and what a
  -- crash after it may leave. It is answered that the book is closed exactly where the store had
  -- failed, and then nothing is touched.
  pub record Makes (old new : Parts M K) (call : Call C R) : Type 0 where
    pub called : sound new.keeper → Called (step old.machine) (limit old.keeper)
        (nat_lt 0 (faults old.keeper)) (content old.keeper) call (content new.keeper)
    pub left : sound new.keeper → faults old.keeper ≡ 0 → CrashLeaves (may_leave new.keeper)
        (Called (step old.machine) (limit old.keeper) false (content old.keeper) call)
    pub stays_sound : sound new.keeper → sound old.keeper
    pub limits : limit new.keeper ≡ limit old.keeper
    pub machine : new.machine ≡ old.machine
    pub told : FaultsTold (faults old.keeper) (faults new.keeper) (call ∷ [])
    pub closed : finds_closed call ≡ nat_lt 0 (faults old.keeper)
    pub nothing : 0 < faults old.keeper → new ≡ old
