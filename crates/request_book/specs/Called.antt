-- What one call is answered and leaves: a run of that call alone, said without lists of calls.
use Rattle.std.specs.Prelude.{◌++◌, ◌<◌, ◌≡◌, ◌∷◌, ◌⊎◌, ◌||◌, Bool, Err, List, MatchOption, None, Ok}
use Rattle.std.specs.Prelude.{[], is_some, length, max, ℕ}
use Rattle.ring_words.specs.declared.request.Delivery.{Delivery}
use Rattle.request_book.specs.declared.book.Fault.TheVariants.{BookFull, Closed, NoMemory}
use Rattle.request_book.specs.declared.book.Fault.TheVariants.{NumberReused, StoreFault}
use Rattle.request_book.specs.Call.{Call, Deliver, Load, failed}
use Rattle.request_book.specs.Content.{Content, entry_of}
use Rattle.request_book.specs.Run.{MayAnswer, Run}

-- The new content is the old one after this delivery's step at the greater of the hours, with its
-- entry.
pub record Acts {S C R : Type 0} (step : S → ℕ → C → R → S → Type 0) (old : Content S C R)
    (d : Delivery C) (reply : R) (new : Content S C R) : Type 0 where
  pub stepped : step old.state (max old.hour d.hour) d.command reply new.state
  pub appended : new.book ≡ old.book ++ record {
    key = d.key;
    hour = max old.hour d.hour;
    command =
        d.command;
    reply = reply;
  } ∷ []
  pub latest : new.hour ≡ max old.hour d.hour

-- What a call with this answer leaves: a reply to a new key its step and its entry, a fault of the
-- store the same or nothing, any other answer nothing.
abbrev pub LeavesContent : {S C R : Type 0} → (S → ℕ → C → R → S → Type 0) → ℕ → Content S C R →
    Call C R →
    Content S C R → Type 0
LeavesContent step limit old (Deliver d (Ok reply)) new = MatchOption (entry_of d.key old.book)
    (Acts step old d reply new) (λ _. new ≡ old)
LeavesContent {R} step limit old (Deliver d (Err StoreFault)) new = (new ≡ old) ⊎
    ((entry_of d.key old.book ≡ None) × (length old.book < limit) ×
    ((reply : R) × Acts step old d reply new))
LeavesContent step limit old (Deliver d (Err NumberReused)) new = new ≡ old
LeavesContent step limit old (Deliver d (Err BookFull)) new = new ≡ old
LeavesContent step limit old (Deliver d (Err NoMemory)) new = new ≡ old
LeavesContent step limit old (Deliver d (Err Closed)) new = new ≡ old
LeavesContent step limit old (Load answer) new = new ≡ old

-- From old, this call may have this answer and leave new.
pub record Called {S C R : Type 0} (step : S → ℕ → C → R → S → Type 0) (limit : ℕ) (closed : Bool)
    (old : Content S C R) (call : Call C R) (new : Content S C R) : Type 0 where
  pub may : MayAnswer limit closed old.book call
  pub leaves : LeavesContent step limit old call new

-- A run goes on by any call that is made next.
abbrev pub RunsGoOn : {S C R : Type 0} → (S → ℕ → C → R → S → Type 0) → Type 0
RunsGoOn {S} {C} {R} step = (limit : ℕ) (closed : Bool) (old mid new : Content S C R)
    (calls : List (Call C R)) (call : Call C R) → Run step limit closed old calls mid →
    Called step limit (closed || is_some (failed calls)) mid call new →
    Run step limit closed old (calls ++ call ∷ []) new
