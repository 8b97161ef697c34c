-- What deciding a new key's command at a settled hour may give, and may leave.
use Rattle.std.specs.Prelude.{◌++◌, ◌≡◌, ◌∷◌, ◌⊎◌, Err, Ok, Result, [], ℕ}
use Rattle.ring_words.specs.declared.request.Key.{Key}
use Rattle.request_book.specs.declared.keeper.KeepFault.{KeepFault}
use Rattle.request_book.specs.declared.keeper.KeepFault.TheVariants.{NoMemory, Store}
use Rattle.request_book.specs.Content.{Content}

-- The new content is the old one after the command's step at this hour, with its entry.
pub record Decides {S C R : Type 0} (step : S → ℕ → C → R → S → Type 0) (old : Content S C R)
    (hour : ℕ) (key : Key) (command : C) (reply : R) (new : Content S C R) : Type 0 where
  pub stepped : step old.state hour command reply new.state
  pub appended : new.book ≡ old.book ++ record {
    key = key;
    hour = hour;
    command = command;
    reply = reply;
  } ∷ []
  pub latest : new.hour ≡ hour

-- A reply leaves its step and its entry, want of memory nothing, and a fault of the store the same
-- or nothing.
abbrev pub MayDecide : {S C R : Type 0} → (S → ℕ → C → R → S → Type 0) → Content S C R → ℕ → Key →
    C → Result R KeepFault → Content S C R → Type 0
MayDecide step old hour key command (Ok reply) new = Decides step old hour key command reply new
MayDecide step old hour key command (Err NoMemory) new = new ≡ old
MayDecide {R} step old hour key command (Err Store) new = (new ≡ old) ⊎
    ((reply : R) × Decides step old hour key command reply new)
