-- What a list of calls is answered and leaves.
use Rattle.std.specs.Option.{option_to_list}
use Rattle.std.specs.Prelude.{◌++◌, ◌<◌, ◌≡◌, ◌≢◌, ◌≤◌, ◌∷◌, ◌||◌, Bool, Err, IsSomeAnd, List}
use Rattle.std.specs.Prelude.{MatchOption, None, Ok, Option, Result, Some, [], false, is_some}
use Rattle.std.specs.Prelude.{length, max, true, ℕ, ⊤}
use Rattle.ring_words.specs.declared.request.Delivery.{Delivery}
use Rattle.request_book.specs.declared.book.Fault.{Fault}
use Rattle.request_book.specs.declared.book.Fault.TheVariants.{BookFull, Closed, NoMemory}
use Rattle.request_book.specs.declared.book.Fault.TheVariants.{NumberReused, StoreFault}
use Rattle.request_book.specs.declared.entry.Entry.{Entry}
use Rattle.request_book.specs.Call.{Call, Deliver, Load, failed}
use Rattle.request_book.specs.Content.{Content, entry_of}
use Rattle.request_book.specs.Once.{once}

-- WHAT THE DECIDED DELIVERIES LEAVE

-- the entries with the hours that they were decided at: the greatest of their own, of those before
-- and of the opening one
abbrev pub kept : {C R : Type 0} → ℕ → List (Entry C R) → List (Entry C R)
kept hour [] = []
kept hour (e ∷ es) = record e { hour = max hour e.hour } ∷ kept (max hour e.hour) es

-- the hour of the last entry, or the opening one
abbrev pub last_hour : {C R : Type 0} → ℕ → List (Entry C R) → ℕ
last_hour hour [] = hour
last_hour hour (e ∷ es) = last_hour e.hour es

-- a chain of steps, one for each entry
abbrev pub Chain : {S C R : Type 0} → (S → ℕ → C → R → S → Type 0) → S → List (Entry C R) → S →
    Type 0
Chain step old [] new = new ≡ old
Chain {S} step old (e ∷ es) new = (mid : S) × step old e.hour e.command e.reply mid ×
    Chain step mid es new

-- From old, these entries, decided in this order and no other, lead to new: they stand at the
-- book's end, a chain of their steps leads to the state, and the last one's hour is the greatest
-- hour.
pub record Leads {S C R : Type 0} (step : S → ℕ → C → R → S → Type 0) (old : Content S C R)
    (es : List (Entry C R)) (new : Content S C R) : Type 0 where
  pub book : new.book ≡ old.book ++ kept old.hour es
  pub chain : Chain step old.state (kept old.hour es) new.state
  pub hour : new.hour ≡ last_hour old.hour (kept old.hour es)

-- WHAT A CALL IS ANSWERED

-- What a delivery may be answered where this is the book: a reply, which is the kept one of its key
-- and its command, or any where the key is new and there is room; NumberReused where the key has
-- another command; BookFull where the key is new and there is no room; want of memory or a fault of
-- the store at any time. Closed answers a closed book's calls and no other.
abbrev pub MayReply : {C R : Type 0} → ℕ → Bool → List (Entry C R) → Delivery C → Result R Fault →
    Type 0
MayReply limit closed book d (Ok reply) = (closed ≡ false) × MatchOption (entry_of d.key book)
    (length book < limit) (λ e. (e.command ≡ d.command) × (reply ≡ e.reply))
MayReply limit closed book d (Err NumberReused) = (closed ≡ false) × IsSomeAnd (entry_of d.key book)
    (λ e. e.command ≢ d.command)
MayReply limit closed book d (Err BookFull) = (closed ≡ false) × (entry_of d.key book ≡ None) ×
    (limit ≤ length book)
MayReply limit closed book d (Err NoMemory) = closed ≡ false
MayReply limit closed book d (Err StoreFault) = closed ≡ false
MayReply limit closed book d (Err Closed) = closed ≡ true

-- What the call that makes the state ready may be answered.
abbrev pub MayLoad : Bool → Result (Unit {0}) Fault → Type 0
MayLoad closed (Ok done) = closed ≡ false
MayLoad closed (Err NumberReused) = ⊥
MayLoad closed (Err BookFull) = ⊥
MayLoad closed (Err NoMemory) = closed ≡ false
MayLoad closed (Err StoreFault) = closed ≡ false
MayLoad closed (Err Closed) = closed ≡ true

-- What a call may be answered where this is the book, closed or not.
abbrev pub MayAnswer : {C R : Type 0} → ℕ → Bool → List (Entry C R) → Call C R → Type 0
MayAnswer limit closed book (Deliver d answer) = MayReply limit closed book d answer
MayAnswer limit closed book (Load answer) = MayLoad closed answer

-- WHERE THE STORE FAILS

-- The entry is that of the delivery in which the store failed. Its key was new, and there was room.
abbrev pub IsInDoubt : {C R : Type 0} → ℕ → List (Entry C R) → Option (Call C R) → Entry C R →
    Type 0
IsInDoubt limit book None e = ⊥
IsInDoubt limit book (Some (Deliver d answer)) e = (e.key ≡ d.key) × (e.hour ≡ d.hour) ×
    (e.command ≡ d.command) × (entry_of e.key book ≡ None) × (length book < limit)
IsInDoubt limit book (Some (Load answer)) e = ⊥

-- THE RUN

-- From old, with a store that had failed or not, these calls may have had these answers and have
-- left new.
pub record Run {S C R : Type 0} (step : S → ℕ → C → R → S → Type 0) (limit : ℕ) (closed : Bool)
    (old : Content S C R) (calls : List (Call C R)) (new : Content S C R) : Type 0 where
  -- the entry of the delivery in which the store failed, if it was kept
  pub doubt : Option (Entry C R)
  pub in_doubt : MatchOption doubt (Unit {0}) (IsInDoubt limit (old.book ++
      kept old.hour (once old.book calls)) (failed calls))
  -- The decided deliveries, each once, lead from old to new, and then the one in doubt.
  pub leads : Leads step old (once old.book calls ++ option_to_list doubt) new
  -- Each call is answered by what the book had when it came, and a closed book is one whose store
  -- has failed.
  pub answers : (before : List (Call C R)) (call : Call C R) (after : List (Call C R)) →
      calls ≡ before ++ call ∷ after →
      MayAnswer limit (closed || is_some (failed before)) (old.book ++
      kept old.hour (once old.book before)) call

-- Where two deliveries of one key have a reply each, they have one command and one reply.
abbrev pub AnswersAlike : {C R : Type 0} → List (Call C R) → Type 0
AnswersAlike {C} {R} calls = (before : List (Call C R)) (d : Delivery C) (p : R)
    (between : List (Call C R)) (b : Delivery C) (q : R) (after : List (Call C R)) →
    calls ≡ before ++ Deliver d (Ok p) ∷ (between ++ Deliver b (Ok q) ∷ after) → d.key ≡ b.key →
    (d.command ≡ b.command) × (p ≡ q)

-- A delivery that comes again after it got this reply may be answered so: that reply, or that there
-- was no memory, that the store failed or that the book was closed.
abbrev pub MayRepeat : {R : Type 0} → R → Result R Fault → Type 0
MayRepeat kept (Ok reply) = reply ≡ kept
MayRepeat kept (Err NumberReused) = ⊥
MayRepeat kept (Err BookFull) = ⊥
MayRepeat kept (Err NoMemory) = ⊤
MayRepeat kept (Err StoreFault) = ⊤
MayRepeat kept (Err Closed) = ⊤

-- Where a delivery has a reply, each later one of its key and its command is answered as one that
-- comes again.
abbrev pub RepeatsAreKept : {C R : Type 0} → List (Call C R) → Type 0
RepeatsAreKept {C} {R} calls = (before : List (Call C R)) (d : Delivery C) (p : R)
    (between : List (Call C R)) (b : Delivery C) (answer : Result R Fault) (after : List (Call C R)) →
    calls ≡ before ++ Deliver d (Ok p) ∷ (between ++ Deliver b answer ∷ after) → d.key ≡ b.key →
    d.command ≡ b.command → MayRepeat p answer
