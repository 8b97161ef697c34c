-- What a book is asked, and answers.
use Rattle.std.specs.List.{zip}
use Rattle.std.specs.Prelude.{◌++◌, ◌<◌, ◌≡◌, ◌∷◌, ◌||◌, Bool, Err, List, MatchOption, Ok, Option}
use Rattle.std.specs.Prelude.{Result, false, find, is_some, map, true, ℕ}
use Rattle.ring_words.specs.declared.request.Delivery.{Delivery}
use Rattle.request_book.specs.declared.book.Fault.{Fault}
use Rattle.request_book.specs.declared.book.Fault.TheVariants.{BookFull, Closed, NoMemory}
use Rattle.request_book.specs.declared.book.Fault.TheVariants.{NumberReused, StoreFault}

-- A call with its answer: of a delivery, or of the state or of entries to be read between
-- deliveries.
pub data Call (C R : Type 0) : Type 0 where
  Deliver : Delivery C → Result R Fault → Call C R
  Load : Result (Unit {0}) Fault → Call C R

-- the answer of a call that changes nothing, without what it tells: the hour of the one that makes
-- the state ready, the entries of the one that reads them
abbrev pub ready : {A : Type 0} → Result A Fault → Result (Unit {0}) Fault
ready (Ok told) = Ok tt
ready (Err fault) = Err fault

-- the deliveries of a list, each with its answer
abbrev pub calls_of : {C R : Type 0} → List (Delivery C) → List (Result R Fault) → List (Call C R)
calls_of deliveries answers = map (λ served. Deliver served.0 served.1) (zip deliveries answers)

-- whether an answer is that the store failed
abbrev pub is_store_fault : {A : Type 0} → Result A Fault → Bool
is_store_fault (Ok value) = false
is_store_fault (Err NumberReused) = false
is_store_fault (Err BookFull) = false
is_store_fault (Err NoMemory) = false
is_store_fault (Err StoreFault) = true
is_store_fault (Err Closed) = false

-- whether a call's answer is that the store failed
abbrev pub meets_fault : {C R : Type 0} → Call C R → Bool
meets_fault (Deliver delivery answer) = is_store_fault answer
meets_fault (Load answer) = is_store_fault answer

-- the first call in which the store failed
abbrev pub failed : {C R : Type 0} → List (Call C R) → Option (Call C R)
failed calls = find meets_fault calls

-- whether an answer is that the book is closed
abbrev pub is_closed_fault : {A : Type 0} → Result A Fault → Bool
is_closed_fault (Ok value) = false
is_closed_fault (Err NumberReused) = false
is_closed_fault (Err BookFull) = false
is_closed_fault (Err NoMemory) = false
is_closed_fault (Err StoreFault) = false
is_closed_fault (Err Closed) = true

-- whether a call's answer is that the book is closed
abbrev pub finds_closed : {C R : Type 0} → Call C R → Bool
finds_closed (Deliver delivery answer) = is_closed_fault answer
finds_closed (Load answer) = is_closed_fault answer

-- Exactly the calls after one in which the store failed, which may be one before these, are
-- answered that the book is closed.
abbrev pub ClosesAfterFault : {C R : Type 0} → Bool → List (Call C R) → Type 0
ClosesAfterFault {C} {R} closed calls = (before : List (Call C R)) (call : Call C R)
    (after : List (Call C R)) → calls ≡ before ++ call ∷ after →
    finds_closed call ≡ (closed || is_some (failed before))

-- The count of faults rises exactly where the store failed in one of the calls.
abbrev pub FaultsTold : {C R : Type 0} → ℕ → ℕ → List (Call C R) → Type 0
FaultsTold old new calls = MatchOption (failed calls) (new ≡ old) (λ _. old < new)
