-- What is answered over a book, one item after another: each item leads to one call of the book or
-- to none, and all calls are one run.
use Rattle.std.specs.Prelude.{◌≡◌, ℕ, ◌++◌, ◌∷◌, ◌||◌, [], Bool, List, MatchOption, Option, is_some}
use Rattle.std.specs.Prelude.{nat_lt}
use Rattle.std.specs.Option.{option_to_list}
use Rattle.request_book.specs.Book.{Parts}
use Rattle.request_book.specs.Call.{Call, failed}
use Rattle.request_book.specs.Called.{Called}
use Rattle.request_book.specs.Content.{Content}
use Rattle.request_book.specs.Run.{Run}

module _ {M S C R K : Type 0} (step : M → S → ℕ → C → R → S → Type 0) (content : K → Content S C R)
    (sound : K → Type 0)
    (limit : K → ℕ) (faults : K → ℕ) where
  -- whether the store of a book had failed
  abbrev pub is_closed : Parts M K → Bool
  is_closed book = nat_lt 0 (faults book.keeper)

  -- From the one book to the other this call was made; where there is none, the content stays.
  pub record CallMade (old new : Parts M K) (asked : Option (Call C R)) : Type 0 where
    pub machine : new.machine ≡ old.machine
    pub limits : limit new.keeper ≡ limit old.keeper
    pub stays_sound : sound new.keeper → sound old.keeper
    pub closed : is_closed new ≡ (is_closed old || is_some (failed (option_to_list asked)))
    pub called : sound new.keeper → MatchOption asked (content new.keeper ≡ content old.keeper)
        (λ call. Called (step old.machine) (limit old.keeper) (is_closed old) (content old.keeper)
        call (content new.keeper))

  -- From the one book to the other these calls were made, and they are one run.
  pub record CallsMade (old new : Parts M K) (calls : List (Call C R)) : Type 0 where
    pub machine : new.machine ≡ old.machine
    pub limits : limit new.keeper ≡ limit old.keeper
    pub stays_sound : sound new.keeper → sound old.keeper
    pub closed : is_closed new ≡ (is_closed old || is_some (failed calls))
    pub run : sound new.keeper → Run (step old.machine) (limit old.keeper) (is_closed old)
        (content old.keeper) calls (content new.keeper)

  -- The calls so far and one more are the calls that were made in all.
  abbrev pub CallsGoOn : Type 0
  CallsGoOn = (start mid new : Parts M K) (calls : List (Call C R)) (asked : Option (Call C R)) →
      CallsMade start mid calls → CallMade mid new asked →
      CallsMade start new (calls ++ option_to_list asked)

  -- A front has a book, and says which text an item gets where this is the call that it leads to,
  -- if any.
  module _ {F I : Type 0} (book_of : F → Parts M K) (Gets : F → I → Option (Call C R) → List ℕ → F →
      Type 0) where
    -- An item leads to this call, if any, and gets this text.
    pub record Turn (old : F) (item : I) (asked : Option (Call C R)) (text : List ℕ) (new : F) :
        Type 0 where
      pub gets : Gets old item asked text new
      pub made : CallMade (book_of old) (book_of new) asked

    -- The items get these texts, one each, and lead to these calls, in their order. Each item finds
    -- a book to which the calls so far are one run from the first book, and leaves the one that the
    -- next item finds.
    abbrev pub AreAnswered : F → List (Call C R) → F → List I → List (Call C R) → List (List ℕ) →
        F → Type 0
    AreAnswered first done old [] calls texts new = (calls ≡ []) × (texts ≡ []) × (new ≡ old)
    AreAnswered first done old (item ∷ items) calls texts new =
        (asked : Option (Call C R)) × (later : List (Call C R)) × (text : List ℕ) ×
        (more : List (List ℕ)) × (next : F)
        × (calls ≡ option_to_list asked ++ later) × (texts ≡ text ∷ more)
        × CallsMade (book_of first) (book_of old) done × Turn old item asked text next
        × AreAnswered first (done ++ option_to_list asked) next items later more new

    -- The items get these texts, and the calls that they lead to are one run.
    pub record Serves (old : F) (items : List I) (texts : List (List ℕ)) (new : F) : Type 0 where
      pub calls : List (Call C R)
      pub answered : AreAnswered old [] old items calls texts new
      pub made : CallsMade (book_of old) (book_of new) calls
