-- What is served by two runs, one after the other, is served by one.
use Rattle.std.proofs.Common.{◌++◌, ◌∙◌, ◌∷◌, List, Option, [], ap, append-nil, append_assoc}
use Rattle.std.proofs.Common.{refl, subst, sym, ℕ}
use Rattle.std.specs.Option.{option_to_list}
use Rattle.request_book.specs.Book.{Parts}
use Rattle.request_book.specs.Call.{Call}
use Rattle.request_book.specs.Content.{Content}
use Rattle.request_book.specs.Front.{AreAnswered, CallsMade, Serves}
use Rattle.request_book.proofs.Fronts.{goes_on, starts}

module _ {M S C R K : Type 0} (step : M → S → ℕ → C → R → S → Type 0) (content : K → Content S C R)
    (sound : K → Type 0)
    (limit : K → ℕ) (faults : K → ℕ)
    {F I : Type 0} (book_of : F → Parts M K)
    (Gets : F → I → Option (Call C R) → List ℕ → F → Type 0) where
  abbrev Calls : Type 0
  Calls = List (Call C R)

  abbrev Ran : F → F → Calls → Type 0
  Ran old new calls = CallsMade step content sound limit faults (book_of old) (book_of new) calls

  abbrev Answered : F → Calls → F → List I → Calls → List (List ℕ) → F → Type 0
  Answered first done old items calls texts new =
      AreAnswered step content sound limit faults book_of Gets first done old items calls texts new

  -- What was answered after one front was so after an earlier one, from which calls led to it.
  rebased : (first start : F) (done before : Calls) (old : F) (items : List I) (calls : Calls)
      (texts : List (List ℕ)) (new : F) → Ran start old before →
      Answered first done old items calls texts new →
      Answered start before old items calls texts new × Ran start new (before ++ calls)
  rebased first start done before old [] calls texts new ran (calls_are, texts_are, same) = (
    (calls_are, texts_are, same),
    subst (λ (cs : Calls). Ran start new (before ++ cs)) (sym calls_are)
        (subst (λ (f : F). Ran start f (before ++ [])) (sym same)
        (subst (λ (cs : Calls). Ran start old cs) (sym (append-nil before)) ran)),
  )
  rebased first start done before old (item ∷ items) calls texts new ran (
    asked,
    later,
    text,
    more,
    next,
    calls_are,
    texts_are,
    made,
    turn,
    rest,
  ) =
      let r = rebased first start (done ++ option_to_list asked) (before ++ option_to_list asked)
      next items later more new
      (goes_on step content sound limit faults (book_of start) (book_of old) (book_of next) before
      asked ran turn.made) rest in (
        (asked, later, text, more, next, calls_are, texts_are, ran, turn, r.0),
        subst (λ (cs : Calls). Ran start new (before ++ cs)) (sym calls_are)
            (subst (λ (cs : Calls). Ran start new cs)
            (append_assoc before (option_to_list asked) later) r.1),
      )

  followed : (start : F) (before : Calls) (old : F) (items : List I) (calls : Calls)
      (texts : List (List ℕ)) (mid : F) (others : List I) (further : Calls)
      (told : List (List ℕ)) (new : F) → Answered start before old items calls texts mid →
      Answered start (before ++ calls) mid others further told new →
      Answered start before old (items ++ others) (calls ++ further) (texts ++ told) new
  followed start before old [] calls texts mid others further told new (
    calls_are,
    texts_are,
    same,
  ) then =
      subst (λ (cs : Calls). Answered start before old others (cs ++ further) (texts ++ told) new)
      (sym calls_are)
      (subst (λ (ts : List (List ℕ)). Answered start before old others further (ts ++ told) new)
      (sym texts_are)
      (subst (λ (f : F). Answered start before f others further told new) same
      (subst (λ (cs : Calls). Answered start cs mid others further told new) (append-nil before)
      (subst (λ (cs : Calls). Answered start (before ++ cs) mid others further told new) calls_are
      then))))
  followed start before old (item ∷ items) calls texts mid others further told new (
    asked,
    later,
    text,
    more,
    next,
    calls_are,
    texts_are,
    made,
    turn,
    rest,
  ) then = (
    asked,
    later ++ further,
    text,
    more ++ told,
    next,
    ap (λ (cs : Calls). cs ++ further) calls_are ∙ append_assoc (option_to_list asked) later
        further,
    ap (λ (ts : List (List ℕ)). ts ++ told) texts_are,
    made,
    turn,
    followed start (before ++ option_to_list asked) next items later more mid others further told
        new rest
        (subst (λ (cs : Calls). Answered start cs mid others further told new)
        (sym (append_assoc before (option_to_list asked) later))
        (subst (λ (cs : Calls). Answered start (before ++ cs) mid others further told new)
        calls_are then)),
  )

  abbrev Served : F → List I → List (List ℕ) → F → Type 0
  Served old items texts new = Serves step content sound limit faults book_of Gets old items texts
      new

  -- Nothing is served of nothing.
  pub serves_none : (old : F) → Served old [] [] old
  serves_none old = record {
    calls = [];
    answered = (refl, refl, refl);
    made = starts step content sound limit faults (book_of old);
  }

  -- What is served from where the one run ended is served behind it.
  pub serves_on : (old : F) (items : List I) (texts : List (List ℕ)) (mid : F) (others : List I)
      (told : List (List ℕ)) (new : F) → Served old items texts mid → Served mid others told new →
      Served old (items ++ others) (texts ++ told) new
  serves_on old items texts mid others told new first second =
      let r = rebased mid old [] first.calls mid others second.calls told new first.made
      second.answered in
      record {
        calls = first.calls ++ second.calls;
        answered = followed old [] old items first.calls texts mid others second.calls told new
            first.answered r.0;
        made = r.1;
      }
