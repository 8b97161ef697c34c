-- Items that are answered one after another over a book are one run.
use Rattle.std.proofs.Common.{◌++◌, ◌≡◌, ◌∙◌, ◌∷◌, List, MatchOption, None, Option, Some, [], ap}
use Rattle.std.proofs.Common.{append-nil, append_assoc, refl, subst, sym, ℕ}
use Rattle.std.specs.Prelude.{◌||◌, All, Bool, false, is_some, true}
use Rattle.std.specs.Option.{option_or, option_to_list}
use Rattle.std.proofs.lemmas.List.Elements.{All-append, All-cons, All-nil}
use Rattle.std.proofs.lemmas.List.Folds.{find-append}
use Rattle.byte_streams.specs.InTurn.{InTurn}
use Rattle.request_book.specs.Book.{Parts}
use Rattle.request_book.specs.Call.{Call, failed, meets_fault}
use Rattle.request_book.specs.Called.{Called}
use Rattle.request_book.specs.Content.{Content}
use Rattle.request_book.specs.Front.{AreAnswered, CallMade, CallsMade, Serves, Turn, is_closed}
use Rattle.request_book.specs.Run.{Run}
use Rattle.request_book.proofs.Calls.{or_false}
use Rattle.request_book.proofs.Runs.{run_none, run_snoc}

or_or : (a b c : Bool) → ((a || b) || c) ≡ (a || (b || c))
or_or true b c = refl
or_or false b c = refl

some_or : {A : Type 0} (a b : Option A) → is_some (option_or a b) ≡ (is_some a || is_some b)
some_or None b = refl
some_or (Some x) b = refl

-- where the store failed in calls, it did in the first of them or in the others
failed_more : {C R : Type 0} (done more : List (Call C R)) (closed : Bool) →
    ((closed || is_some (failed done)) || is_some (failed more)) ≡ (closed ||
    is_some (failed (done ++ more)))
failed_more done more closed = or_or closed _ _ ∙ ap (λ b. closed ||
    b) (sym (some_or (failed done) (failed more)) ∙ ap is_some
    (sym (find-append meets_fault done more)))

module _ {M S C R K : Type 0} (step : M → S → ℕ → C → R → S → Type 0) (content : K → Content S C R)
    (sound : K → Type 0)
    (limit : K → ℕ) (faults : K → ℕ) where
  abbrev Book : Type 0
  Book = Parts M K

  abbrev Asked : Type 0
  Asked = Option (Call C R)

  abbrev Made : Book → Book → Asked → Type 0
  Made old new asked = CallMade step content sound limit faults old new asked

  abbrev AllMade : Book → Book → List (Call C R) → Type 0
  AllMade old new calls = CallsMade step content sound limit faults old new calls

  -- nothing was called
  pub none_made : (old : Book) → Made old old None
  none_made old = record {
    machine = refl;
    limits = refl;
    stays_sound = λ s. s;
    closed =
        or_false (is_closed step content sound limit faults old);
    called = λ s. refl;
  }

  pub starts : (old : Book) → AllMade old old []
  starts old = record {
    machine = refl;
    limits = refl;
    stays_sound = λ s. s;
    closed =
        or_false (is_closed step content sound limit faults old);
    run =
        λ s. run_none (step old.machine) (limit old.keeper) (is_closed step content sound limit
        faults
        old) (content old.keeper);
  }

  -- the calls so far and one more
  pub goes_on : (start mid new : Book) (done : List (Call C R)) (asked : Asked) →
      AllMade start mid done → Made mid new asked → AllMade start new (done ++ option_to_list asked)
  goes_on start mid new done asked ran made = record {
    machine = made.machine ∙ ran.machine;
    limits = made.limits ∙ ran.limits;
    stays_sound = λ s. ran.stays_sound (made.stays_sound s);
    closed = made.closed ∙ ap (λ b. b || is_some (failed (option_to_list asked))) ran.closed ∙
        failed_more done (option_to_list asked) (is_closed step content sound limit faults start);
    run = λ s. run_by asked (made.called s) (ran.run (made.stays_sound s));
  } where
    closed : Bool
    closed = is_closed step content sound limit faults start

    Rest : List (Call C R) → Content S C R → Type 0
    Rest calls left = Run (step start.machine) (limit start.keeper) closed (content start.keeper)
        calls left

    run_by : (a : Asked) → MatchOption a (content new.keeper ≡ content mid.keeper)
        (λ call. Called (step mid.machine) (limit mid.keeper) (is_closed step content sound limit
        faults mid) (content mid.keeper) call (content new.keeper)) → Rest done (content mid.keeper)
        → Rest (done ++ option_to_list a) (content new.keeper)
    run_by None same r = subst (λ calls. Rest calls (content new.keeper)) (sym (append-nil done))
        (subst (λ left. Rest done left) (sym same) r)
    run_by (Some call) called r =
        let c : Called (step start.machine) (limit start.keeper) (closed || is_some (failed done))
        (content mid.keeper) call (content new.keeper) =
        subst (λ m. Called (step m) (limit start.keeper) (closed || is_some (failed done))
        (content mid.keeper) call (content new.keeper)) ran.machine
        (subst (λ n. Called (step mid.machine) n (closed || is_some (failed done))
        (content mid.keeper) call (content new.keeper)) ran.limits
        (subst (λ b. Called (step mid.machine) (limit mid.keeper) b (content mid.keeper) call
        (content new.keeper)) ran.closed called)) in
        run_snoc (step start.machine) (limit start.keeper) closed (content start.keeper) done
        (content mid.keeper) call (content new.keeper) r c

  module _ {F I : Type 0} (book_of : F → Book) (Gets : F → I → Asked → List ℕ → F → Type 0)
      (Gives : F → I → List ℕ → F → Type 0)
      (turns : (old : F) (item : I) (text : List ℕ) (new : F) → Gives old item text new →
      (asked : Asked) × Turn step content sound limit faults book_of Gets old item asked text
      new) where
    in_turn_made : (start mid new : F) (done : List (Call C R)) (items : List I)
        (texts : List (List ℕ)) → AllMade (book_of start) (book_of mid) done →
        InTurn Gives mid items texts new
        → (calls : List (Call C R)) × AreAnswered step content sound limit faults book_of Gets start
        done mid items calls texts new × AllMade (book_of start) (book_of new) (done ++ calls)
    in_turn_made start mid new done [] texts ran turn = (
      [],
      (refl, turn.0, turn.1),
      subst (λ b. AllMade (book_of start) (book_of b) (done ++ [])) (sym turn.1)
          (subst (λ calls. AllMade (book_of start) (book_of mid) calls) (sym (append-nil done))
          ran),
    )
    in_turn_made start mid new done (item ∷ items) texts ran (
      text,
      next,
      more,
      gave,
      texts_are,
      rest,
    ) =
        let t = turns mid item text next gave in
        let r = in_turn_made start next new (done ++ option_to_list t.0) items more
        (goes_on (book_of start) (book_of mid) (book_of next) done t.0 ran t.1.made) rest in (
          option_to_list t.0 ++ r.0,
          (t.0, r.0, text, more, next, refl, texts_are, ran, t.1, r.1),
          subst (λ calls. AllMade (book_of start) (book_of new) calls)
              (append_assoc done (option_to_list t.0) r.0) r.2,
        )

    -- Items that are answered in turn, each by at most one call, are served by one run.
    pub in_turn_serves : (old : F) (items : List I) (texts : List (List ℕ)) (new : F) →
        InTurn Gives old items texts new → Serves step content sound limit faults book_of Gets old
        items texts new
    in_turn_serves old items texts new turn =
        let r = in_turn_made old old new [] items texts (starts (book_of old)) turn in
        record { calls = r.0; answered = r.1; made = r.2 }

  -- Where each call that an item leads to is such, so are all calls that items lead to.
  module _ {F I : Type 0} (book_of : F → Book) (Gets : F → I → Asked → List ℕ → F → Type 0)
      (IsSuch : Call C R → Type 0)
      (such : (old : F) (item : I) (call : Call C R) (text : List ℕ) (new : F)
      → Gets old item (Some call) text new → IsSuch call) where
    one_such : (old : F) (item : I) (asked : Asked) (text : List ℕ) (new : F)
        → Gets old item asked text new → All IsSuch (option_to_list asked)
    one_such old item None text new gets = All-nil IsSuch
    one_such old item (Some call) text new gets =
        All-cons IsSuch call [] (such old item call text new gets) (All-nil IsSuch)

    pub all_such : (first old new : F) (done calls : List (Call C R)) (items : List I)
        (texts : List (List ℕ)) → AreAnswered step content sound limit faults book_of Gets first done
        old items calls texts new → All IsSuch calls
    all_such first old new done calls [] texts answered =
        subst (All IsSuch) (sym answered.0) (All-nil IsSuch)
    all_such first old new done calls (item ∷ items) texts (
      asked,
      later,
      text,
      more,
      next,
      calls_are,
      texts_are,
      made,
      turn,
      rest,
    ) = subst (All IsSuch) (sym calls_are) (All-append IsSuch (option_to_list asked) later
        (one_such old item asked text next turn.gets)
        (all_such first next new (done ++ option_to_list asked) later items more rest))
