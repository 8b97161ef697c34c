-- A log that is written page by page.
use Rattle.std.proofs.Common.{◌≡◌, ◌∙◌, ◌++◌, ◌+◌, ◌<◌, ◌≤◌, ℕ, List, Option, ap, arith, drop, inl}
use Rattle.std.proofs.Common.{Err, Ok, Result, false, inr, length, refl, subst, sym, take, take-add}
use Rattle.std.proofs.Common.{true}
use Rattle.std.specs.Prelude.{Bool, IfErr, OnErr, nat_lt}
use Rattle.std.proofs.lemmas.Bool.{ltb-false, ltb-true}
use Rattle.std.proofs.lemmas.List.{drop-drop, length-append, length-drop, length-take}
use Rattle.builder.specs.Life.{BookContent}
use Rattle.builder.specs.Safety.{Entries}
use Rattle.byte_streams.specs.Counted.{one_more, write_faults, writer_of}
use Rattle.byte_streams.specs.declared.counted.CountedWriter.{CountedWriter}
use Rattle.byte_streams.proofs.KnownLemmas.{Appends-then, beginning_of_left}
use Rattle.request_book.specs.Content.{entries_from}
use Rattle.ring_book.specs.Book.{Keeping}
use Rattle.ring_log.specs.Log.{entries_text}
use Rattle.ring_log.specs.declared.text.LogForm.{LogForm}
use Rattle.ring_log.proofs.Entries.{text_append}
use Rattle.ring_words.specs.Limits.{long_count}
use Rattle.program_stores.specs.Stores.{Closing}
use Rattle.programs.specs.Begun.{WasClosed, WasClosedAfter}
use Rattle.programs.specs.Logging.{BeginsLog, FailsToLog, IsLogged, WritesLog}
use Rattle.program_stores.specs.declared.faults.ProgramFault.{ProgramFault}
use Rattle.programs.specs.Inner.Pages.{BreaksPage, BreaksPages, FailsBy, WritesPage, WritesPages}
use Rattle.programs.specs.Inner.Pages.{WroteSome, page_size}

-- ---- the entries of a book

joined : (book : Entries) (from n : ℕ) → entries_from from (n + page_size) book
    ≡ entries_from from n book ++ entries_from (from + n) page_size book
joined book from n = take-add n page_size (drop from book)
    ∙ ap (λ (rest : Entries). take n (drop from book) ++ take page_size rest)
    (drop-drop n from book)

text_joined : (form : LogForm) (book : Entries) (from n : ℕ)
    → length (entries_from from n book) ≡ n
    → entries_text form from (entries_from from (n + page_size) book)
    ≡ entries_text form from (entries_from from n book)
    ++ entries_text form (from + n) (entries_from (from + n) page_size book)
text_joined form book from n full =
    let some : Entries = entries_from from n book in
    let more : Entries = entries_from (from + n) page_size book in
    ap (λ (es : Entries). entries_text form from es) (joined book from n)
    ∙ text_append form from some more
    ∙ ap (λ (k : ℕ). entries_text form from some ++ entries_text form (from + k) more) full

full_joined : (book : Entries) (from n : ℕ) → length (entries_from from n book) ≡ n
    → length (entries_from (from + n) page_size book) ≡ page_size
    → length (entries_from from (n + page_size) book) ≡ n + page_size
full_joined book from n full whole =
    let some : Entries = entries_from from n book in
    let more : Entries = entries_from (from + n) page_size book in
    let parts = length-append some more in
    let all = ap (λ (es : Entries). length es) (joined book from n) in
    omega (arith, full, whole, parts, all)

-- a page that is not full ends with the book
ends_short : (book : Entries) (place : ℕ) → length (entries_from place page_size book) < page_size
    → length book ≤ place + page_size
ends_short book place short = omega (
  arith,
  short,
  length-take page_size (drop place book),
  length-drop place book,
)

-- and one that has as many entries as it may is full
ends_full : (book : Entries) (place : ℕ)
    → page_size ≤ length (entries_from place page_size book)
    → length (entries_from place page_size book) ≡ page_size
ends_full book place enough =
    omega (arith, enough, length-take page_size (drop place book))

-- ---- one page more

module _ {K W : Type 0} (g : Keeping K) (contents : W → Option (List ℕ)) (form : LogForm)
    (from : ℕ) (old mid new : K) (writer between later : CountedWriter W) (n place : ℕ)
    (at : place ≡ from + n) (so_far : WroteSome g contents form from old mid writer between n)
    (sound : g.sound new → g.sound mid)
    (stays : g.sound new → g.content new ≡ g.content mid) where
  abbrev Book : Entries
  Book = (g.content old).book

  -- the page of what the book has now is one of what it had
  page_of : (page : Entries)
      → (g.sound new → page ≡ entries_from place page_size (g.content mid).book)
      → g.sound new → page ≡ entries_from (from + n) page_size Book
  page_of page is s = is s
      ∙ ap (λ (k : ℕ). entries_from k page_size (g.content mid).book) at
      ∙ ap (λ (all : BookContent). entries_from (from + n) page_size all.book)
      (so_far.stays (sound s))

  text_of : (page : Entries)
      → (g.sound new → page ≡ entries_from place page_size (g.content mid).book)
      → g.sound new → so_far.text ++ entries_text form place page
      ≡ entries_text form from (entries_from from (n + page_size) Book)
  text_of page is s =
      let first : List ℕ = entries_text form from (entries_from from n Book) in
      ap (λ (text : List ℕ). text ++ entries_text form place page) (so_far.tells (sound s))
      ∙ ap (λ (k : ℕ). first ++ entries_text form k page) at
      ∙ ap (λ (es : Entries). first ++ entries_text form (from + n) es) (page_of page is s)
      ∙ sym (text_joined form Book from n (so_far.full (sound s)))

  module _ (last : Bool) (page : WritesPage g contents form place mid new between later last) where
    abbrev Text : List ℕ
    Text = so_far.text ++ entries_text form place page.page

    counted : g.sound new → last ≡ nat_lt (length (entries_from (from + n) page_size Book)) page_size
    counted s = page.has
        ∙ ap (λ (es : Entries). nat_lt (length es) page_size) (page_of page.page page.is s)

    pub goes_on : last ≡ false → g.fault_count new ≡ 0
        → WroteSome g contents form from old new writer later (n + page_size)
    goes_on more none = record {
      sound = λ s. so_far.sound (sound s);
      stays = λ s. stays s ∙ so_far.stays (sound s);
      unfailed = none;
      text = Text;
      tells = text_of page.page page.is;
      full = λ s. full_joined Book from n (so_far.full (sound s))
          (ends_full Book (from + n) (ltb-false _ _ (sym (counted s) ∙ more)));
      wrote = Appends-then _ _ _ so_far.text (entries_text form place page.page) so_far.wrote
          page.wrote;
      same = page.same ∙ so_far.same;
      flushed = inr page.flushed;
    }

    pub ends_here : last ≡ true → WritesPages g contents form from old new writer later
    ends_here ends = record {
      text = Text;
      tells = λ s.
          let rest = ends_short Book (from + n) (ltb-true _ _ (sym (counted s) ∙ ends)) in (
            n + page_size,
            text_of page.page page.is s,
            inl (omega (arith, rest)),
          );
      wrote = Appends-then _ _ _ so_far.text (entries_text form place page.page) so_far.wrote
          page.wrote;
      same = page.same ∙ so_far.same;
      flushed = page.flushed;
    }

  pub breaks_here : BreaksPage g contents form place mid new between later
      → BreaksPages g contents form from old new writer later
  breaks_here page =
      let next : List ℕ = entries_text form place page.page in
      record {
        text = so_far.text ++ next;
        tells = λ s. (n + page_size, text_of page.page page.is s);
        wrote = beginning_of_left (contents (writer_of writer)) (contents (writer_of between))
            (contents (writer_of later)) (so_far.text ++ next) next
            (so_far.text, refl, so_far.wrote) page.wrote;
      }

-- a page at which it failed, behind pages at which the writer did not
pub fails_there : {K W : Type 0} (g : Keeping K) (writer between later : CountedWriter W)
    (why : ProgramFault) (keeper : K) → write_faults between ≡ write_faults writer
    → FailsBy g between later why keeper → FailsBy g writer later why keeper
fails_there g writer between later why keeper same (inl failed) =
    inl (failed.0, failed.1, failed.2, failed.3 ∙ same)
fails_there g writer between later why keeper same (inr unwritten) =
    inr (unwritten.0, unwritten.1, unwritten.2 ∙ ap one_more same)

-- no further page has a place of 32 bits
pub ends_there : {K W : Type 0} (g : Keeping K) (contents : W → Option (List ℕ)) (form : LogForm)
    (from : ℕ) (old new : K) (writer later : CountedWriter W) (n : ℕ) → 0 < n
    → long_count ≤ from + n → WroteSome g contents form from old new writer later n
    → WritesPages g contents form from old new writer later
ends_there g contents form from old new writer later n some beyond so_far = record {
  text = so_far.text;
  tells = λ s. (n, so_far.tells s, inr beyond);
  wrote = so_far.wrote;
  same = so_far.same;
  flushed = elim so_far.flushed [
    | inl none ↦ absurd (omega (arith, none, some))
    | inr flushed ↦ flushed
  ];
}

-- ---- the store of a log that was closed

pub log_closed : {K : Type 0} (g : Keeping K) (Begins Ends : K → Type 0) (kept left : K)
    → Begins kept → Ends left → (Tells : Entries → Type 0)
    → IsLogged g (λ k. k ≡ kept) (λ k. k ≡ left) Tells → IsLogged g Begins Ends Tells
log_closed g Begins Ends kept left begins ends Tells a = record {
  keeper = a.keeper;
  later = a.later;
  opened = subst Begins (sym a.opened) begins;
  left = subst Ends (sym a.left) ends;
  stays_sound = a.stays_sound;
  stays = a.stays;
  tells = a.tells;
}

-- a keeper that was asked for its book and stays as it was
pub logged : {K : Type 0} (g : Keeping K) (keeper later : K) → (g.sound later → g.sound keeper)
    → (g.sound later → g.content later ≡ g.content keeper) → (Tells : Entries → Type 0)
    → (g.sound later → Tells (g.content keeper).book)
    → IsLogged g (λ k. k ≡ keeper) (λ k. k ≡ later) Tells
logged g keeper later sound stays Tells tells = record {
  keeper = keeper;
  later = later;
  opened = refl;
  left = refl;
  stays_sound = sound;
  stays = stays;
  tells = tells;
}

-- what is known of a fault, and what is known where there is one
pub both_of : {A E : Type 0} (result : Result A E) (Fails : E → Type 0) (broken : Type 0)
    (Both : E → Type 0) → ((why : E) → Fails why → broken → Both why) → IfErr result Fails
    → OnErr result broken → IfErr result Both
both_of (Ok value) Fails broken Both make fails breaks = tt
both_of (Err why) Fails broken Both make fails breaks = make why fails breaks

module _ {K W : Type 0} (g : Keeping K) (Begins : K → Type 0) (Ends : K → Closing → Type 0)
    (contents : W → Option (List ℕ)) (writer later : CountedWriter W) (kept left : K)
    (begins : Begins kept) (answer : Closing) (ends : Ends left answer) (form : LogForm) (from : ℕ)
  where
    -- a log of which a beginning was written, over a store that was closed then
    pub fails_closed : (Refuses : ProgramFault → Type 0) (why : ProgramFault)
        → FailsBy g writer later why left
        × BeginsLog g (λ k. k ≡ kept) (λ k. k ≡ left) contents writer later form from
        → FailsToLog g Begins Ends contents writer later Refuses form from why
    fails_closed Refuses why (inl failed, begun) = inr (inl (
      failed.0,
      failed.1,
      failed.3,
      (
        begun.0,
        log_closed g Begins (WasClosedAfter g Ends failed.0) kept left begins
            ((answer, ends), failed.2) _ begun.1,
        begun.2,
      ),
    ))
    fails_closed Refuses why (inr unwritten, begun) = inr (inr (inr (
      unwritten.0,
      unwritten.2,
      (
        begun.0,
        log_closed g Begins (WasClosed Ends) kept left begins (answer, ends) _ begun.1,
        begun.2,
      ),
    )))

    -- one that was written whole, over a store that was closed so
    pub writes_closed : (Late : K → Type 0) → Late left
        → WritesLog g (λ k. k ≡ kept) (λ k. k ≡ left) contents writer later form from
        → WritesLog g Begins Late contents writer later form from
    writes_closed Late late wrote = (
      wrote.0,
      log_closed g Begins Late kept left begins late _ wrote.1,
      wrote.2,
      wrote.3,
      wrote.4,
    )
