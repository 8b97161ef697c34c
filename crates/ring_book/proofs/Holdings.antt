-- What is found of what a book holds, and what is read of it.
use Rattle.std.proofs.Common.{◌≡◌, ◌∙◌, ℕ, List, Result, Ok, Err, ap, sym}
use Rattle.std.specs.Prelude.{MatchResult}
use Rattle.builder.specs.Life.{BookContent}
use Rattle.builder.specs.Safety.{Entries}
use Rattle.ring_log.specs.Log.{entries_text}
use Rattle.ring_log.specs.declared.inquiry.Inquiry.TheVariants as inquiry
use Rattle.ring_log.specs.declared.text.LogForm.TheVariants as form
use Rattle.ring_messages.specs.declared.told.Told.{Told}
use Rattle.ring_messages.specs.declared.told.Told.TheVariants as told
use Rattle.ring_reads.specs.Holding.{Holding}
use Rattle.ring_reads.specs.Reads.{Shows}
use Rattle.ring_reads.specs.declared.reads.Question.{Question}
use Rattle.ring_book.specs.Book.{Finding, Keeping, holding, holding_with}
use Rattle.ring_book.specs.Reads.{IsReadAs, TellsHidden}

-- what is held in every part alike is the same
pub held_alike : (held other : Holding) → held.rings ≡ other.rings → held.hour ≡ other.hour →
    held.clock ≡ other.clock → held.kept ≡ other.kept → held.limit ≡ other.limit → held ≡ other
held_alike held other rings hour clock kept limit = λ i. record {
  rings = rings i;
  hour = hour i;
  clock = clock i;
  kept = kept i;
  limit = limit i;
}

-- a keeper with the same content and the same limit holds the same
pub still_held : {K : Type 0} (kept : Keeping K) (clock : ℕ) (keeper later : K) →
    kept.content later ≡ kept.content keeper → kept.limit later ≡ kept.limit keeper →
    holding kept clock later ≡ holding kept clock keeper
still_held kept clock keeper later content limit =
    ap (λ (all : BookContent). holding_with all (kept.limit later) clock) content
    ∙ ap (λ (most : ℕ). holding_with (kept.content keeper) most clock) limit

-- what is read of what was found is read as it is to be
pub read_as : (Finds : Finding) (prefix suffix : List ℕ) (question : Question)
    (held : Holding) {A : Type 0} (result : Result A Told) (bytes_of : A → List ℕ) →
    Finds.held held →
    MatchResult result (λ shown. Shows prefix suffix held question (bytes_of shown))
    (TellsHidden held question) →
    IsReadAs Finds prefix suffix (inquiry.Held question) (Ok tt) result bytes_of
read_as Finds prefix suffix question held (Ok shown) bytes_of found shows = (held, found, shows)
read_as Finds prefix suffix question held (Err told) bytes_of found tells = (held, found, tells)

-- what is read of the entries that were found is read as it is to be
pub log_as : (Finds : Finding) (prefix suffix : List ℕ) (from most : ℕ) (page : Entries)
    {A : Type 0} (result : Result A Told) (bytes_of : A → List ℕ) → Finds.log from most page →
    MatchResult result (λ shown. bytes_of shown ≡ entries_text form.Entries from page)
    (λ t. t ≡ told.NoMemory) →
    IsReadAs Finds prefix suffix (inquiry.Log from most) (Ok tt) result bytes_of
log_as Finds prefix suffix from most page (Ok shown) bytes_of found shows = (page, found, shows)
log_as Finds prefix suffix from most page (Err t) bytes_of found tells = tells

-- what is found of a keeper that was asked for its hour, and then made ready, is what it held
pub found_held : {K : Type 0} (kept : Keeping K) (keeper mid later : K) (found : Holding)
    (hour clock : ℕ)
    → (kept.sound later → kept.sound mid)
    → (kept.sound mid → kept.content mid ≡ kept.content keeper)
    → (kept.sound later → kept.content later ≡ kept.content mid)
    → kept.limit mid ≡ kept.limit keeper → kept.limit later ≡ kept.limit mid
    → (kept.sound mid → hour ≡ (kept.content keeper).hour)
    → (kept.sound later → hour ≡ (kept.content later).hour → found ≡ holding kept clock later)
    → kept.sound later → found ≡ holding kept clock keeper
found_held kept keeper mid later found hour clock stays first second before after told finds sound =
    let same : kept.content later ≡ kept.content keeper = second sound ∙ first (stays sound) in
    finds sound (told (stays sound) ∙ sym (ap (λ (all : BookContent). all.hour) same))
    ∙ still_held kept clock keeper later same (after ∙ before)
