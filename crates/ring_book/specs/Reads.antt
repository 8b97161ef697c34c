-- What a book tells of what it is asked.
use Rattle.std.specs.Prelude.{◌≡◌, ℕ, Err, List, MatchResult, Ok, Result}
use Rattle.builder.specs.Safety.{Entries}
use Rattle.request_book.specs.declared.book.Fault.{Fault}
use Rattle.ring_log.specs.Log.{entries_text}
use Rattle.ring_log.specs.declared.inquiry.Inquiry.{Inquiry}
use Rattle.ring_log.specs.declared.inquiry.Inquiry.TheVariants as inquiry
use Rattle.ring_log.specs.declared.text.LogForm.TheVariants as form
use Rattle.ring_messages.specs.declared.told.Told.{Told}
use Rattle.ring_messages.specs.declared.told.Told.TheVariants as told
use Rattle.ring_reads.specs.Holding.{Holding}
use Rattle.ring_reads.specs.Reads.{Hides, Shows}
use Rattle.ring_reads.specs.declared.reads.Hidden.{Hidden}
use Rattle.ring_reads.specs.declared.reads.Question.{Question}
use Rattle.ring_book.specs.Book.{Finding}
use Rattle.ring_book.specs.Told.{told_fault, told_hidden}

-- This is told where nothing is shown of a question.
abbrev pub TellsHidden : Holding → Question → Told → Type 0
TellsHidden held question t = (why : Hidden) × Hides held question why × (t ≡ told_hidden why)

-- These bytes are shown where that is found: of what is held what is shown of a question, and of the
-- book the entries from a place on, at most so many, a line of JSON each. Paths are hashed between a prefix and a suffix.
abbrev pub FoundShows : Finding → List ℕ → List ℕ → Inquiry → List ℕ → Type 0
FoundShows Finds prefix suffix (inquiry.Held question) bytes =
    (held : Holding) × Finds.held held × Shows prefix suffix held question bytes
FoundShows Finds prefix suffix (inquiry.Log from most) text =
    (page : Entries) × Finds.log from most page × (text ≡ entries_text form.Entries from page)

-- Nothing is shown of what is found, and this is told. A log is hidden by want of memory alone.
abbrev pub FoundTells : Finding → Inquiry → Told → Type 0
FoundTells Finds (inquiry.Held question) t =
    (held : Holding) × Finds.held held × TellsHidden held question t
FoundTells Finds (inquiry.Log from most) t = t ≡ told.NoMemory

-- Where this is the answer of the call that an inquiry leads to, the inquiry gets these bytes: what
-- is shown of what the call finds.
abbrev pub ReadShows : Finding → List ℕ → List ℕ → Inquiry → Result (Unit {0}) Fault → List ℕ →
    Type 0
ReadShows Finds prefix suffix asked (Ok ready) bytes = FoundShows Finds prefix suffix asked bytes
ReadShows Finds prefix suffix asked (Err fault) bytes = ⊥

-- Where this is the answer of the call that an inquiry leads to, the inquiry gets no bytes and is
-- told this: why nothing is shown of what the call finds, or why nothing can be read.
abbrev pub ReadTells : Finding → Inquiry → Result (Unit {0}) Fault → Told → Type 0
ReadTells Finds asked (Ok ready) t = FoundTells Finds asked t
ReadTells Finds asked (Err fault) t = t ≡ told_fault fault

-- So an inquiry whose call was answered like this comes out: with bytes, or with what is told.
abbrev pub IsReadAs : Finding → List ℕ → List ℕ → Inquiry → Result (Unit {0}) Fault →
    {A : Type 0} → Result A Told → (A → List ℕ) → Type 0
IsReadAs Finds prefix suffix asked answer result bytes_of = MatchResult result
    (λ shown. ReadShows Finds prefix suffix asked answer (bytes_of shown))
    (λ told. ReadTells Finds asked answer told)
