-- What is written of a table, of JSON or of a log ends with a line feed.
use Rattle.std.proofs.Common.{◌≡◌, ℕ, List, [], ◌∷◌, ◌++◌, codes, decimal, map, refl, sym, ap, ◌∙◌}
use Rattle.std.proofs.Common.{append-nil, append_assoc, subst, Result, Ok, Err}
use Rattle.std.specs.Prelude.{◌+◌, if◌then◌else◌}
use Rattle.std.specs.List.{concat, zip}
use Rattle.ring_model.specs.Ring.{RingRecord}
use Rattle.ring_words.specs.Texts.{hundredths_text}
use Rattle.ring_share.specs.Figures.{ring_balance, ring_dispersion}
use Rattle.builder.specs.Safety.{Entries}
use Rattle.request_book.specs.declared.book.Fault.{Fault}
use Rattle.ring_book.specs.Book.{Finding}
use Rattle.ring_book.specs.Reads.{ReadShows}
use Rattle.ring_log.specs.Inquiries.{AsksText, asks_json, written_for}
use Rattle.ring_log.specs.Log.{DecidedEntry, entries_text, entry_text}
use Rattle.ring_log.specs.declared.text.LogForm.TheVariants as form
use Rattle.ring_log.specs.declared.inquiry.Inquiry.{Inquiry}
use Rattle.ring_log.specs.declared.inquiry.Inquiry.TheVariants as inquiry
use Rattle.ring_reads.specs.Holding.{Holding, hour_now}
use Rattle.ring_reads.specs.Reads.{IsPlainText, IsText, Shows, written_as}
use Rattle.ring_reads.specs.declared.plain.Plain.{Plain}
use Rattle.ring_reads.specs.declared.plain.Plain.TheVariants.{Devices, Balance, Ring, Locks}
use Rattle.ring_reads.specs.declared.reads.Question.{Question}
use Rattle.ring_reads.specs.declared.reads.Question.TheVariants as question
use Rattle.ring_reads.specs.declared.reads.Read.TheVariants as read
use Rattle.ring_tables.specs.Layout.{Columns, cells, row, table}
use Rattle.ring_tables.specs.Tables.{balance_columns, balance_table, balance_texts, balance_titles}
use Rattle.ring_tables.specs.Tables.{device_columns, device_table, device_texts, device_titles}
use Rattle.ring_tables.specs.Tables.{figures_line}
use Rattle.line_api.specs.Lines.{AskQuestion, AsksInquiry}

-- a text ends with a line feed
abbrev pub IsEnded : List ℕ → Type 0
IsEnded text = (front : List ℕ) × (text ≡ front ++ 10 ∷ [])

-- rows behind a text that ends so end so
rows_end : (columns : Columns) (front : List ℕ) (rows : List (List (List ℕ))) →
    IsEnded ((front ++ 10 ∷ []) ++ concat (map (row columns) rows))
rows_end columns front [] = (front, append-nil (front ++ 10 ∷ []))
rows_end columns front (texts ∷ rows) =
    let before : List ℕ = front ++ 10 ∷ [] in
    let after : List ℕ = concat (map (row columns) rows) in
    let rest = rows_end columns (before ++ cells columns texts) rows in (
      rest.0,
      sym (append_assoc before (row columns texts) after) ∙ ap (λ (t : List ℕ). t ++ after)
          (sym (append_assoc before (cells columns texts) (10 ∷ []))) ∙ rest.1,
    )

device_table_ends : (ring : RingRecord) (text : List ℕ) → text ≡ device_table ring →
    IsEnded text
device_table_ends ring text is =
    let rest = rows_end device_columns (cells device_columns device_titles)
    (map device_texts ring.devices) in
    (rest.0, is ∙ rest.1)

figures_end : (ring : RingRecord) → IsEnded (figures_line ring)
figures_end ring = (
  codes "balance " ++ hundredths_text (ring_balance ring) ++
      codes " dispersion " ++ hundredths_text (ring_dispersion ring) ++ codes " version " ++
      decimal ring.version,
  refl,
)

balance_table_ends : (ring : RingRecord) (wants text : List ℕ) → text ≡ balance_table ring wants →
    IsEnded text
balance_table_ends ring wants text is =
    let rows : List ℕ = table balance_columns balance_titles (map (λ e. balance_texts ring e.0 e.1)
    (zip ring.devices wants)) in
    let last = figures_end ring in (
      rows ++ last.0,
      is ∙ ap (λ (t : List ℕ). rows ++ t) last.1 ∙ sym (append_assoc rows last.0 (10 ∷ [])),
    )

plain_ends : (plain : Plain) (name : List ℕ) (ring : RingRecord) (hour : ℕ) (text : List ℕ) →
    IsPlainText plain name ring hour text →
    IsEnded (written_as (question.Ring name (read.Plain plain)) text)
plain_ends Devices name ring hour text is = device_table_ends ring text is
plain_ends Balance name ring hour text is = balance_table_ends ring is.0 text is.2
plain_ends Ring name ring hour text is = (text, refl)
plain_ends Locks name ring hour text is = (text, refl)

-- what is written of a question ends with a line feed
held_ends : (prefix suffix words : List ℕ) (asked : Question) → AskQuestion words asked →
    (held : Holding) (bytes : List ℕ) → Shows prefix suffix held asked bytes →
    IsEnded (written_as asked bytes)
held_ends prefix suffix words question.Rings asks held bytes shows = (bytes, refl)
held_ends prefix suffix words question.Status asks held bytes shows = (bytes, refl)
held_ends prefix suffix words question.Metrics asks held bytes shows = absurd asks
held_ends prefix suffix words (question.Ring name (read.Plain plain)) asks held bytes shows =
    plain_ends plain name shows.0 (hour_now held) bytes shows.2
held_ends prefix suffix words (question.Ring name read.Tables) asks held bytes shows = absurd asks
held_ends prefix suffix words (question.Ring name (read.Nodes path)) asks held bytes shows =
    absurd asks
held_ends prefix suffix words (question.Ring name (read.Published version written)) asks held bytes
    shows = absurd asks
held_ends prefix suffix words (question.Ring name (read.Preview seed hour)) asks held bytes shows =
    (bytes, refl)
held_ends prefix suffix words (question.Ring name (read.Moves from to)) asks held bytes shows =
    (bytes, refl)
held_ends prefix suffix words (question.Ring name (read.EachMove from to)) asks held bytes shows =
    absurd asks

-- what is written ends with a line feed where one JSON text and its line feed do, or all else as it
-- is
written_ends : (asked : Inquiry) (bytes : List ℕ)
    → IsEnded (if asks_json asked then bytes ++ 10 ∷ [] else bytes)
    → IsEnded (written_for asked bytes)
written_ends asked [] ends = ([], refl)
written_ends asked (b ∷ bytes) ends = ends

-- the lines of entries end with a line feed
lines_end : (place : ℕ) (e : DecidedEntry) (es : Entries) →
    IsEnded (entries_text form.Entries place (e ∷ es))
lines_end place e [] =
    (entry_text form.Entries place e, append-nil (entry_text form.Entries place e ++ 10 ∷ []))
lines_end place e (f ∷ es) =
    let first : List ℕ = entry_text form.Entries place e ++ 10 ∷ [] in
    let rest = lines_end (place + 1) f es in (
      first ++ rest.0,
      ap (λ (t : List ℕ). first ++ t) rest.1 ∙ sym (append_assoc first rest.0 (10 ∷ [])),
    )

log_ends : (from most : ℕ) (page : Entries) (bytes : List ℕ)
    → bytes ≡ entries_text form.Entries from page
    → IsEnded (written_for (inquiry.Log from most) bytes)
log_ends from most [] bytes is =
    subst (λ (t : List ℕ). IsEnded (written_for (inquiry.Log from most) t)) (sym is) ([], refl)
log_ends from most (e ∷ es) bytes is =
    let lines = lines_end from e es in
    written_ends (inquiry.Log from most) bytes (lines.0, is ∙ lines.1)

-- what is written of what a line asks for ends with a line feed
pub shown_ends : (Finds : Finding) (prefix suffix line : List ℕ) (asked : Inquiry) →
    AsksInquiry line asked → (answer : Result (Unit {0}) Fault) (bytes : List ℕ) →
    ReadShows Finds prefix suffix asked answer bytes → IsEnded (written_for asked bytes)
shown_ends Finds prefix suffix line (inquiry.Held question) asks (Ok ready) bytes shows =
    written_ends (inquiry.Held question) bytes
    (held_ends prefix suffix asks.words question asks.asks shows.0 bytes shows.2)
shown_ends Finds prefix suffix line (inquiry.Held question) asks (Err fault) bytes shows =
    absurd shows
shown_ends Finds prefix suffix line (inquiry.Log from most) asks (Ok ready) bytes shows =
    log_ends from most shows.0 bytes shows.2
shown_ends Finds prefix suffix line (inquiry.Log from most) asks (Err fault) bytes shows =
    absurd shows

-- what is shown of a question is text
held_text : (words : List ℕ) (asked : Question) → AskQuestion words asked → IsText asked
held_text words question.Rings asks = tt
held_text words question.Status asks = tt
held_text words question.Metrics asks = absurd asks
held_text words (question.Ring name (read.Plain plain)) asks = tt
held_text words (question.Ring name read.Tables) asks = absurd asks
held_text words (question.Ring name (read.Nodes path)) asks = absurd asks
held_text words (question.Ring name (read.Published version written)) asks = absurd asks
held_text words (question.Ring name (read.Preview seed hour)) asks = tt
held_text words (question.Ring name (read.Moves from to)) asks = tt
held_text words (question.Ring name (read.EachMove from to)) asks = absurd asks

-- what is shown of what a line asks for is text
pub is_text : (line : List ℕ) (asked : Inquiry) → AsksInquiry line asked → AsksText asked
is_text line (inquiry.Held question) asks = held_text asks.words question asks.asks
is_text line (inquiry.Log from most) asks = tt
