-- What is found of the rows of a store.
use Rattle.std.specs.Prelude.{◌≡◌, ◌⊎◌, ◌↔◌, ℕ, pos, map, length, List, Result, Ok, Err, IsTrue}
use Rattle.std.specs.Prelude.{MatchOption, ⊤}
use Rattle.ring_words.specs.declared.spelling.SpellingFault.TheVariants.{Bad, NoMemory}
use Rattle.std.specs.FinMap.{FinMap, empty, entries, from_entries}
use Rattle.request_book.specs.Run.{last_hour}
use Rattle.ring_words.specs.declared.spelling.SpellingFault.{SpellingFault}
use Rattle.store_model.specs.declared.rows.MetaRow.{MetaRow}
use Rattle.store_model.specs.Contents.{Contents, meta_of, ring_of, device_of, seat_of, moved_of}
use Rattle.store_model.specs.Contents.{published_of, part_of}
use Rattle.store_model.specs.Changes.{prepared}
use Rattle.store_model.specs.Entries.{Request, name_number_cmp}
use Rattle.store_rows.specs.Callers.{Bounds}
use Rattle.store_rows.specs.Stands.{DecidedRequest, IsBook, RingContent, IsHoldable, contents_for}
use Rattle.store_rows.specs.Stands.{first_contents_for, request_entries}
use Rattle.store_rows.specs.declared.books.FoundBook.{FoundBook}
use Rattle.store_rows.specs.declared.books.ReadBook.{ReadBook}
use Rattle.store_rows.specs.declared.judging.StoreRows.{StoreRows}
use Rattle.store_rows.specs.declared.judging.Judged.{Judged}

-- The table of requests is that of a book, of which this is to be held.
pub record IsBookFound (requests : FinMap name_number_cmp Request) (found : FoundBook) : Type 0 where
  pub book : List DecidedRequest
  pub is : IsBook book
  pub stands : requests ≡ from_entries (request_entries book)
  pub last : last_hour 0 book ≡ found.last
  pub count : length book ≡ found.count
  pub callers : Bounds found.callers book

-- What was read of the table of requests: whether it has no row, and the book that it is of, or that
-- it is of none.
pub record SaysBook (requests : FinMap name_number_cmp Request) (read : ReadBook) : Type 0 where
  pub none : IsTrue read.is_empty ↔ (requests ≡ empty)
  pub found : MatchOption read.found
      ((book : List DecidedRequest) → IsBook book → requests ≡ from_entries (request_entries book) → ⊥)
      (IsBookFound requests)

-- These are all rows of the tables, by rising keys, and what was read of those of requests.
pub record AreRowsOf (rows : StoreRows) (c : Contents) : Type 0 where
  pub meta : map meta_of rows.meta.items ≡ entries c.meta
  pub rings : map ring_of rows.rings.items ≡ entries c.rings
  pub devices : map device_of rows.devices.items ≡ entries c.devices
  pub seats : map seat_of rows.seats.items ≡ entries c.seats
  pub moved : map moved_of rows.moved.items ≡ entries c.moved
  pub published : map published_of rows.published.items ≡ entries c.published
  pub book : SaysBook c.requests rows.book
  pub parts : map part_of rows.parts.items ≡ entries c.parts

-- The row on the whole store where the greatest hour is this.
abbrev pub meta_now : ℕ → MetaRow
meta_now hour = record { one = pos 1; schema = pos 2; hour = pos hour }

-- This content was found in the tables. Where they are of schema 1, they are to be migrated by
-- these changes, and then they stand for the same content.
pub record IsFoundIn (c : Contents) (content : RingContent) (found : Judged) : Type 0 where
  pub holdable : IsHoldable content
  pub rings : found.rings ≡ content.state
  pub count : found.count ≡ length content.book
  pub hour : found.hour ≡ content.hour
  pub callers : Bounds found.callers content.book
  pub stands : MatchOption found.migration (c ≡ contents_for content)
      (λ changes. (c ≡ first_contents_for content) ×
      (prepared c changes.items (meta_now content.hour) ≡ contents_for content))

-- The tables stand for this content, in a store of this schema or of the first one.
pub record StandFor (c : Contents) (content : RingContent) : Type 0 where
  pub holdable : IsHoldable content
  pub stands : (c ≡ contents_for content) ⊎ (c ≡ first_contents_for content)

-- A content is found where the answer is Ok. Where it is Bad, the tables stand for none. Want of
-- memory says nothing.
abbrev pub Judges : Contents → Result Judged SpellingFault → Type 0
Judges c (Ok found) = (content : RingContent) × IsFoundIn c content found
Judges c (Err Bad) = (content : RingContent) → StandFor c content → ⊥
Judges c (Err NoMemory) = ⊤
