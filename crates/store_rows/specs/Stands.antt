-- What the tables contain where the store holds rings and a book.
use Rattle.std.specs.Prelude.{◌≡◌, ◌<◌, ◌≤◌, ℕ, pos, false, List, [], ◌∷◌, ◌++◌, map, length}
use Rattle.ring_words.specs.Limits.{long_count, most_numbers, most_rings}
use Rattle.std.specs.Prelude.{All, AllPairs, IsTrue}
use Rattle.std.specs.List.{enumerate_from}
use Rattle.std.specs.FinMap.{from_entries, empty}
use Rattle.ring_words.specs.Texts.{is_label}
use Rattle.ring_words.specs.declared.command.Command.{Command}
use Rattle.ring_words.specs.declared.command.Reply.{Reply}
use Rattle.ring_words.specs.declared.request.Key.{Key}
use Rattle.ring_model.specs.Ring.{RingRecord}
use Rattle.ring_model.specs.Rings.{AreByName}
use Rattle.ring_model.specs.Valid.{IsValid}
use Rattle.ring_messages.specs.Commands.{canonical, IsProperCommand}
use Rattle.ring_messages.specs.Replies.{reply_text, IsProperReply}
use Rattle.request_book.specs.Content.{Content, same_key}
use Rattle.request_book.specs.Run.{last_hour}
use Rattle.request_book.specs.declared.entry.Entry.{Entry}
use Rattle.store_model.specs.Contents.{Contents}
use Rattle.store_model.specs.Entries as rows
use Rattle.store_rows.specs.RingRows.{NamedRings, ring_entries, device_entries, published_entries}
use Rattle.store_rows.specs.RingRows.{part_entries}
use Rattle.store_rows.specs.FirstRows.{seat_entries, moved_entries}
use Rattle.store_rows.specs.OwnTexts.{HavePublishedOwn}

-- ---- the book as rows

-- A decided request with its reply.
abbrev pub DecidedRequest : Type 0
DecidedRequest = Entry Command Reply

-- Rings, a book and the greatest hour.
abbrev pub RingContent : Type 0
RingContent = Content NamedRings Command Reply

-- The key of a request's row.
abbrev pub key_of_request : Key → rows.NameNumber
key_of_request key = (key.caller, pos key.number)

-- The row of the request that was decided after so many others: its hour, and the one text of its
-- command and of its reply.
abbrev pub request_entry : ℕ × DecidedRequest → rows.NameNumber × rows.Request
request_entry e = (
  key_of_request e.1.key,
  record {
    place = pos e.0;
    hour = pos e.1.hour;
    command = canonical e.1.command;
    reply = reply_text e.1.reply;
  },
)

-- The rows of `request`: one for each decided request.
abbrev pub request_entries : List DecidedRequest → List (rows.NameNumber × rows.Request)
request_entries book = map request_entry (enumerate_from 0 book)

-- The row on the whole store.
abbrev pub meta_value : ℕ → ℕ → rows.Meta
meta_value schema hour = record { schema = pos schema; hour = pos hour }

-- ---- what stands for a content

-- What the tables contain where the store holds this content.
abbrev pub contents_for : RingContent → Contents
contents_for content = record {
  meta = from_entries ((pos 1, meta_value 2 content.hour) ∷ []);
  rings = from_entries (ring_entries content.state);
  devices = from_entries (device_entries content.state);
  seats = empty;
  moved = empty;
  published = from_entries (published_entries content.state);
  requests = from_entries (request_entries content.book);
  parts = from_entries (part_entries content.state);
}

-- The same in a store of schema 1: seats and moves have rows of their own, and partitions have
-- none.
abbrev pub first_contents_for : RingContent → Contents
first_contents_for content = record {
  meta = from_entries ((pos 1, meta_value 1 content.hour) ∷ []);
  rings = from_entries (ring_entries content.state);
  devices = from_entries (device_entries content.state);
  seats = from_entries (seat_entries content.state);
  moved = from_entries (moved_entries content.state);
  published = from_entries (published_entries content.state);
  requests = from_entries (request_entries content.book);
  parts = empty;
}

-- ---- which contents a store can hold

-- A valid ring under a ring's name.
pub record IsNamedRing (e : List ℕ × RingRecord) : Type 0 where
  pub name : IsTrue (is_label e.0)
  pub valid : IsValid e.1

-- No more rings than may be kept, each under a name of its own.
pub record AreRings (rings : NamedRings) : Type 0 where
  pub count : length rings ≤ most_rings
  pub by_name : AreByName rings
  pub each : All IsNamedRing rings

-- A decided request has a caller's name, and its numbers, its command and its reply are such as
-- there are.
pub record IsDecision (e : DecidedRequest) : Type 0 where
  pub caller : IsTrue (is_label e.key.caller)
  pub number : e.key.number < long_count
  pub hour : e.hour < long_count
  pub command : IsProperCommand e.command
  pub reply : IsProperReply e.reply

-- No more requests than may be kept, each under a key of its own, at hours that do not fall.
pub record IsBook (book : List DecidedRequest) : Type 0 where
  pub count : length book ≤ most_numbers
  pub apart : AllPairs (λ a b. same_key a.key b.key ≡ false) book
  pub each : All IsDecision book
  pub rise : AllPairs (λ a b. a.hour ≤ b.hour) book

-- A store can hold this content: its rings and its book are such as there are, what the rings
-- published are their own texts, and its hour is that of the last request. Where there is no request,
-- the hour is the one that the book goes on from.
pub record IsHoldable (content : RingContent) : Type 0 where
  pub rings : AreRings content.state
  pub texts : HavePublishedOwn content.state
  pub book : IsBook content.book
  pub hour : last_hour content.hour content.book ≡ content.hour
  pub small : content.hour < long_count

-- The content with one more request at the end of its book.
abbrev pub gained : RingContent → DecidedRequest → RingContent
gained content entry = record {
  state = content.state;
  book = content.book ++ entry ∷ [];
  hour = entry.hour;
}
