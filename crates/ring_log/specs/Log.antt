-- What is told of decided requests, a line each: as compact JSON, its keys in byte order, or as the
-- line that asks for it again.
use Rattle.std.specs.Prelude.{ℕ, ◌+◌, List, [], ◌∷◌, ◌++◌, codes, decimal}
use Rattle.serde_json.specs.Data.{Data, object, Members, no_members, member, put}
use Rattle.serde_json.specs.Written.{compact_text}
use Rattle.request_book.specs.declared.entry.Entry.{Entry}
use Rattle.ring_messages.specs.Fields.{whole}
use Rattle.ring_messages.specs.Message.{message_data, message_text}
use Rattle.ring_messages.specs.Replies.{answer_status, reply_data}
use Rattle.ring_messages.specs.declared.told.Told.TheVariants as told
use Rattle.ring_words.specs.declared.command.Command.{Command}
use Rattle.ring_words.specs.declared.command.Reply.{Reply}
use Rattle.ring_log.specs.declared.text.LogForm.{LogForm}
use Rattle.ring_log.specs.declared.text.LogForm.TheVariants as form

-- a decided request of a book of rings
abbrev pub DecidedEntry : Type 0
DecidedEntry = Entry Command Reply

-- the numbers that are told of the entry at a place: the hour that it was decided at, its place, and
-- the status that its reply has
abbrev pub entry_figures : ℕ → DecidedEntry → Members
entry_figures place e =
    member (codes "hour") (whole e.hour)
    (member (codes "place") (whole place)
    (member (codes "status") (whole (answer_status (told.Reply e.reply))) no_members))

-- what is told of the entry at a place: these, its request as a message, and its reply
abbrev pub entry_data : ℕ → DecidedEntry → Data
entry_data place e =
    object (put (codes "request") (message_data e.key e.command)
    (put (codes "reply") (reply_data e.reply) (entry_figures place e)))

-- The line that asks for the delivery of an entry: the hour that it was decided at, a space, and its
-- message.
abbrev pub delivery_line : DecidedEntry → List ℕ
delivery_line e = decimal e.hour ++ 32 ∷ message_text e.key e.command

-- the text of the entry at a place, in a form
abbrev pub entry_text : LogForm → ℕ → DecidedEntry → List ℕ
entry_text form.Entries place e = compact_text (entry_data place e)
entry_text form.Deliveries place e = delivery_line e

-- a line for each entry, by rising place, of which the first has this one
abbrev pub entries_text : LogForm → ℕ → List DecidedEntry → List ℕ
entries_text written place [] = []
entries_text written place (e ∷ es) =
    (entry_text written place e ++ 10 ∷ []) ++ entries_text written (place + 1) es
