-- Which bytes are a message, and of which key and command.
use Rattle.std.specs.Prelude.{◌≡◌, ◌≢◌, ℕ, ◌+◌, List, Some, codes, IsUtf8}
use Rattle.ring_words.specs.Limits.{greatest_long}
use Rattle.serde_json.specs.Data.{Data, null, boolean, number, string, array, object, Members, put}
use Rattle.serde_json.specs.Events.{members_len}
use Rattle.serde_json.specs.Find.{get}
use Rattle.serde_json.specs.Read.{read}
use Rattle.serde_json.specs.Written.{compact_text}
use Rattle.ring_words.specs.Texts.{is_label}
use Rattle.ring_words.specs.declared.request.Key.{Key}
use Rattle.ring_words.specs.declared.command.Command.{Command}
use Rattle.ring_messages.specs.Commands.{command_data, IsProperCommand}
use Rattle.ring_messages.specs.Fields.{whole}
use Rattle.ring_messages.specs.Reads.{IsNumber, IsName}

-- How many members an object has; what is no object has none.
abbrev pub members_count : Data → ℕ
members_count null = 0
members_count (boolean b) = 0
members_count (number n) = 0
members_count (string s) = 0
members_count (array ds) = 0
members_count (object ms) = members_len ms

-- The object says who asks and by which number. Its other members are those of the command's
-- object, and there are no more.
pub record IsDelivery (d : Data) (k : Key) (c : Command) : Type 0 where
  pub caller : IsName is_label (get (codes "caller") d) k.caller
  pub number : IsNumber (get (codes "number") d) 0 greatest_long k.number
  pub proper : IsProperCommand c
  pub members : (name : List ℕ) → name ≢ codes "caller" → name ≢ codes "number" →
      get name d ≡ get name (command_data c)
  pub count : members_count d ≡ 2 + members_count (command_data c)

-- The bytes are a message of this key and this command.
pub record IsMessage (bytes : List ℕ) (k : Key) (c : Command) : Type 0 where
  pub utf8 : IsUtf8 bytes
  pub value : Data
  pub is : read bytes ≡ Some value
  pub delivery : IsDelivery value k c

-- WHAT IS WRITTEN OF A MESSAGE

-- The members with who asks and by which number put among them.
abbrev pub keyed_members : Key → Members → Members
keyed_members k ms =
    put (codes "caller") (string k.caller) (put (codes "number") (whole k.number) ms)

-- The object with who asks and by which number among its members. What is no object stays.
abbrev pub with_key : Key → Data → Data
with_key k (object ms) = object (keyed_members k ms)
with_key k other = other

-- What is written of a request: the command's object, and in it who asks and by which number.
abbrev pub message_data : Key → Command → Data
message_data k c = with_key k (command_data c)

-- The text of it, in compact JSON, its keys in byte order.
abbrev pub message_text : Key → Command → List ℕ
message_text k c = compact_text (message_data k c)
