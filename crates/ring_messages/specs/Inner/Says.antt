-- Words that only carry proofs: what an object says of a command or a reply, whatever else stands
-- in it.
use Rattle.std.specs.Prelude.{◌≡◌, ℕ, ◌+◌, ◌<◌, ◌≤◌, List, [], ◌∷◌, Option, Some, None}
use Rattle.ring_words.specs.Limits.{greatest_long, greatest_short}
use Rattle.std.specs.Prelude.{codes, ⊤, option_map}
use Rattle.std.specs.Borrow.{Bor}
use Rattle.std.specs.List.{AllByRecursion, AllZip}
use Rattle.serde_json.specs.Data.{Data, number, unsigned, string, array}
use Rattle.serde_json.specs.Find.{at, get}
use Rattle.serde_json.specs.View.{items_of, view}
use Rattle.serde_json.specs.declared.value.Value.{Value}
use Rattle.ring_words.specs.Texts.{is_label, is_device_name, address_text, address_limit}
use Rattle.ring_words.specs.Texts.{hundredths_text, greatest_weight}
use Rattle.ring_words.specs.declared.request.Key.{Key}
use Rattle.ring_words.specs.Rows.{IsProperRow}
use Rattle.ring_words.specs.declared.device.Row.{Row}
use Rattle.ring_words.specs.declared.command.Command.{Command}
use Rattle.ring_words.specs.declared.command.Act.{Act}
use Rattle.ring_words.specs.declared.command.Done.{Done}
use Rattle.ring_words.specs.declared.command.Refusal.{Refusal}
use Rattle.ring_words.specs.declared.command.Refusal.TheVariants.{RowRefused}
use Rattle.ring_words.specs.declared.command.Reply.{Reply}
use Rattle.ring_words.specs.declared.command.Reply.TheVariants as reply
use Rattle.ring_messages.specs.Fields.{Field, Fields, within, device_name, address, weight, rows}
use Rattle.ring_messages.specs.Fields.{field_data}
use Rattle.ring_messages.specs.Commands.{act_word, act_fields, command_data}
use Rattle.ring_messages.specs.Message.{members_count}
use Rattle.ring_messages.specs.Reads.{IsNumber, IsName}
use Rattle.ring_messages.specs.Replies.{cause_rule, done_word, done_fields, refusal_rule}

-- What is seen of a value that may stand there.
abbrev pub seen_value : Option (Bor Value) → Option Data
seen_value found = option_map (λ v. view v.now) found

-- The text of this address stands there.
pub record IsAddress (found : Option Data) (address : ℕ) : Type 0 where
  pub is : found ≡ Some (string (address_text address))
  pub valid : address < address_limit

-- The text of this weight stands there.
pub record IsWeight (found : Option Data) (hundredths : ℕ) : Type 0 where
  pub is : found ≡ Some (string (hundredths_text hundredths))
  pub valid : hundredths ≤ greatest_weight

-- These say what device is asked for.
abbrev pub SaysRow : (of_region of_zone of_address of_port of_name of_weight : Option Data) → Row
    → Type 0
SaysRow of_region of_zone of_address of_port of_name of_weight r =
    IsNumber of_region 0 greatest_short r.region × (IsNumber of_zone 0 greatest_short r.zone
    × (IsAddress of_address r.address × (IsNumber of_port 1 greatest_short r.port
    × (IsName is_device_name of_name r.name × (IsWeight of_weight r.weight × ⊤)))))

-- The list of region, zone, address, port, name and weight says what device is asked for, and has
-- nothing behind them.
pub record ListsRow (d : Data) (r : Row) : Type 0 where
  pub row : SaysRow (at 0 d) (at 1 d) (at 2 d) (at 3 d) (at 4 d) (at 5 d) r
  pub end : at 6 d ≡ None

-- A list of such lists stands there, one for each row.
pub record ListsRows (found : Option Data) (rs : List Row) : Type 0 where
  pub lists : List Data
  pub is : found ≡ Some (array (items_of lists))
  pub each : AllZip ListsRow lists rs

-- The lists of these rows stand there, and the rows are such as there are.
pub record IsRows (found : Option Data) (rs : List Row) : Type 0 where
  pub is : found ≡ Some (field_data (rows rs))
  pub valid : AllByRecursion IsProperRow rs

-- The field stands there.
abbrev pub StandsInMessage : Option Data → Field → Type 0
StandsInMessage found (within least most n) = IsNumber found least most n
StandsInMessage found (device_name name) = IsName is_device_name found name
StandsInMessage found (address a) = IsAddress found a
StandsInMessage found (weight h) = IsWeight found h
StandsInMessage found (rows rs) = IsRows found rs

-- Each field stands under its key.
abbrev pub HasFields : Data → Fields → Type 0
HasFields d [] = ⊤
HasFields d (f ∷ fs) = StandsInMessage (get f.0 d) f.1 × HasFields d fs

-- The object says what is to be done.
pub record SaysAct (d : Data) (a : Act) : Type 0 where
  pub word : get (codes "do") d ≡ Some (string (act_word a))
  pub fields : HasFields d (act_fields a)

-- The object says which command it is.
pub record SaysCommand (d : Data) (c : Command) : Type 0 where
  pub ring : IsName is_label (get (codes "ring") d) c.ring
  pub act : SaysAct d c.act

-- The object says which key and which command it is, and has as many members as both.
pub record SaysDelivery (d : Data) (k : Key) (c : Command) : Type 0 where
  pub caller : IsName is_label (get (codes "caller") d) k.caller
  pub number : IsNumber (get (codes "number") d) 0 greatest_long k.number
  pub command : SaysCommand d c
  pub count : members_count d ≡ 2 + members_count (command_data c)

-- The object says that this was done.
pub record SaysDone (d : Data) (x : Done) : Type 0 where
  pub word : get (codes "done") d ≡ Some (string (done_word x))
  pub fields : HasFields d (done_fields x)

-- The object says which row was refused, and why.
abbrev pub SaysWhy : Data → Refusal → Type 0
SaysWhy d (RowRefused row why) = IsNumber (get (codes "row") d) 0 18446744073709551615 row
    × (get (codes "cause") d ≡ Some (number (unsigned (cause_rule why))))
SaysWhy d other = ⊤

-- The object says this refusal.
pub record SaysRefusal (d : Data) (r : Refusal) : Type 0 where
  pub rule : get (codes "rule") d ≡ Some (number (unsigned (refusal_rule r)))
  pub why : SaysWhy d r

-- The object says this reply: a refusal is by a rule, and what was done by none.
abbrev pub SaysReply : Data → Reply → Type 0
SaysReply d (reply.Done x) = (get (codes "rule") d ≡ None) × SaysDone d x
SaysReply d (reply.Refused r) = SaysRefusal d r
