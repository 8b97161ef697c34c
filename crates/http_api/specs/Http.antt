-- What requests are answered over HTTP.
use Rattle.std.specs.Prelude.{◌≡◌, ◌≢◌, ◌⊎◌, ℕ, List, Bool, if◌then◌else◌, Some, None, Result}
use Rattle.http_messages.specs.Answers.{http_answer, no_memory_answer, refusal_answer}
use Rattle.http_messages.specs.Answers.{route_fault_answer}
use Rattle.http_messages.specs.declared.answer.BodyKind.{BodyKind}
use Rattle.http_messages.specs.declared.answer.BodyKind.TheVariants as kind
use Rattle.http_messages.specs.Requests.{Ask}
use Rattle.http_routes.specs.Targets.{TargetAsks, TargetFails}
use Rattle.http_routes.specs.declared.target.TargetAsk.TheVariants as target
use Rattle.http_routes.specs.declared.target.TargetFault.{TargetFault}
use Rattle.http_routes.specs.declared.target.TargetFault.TheVariants as why
use Rattle.http_stream.specs.Streams.{Item, Calls, Refuses}
use Rattle.builder.specs.Life.{IsProperDelivery}
use Rattle.builder.specs.Message.{IsMessage}
use Rattle.builder.specs.Replies.{answer_text, answer_status}
use Rattle.csv_import.specs.Rows.{AreRows, IsWrong, records_of}
use Rattle.csv_import.specs.declared.fault.CsvFault.{CsvFault}
use Rattle.csv_import.specs.declared.fault.CsvFault.TheVariants as csv
use Rattle.ring_book.specs.Book.{Asked, Finding}
use Rattle.ring_book.specs.Reads.{ReadShows, ReadTells}
use Rattle.ring_book.specs.Told.{told_of}
use Rattle.ring_log.specs.declared.inquiry.Inquiry.{Inquiry}
use Rattle.ring_log.specs.declared.inquiry.Inquiry.TheVariants as inquiry
use Rattle.ring_reads.specs.Reads.{is_file, is_json, is_metrics}
use Rattle.ring_reads.specs.declared.reads.Question.{Question}
use Rattle.request_book.specs.Call.{Deliver, Load}
use Rattle.request_book.specs.declared.book.Fault.{Fault}
use Rattle.ring_messages.specs.declared.told.Told.{Told}
use Rattle.ring_page.specs.declared.TheConstants.{PAGE}
use Rattle.ring_messages.specs.declared.told.Told.TheVariants as told
use Rattle.ring_words.specs.declared.command.Act.TheVariants as act
use Rattle.ring_words.specs.declared.command.Command.{Command}
use Rattle.ring_words.specs.declared.device.Row.{Row}
use Rattle.ring_words.specs.declared.request.Delivery.{Delivery}

-- ANSWERS

-- an answer of the builder over HTTP: its status, and its text as the body
abbrev pub told_answer : Bool → Told → List ℕ
told_answer is_last t =
    http_answer (record {
      status = answer_status t;
      kind = kind.Json;
      allow = None;
      is_last =
          is_last;
    }) (answer_text t)

-- a body that was asked for
abbrev pub shown_answer : Bool → BodyKind → List ℕ → List ℕ
shown_answer is_last kind body =
    http_answer (record { status = 200; kind = kind; allow = None; is_last = is_last }) body

-- what a table that can't be read is told as
abbrev pub told_csv : CsvFault → Told
told_csv csv.BadHeader = told.BadHeader
told_csv (csv.BadRow row) = told.BadRow row
told_csv (csv.BadField row column) = told.BadField row column
told_csv csv.ReadFailed = told.ReadFailed
told_csv csv.NoMemory = told.NoMemory

-- READS

-- what kind of body is shown of a question
abbrev pub question_kind : Question → BodyKind
question_kind asked = if is_json asked then kind.Json else (if is_metrics asked then kind.Metrics else
    (if is_file asked then kind.Bytes else kind.Text))

-- what kind of body is shown of what is asked: a part of the log is JSON, a line for each entry
abbrev pub shown_kind : Inquiry → BodyKind
shown_kind (inquiry.Held question) = question_kind question
shown_kind (inquiry.Log from most) = kind.JsonLines

-- What a read is answered where this is the answer of the call that it leads to: what is shown of
-- what is found, or why nothing is shown or can be read.
abbrev pub IsReadAnswer : Finding → Bool → List ℕ → List ℕ → Inquiry → Result (Unit {0}) Fault →
    List ℕ → Type 0
IsReadAnswer Finds is_last prefix suffix asked answer text =
    ((bytes : List ℕ) × ReadShows Finds prefix suffix asked answer bytes
    × (text ≡ shown_answer is_last (shown_kind asked) bytes))
    ⊎ ((t : Told) × ReadTells Finds asked answer t × (text ≡ told_answer is_last t))

-- DELIVERIES

-- The request asks that this is delivered: a message in its body, or the rows of the table in its
-- body for an import. The command is such as there are, and the hour has 32 bits.
abbrev pub AsksDelivered : Ask → Delivery Command → Type 0
AsksDelivered ask delivery = IsProperDelivery delivery
    × ((TargetAsks ask.target ask.method target.Deliver × IsMessage ask.body delivery.key
    delivery.command)
    ⊎ ((ring : List ℕ) × (rows : List Row) × TargetAsks ask.target ask.method
    (target.Import ring delivery.key)
    × AreRows (records_of ask.body) rows × (delivery.command ≡ record {
      ring = ring;
      act =
          act.Import rows;
    })))

-- What a target that asks for nothing is answered. Want of memory has no answer of its own.
abbrev pub IsFaultAnswer : Bool → TargetFault → List ℕ → Type 0
IsFaultAnswer is_last (why.Route fault) text = text ≡ route_fault_answer fault is_last
IsFaultAnswer is_last why.Unreadable text = text ≡ told_answer is_last told.Unreadable
IsFaultAnswer is_last why.BadPath text = text ≡ told_answer is_last told.BadPath
IsFaultAnswer is_last why.NoMemory text = ⊥

-- The request leads to no call, and gets this text: its target asks for nothing, its body is no
-- message, its body is no table, or it asks for the page for a browser, which is of no book.
abbrev pub IsUncalled : Ask → List ℕ → Type 0
IsUncalled ask text =
    ((fault : TargetFault) × TargetFails ask.target ask.method fault ×
    IsFaultAnswer ask.is_last fault text)
    ⊎ (TargetAsks ask.target ask.method target.Deliver
    × ((delivery : Delivery Command) → IsMessage ask.body delivery.key delivery.command → ⊥)
    × (text ≡ told_answer ask.is_last told.Unreadable))
    ⊎ ((ring : List ℕ) × (key : _) × (fault : CsvFault) × TargetAsks ask.target ask.method
    (target.Import ring key)
    × (fault ≢ csv.NoMemory) × IsWrong (records_of ask.body) fault ×
    (text ≡ told_answer ask.is_last (told_csv fault)))
    ⊎ (TargetAsks ask.target ask.method target.Page
    × (text ≡ shown_answer ask.is_last kind.Html PAGE.now))

-- ANSWERS TO REQUESTS

-- a clock may tell this hour now
abbrev pub MayTell : {C : Type 0} → (C → ℕ → C → Type 0) → C → ℕ → Type 0
MayTell {C} tells clock hour = (later : C) × tells clock hour later

module _ {C : Type 0} (tells : C → ℕ → C → Type 0) (prefix suffix : List ℕ) where
  -- A request gets this text where this is the call that it leads to, if any: a delivery's answer,
  -- at the hour that the clock tells; what a read is told of what is found at an hour that the clock
  -- may tell now; or why it leads to no call.
  abbrev pub IsHttpAnswer : (ℕ → Finding) → C → Ask → Asked → List ℕ → C → Type 0
  IsHttpAnswer Finds old ask None text new = IsUncalled ask text × (new ≡ old)
  IsHttpAnswer Finds old ask (Some (Deliver delivery answer)) text new =
      AsksDelivered ask delivery × tells old delivery.hour new ×
      (text ≡ told_answer ask.is_last (told_of answer))
  IsHttpAnswer Finds old ask (Some (Load answer)) text new =
      (asked : Inquiry) × TargetAsks ask.target ask.method (target.Read asked)
      × ((hour : ℕ) × MayTell tells old hour
      × IsReadAnswer (Finds hour) ask.is_last prefix suffix asked answer text) × (new ≡ old)

  -- A request whose answer found no memory: it led to no call, or to that of its delivery or its
  -- read.
  abbrev pub IsHttpLost : C → Ask → Asked → C → Type 0
  IsHttpLost old ask None new = new ≡ old
  IsHttpLost old ask (Some (Deliver delivery answer)) new = AsksDelivered ask delivery ×
      tells old delivery.hour new
  IsHttpLost old ask (Some (Load answer)) new =
      ((asked : Inquiry) × TargetAsks ask.target ask.method (target.Read asked))
      × (new ≡ old)

  -- What an item of a stream is given where this is the call that it leads to, if any: a request
  -- its answer, or what stands for an answer that found no memory; a request that is refused by its
  -- head its refusal, and no call.
  abbrev pub GetsHttp : (ℕ → Finding) → C → Item → Asked → List ℕ → C → Type 0
  GetsHttp Finds old (Calls ask) asked text new =
      IsHttpAnswer Finds old ask asked text new
      ⊎ (IsHttpLost old ask asked new × (text ≡ no_memory_answer ask.is_last))
  GetsHttp Finds old (Refuses fault) asked text new = (asked ≡ None) ×
      (text ≡ refusal_answer fault) × (new ≡ old)
