-- What `ringd run` answers to its lines.
use Rattle.std.specs.Prelude.{◌≡◌, ◌⊎◌, ℕ, ◌<◌, ◌≤◌, ◌++◌, ◌∷◌, [], List, IsTrue}
use Rattle.std.specs.Prelude.{Some, None, Result, ⊤, codes, decimal, length}
use Rattle.ring_words.specs.Limits.{long_count}
use Rattle.line_stream.specs.Lines.{longest_line}
use Rattle.ring_words.specs.Spelling.{SpellsNumber}
use Rattle.ring_words.specs.Texts.{is_label}
use Rattle.ring_words.specs.declared.command.Command.{Command}
use Rattle.ring_words.specs.declared.request.Delivery.{Delivery}
use Rattle.ring_log.specs.Inquiries.{most_told, written_for}
use Rattle.ring_log.specs.declared.inquiry.Inquiry.{Inquiry}
use Rattle.ring_log.specs.declared.inquiry.Inquiry.TheVariants as inquiry
use Rattle.ring_reads.specs.Reads.{plain_word}
use Rattle.ring_reads.specs.declared.plain.Plain.{Plain}
use Rattle.ring_reads.specs.declared.reads.Question.{Question}
use Rattle.ring_reads.specs.declared.reads.Question.TheVariants as question
use Rattle.ring_reads.specs.declared.reads.Read.{Read}
use Rattle.ring_reads.specs.declared.reads.Read.TheVariants as read
use Rattle.ring_book.specs.Book.{Asked, Finding}
use Rattle.ring_book.specs.Reads.{ReadShows, ReadTells}
use Rattle.ring_book.specs.Told.{told_of}
use Rattle.request_book.specs.declared.book.Fault.{Fault}
use Rattle.request_book.specs.Call.{Deliver, Load}
use Rattle.builder.specs.Message.{IsMessage}
use Rattle.builder.specs.Replies.{answer_text, answer_status}
use Rattle.ring_messages.specs.declared.told.Told.{Told}
use Rattle.ring_messages.specs.declared.told.Told.TheVariants as told
use Rattle.line_api.specs.declared.lines.Request.{Request}
use Rattle.line_api.specs.declared.lines.Request.TheVariants as request

-- WHAT A LINE ASKS FOR

-- The line asks for this delivery: its hour in decimal, one space, and the message of its key and
-- its command.
pub record Asks (line : List ℕ) (delivery : Delivery Command) : Type 0 where
  pub message : List ℕ
  pub is : line ≡ decimal delivery.hour ++ 32 ∷ message
  pub hour : delivery.hour < long_count
  pub reads : IsMessage message delivery.key delivery.command

-- The words ask what a word alone asks of the ring of a name: the word, a space, and the name, which
-- is of the form of a ring's.
pub record AskPlain (words name : List ℕ) (plain : Plain) : Type 0 where
  pub is : words ≡ plain_word plain ++ 32 ∷ name
  pub named : IsTrue (is_label name)

-- The text is two numbers of 32 bits in decimal, with a space between them.
pub record AreTwoNumbers (text : List ℕ) (first second : ℕ) : Type 0 where
  pub is : text ≡ decimal first ++ 32 ∷ decimal second
  pub first_fits : first < long_count
  pub second_fits : second < long_count

-- The text is a name, a space, and two numbers.
pub record IsNumbered (text name : List ℕ) (first second : ℕ) : Type 0 where
  pub numbers : List ℕ
  pub is : text ≡ name ++ 32 ∷ numbers
  pub are : AreTwoNumbers numbers first second

-- The text is the name of a ring, which is of the form of a ring's, a space, and two numbers.
pub record NamesNumbers (text name : List ℕ) (first second : ℕ) : Type 0 where
  pub named : IsTrue (is_label name)
  pub numbered : IsNumbered text name first second

-- The words ask for this of the ring of a name: for what a word alone asks of it; by `preview` in
-- front of the name, the seed and the hour, for what a rebalance would do; by `moves` in front of
-- the name and two versions, for what moved between them.
abbrev pub AskOfRing : List ℕ → List ℕ → Read → Type 0
AskOfRing words name (read.Plain plain) = AskPlain words name plain
AskOfRing words name read.Tables = ⊥
AskOfRing words name (read.Nodes path) = ⊥
AskOfRing words name (read.Published version written) = ⊥
AskOfRing words name (read.Preview seed hour) =
    (text : List ℕ) × (words ≡ codes "preview " ++ text) × NamesNumbers text name seed hour
AskOfRing words name (read.Moves from to) =
    (text : List ℕ) × (words ≡ codes "moves " ++ text) × NamesNumbers text name from to
AskOfRing words name (read.EachMove from to) = ⊥

-- The words ask this: for the rings, for the status, or for something of a ring. None asks for the
-- metrics.
abbrev pub AskQuestion : List ℕ → Question → Type 0
AskQuestion words question.Rings = words ≡ codes "rings"
AskQuestion words question.Status = words ≡ codes "status"
AskQuestion words question.Metrics = ⊥
AskQuestion words (question.Ring name what) = AskOfRing words name what

-- The text is a place in decimal, a space, and how many entries of a log are asked for.
pub record AsksPart (text : List ℕ) (from most : ℕ) : Type 0 where
  pub size : List ℕ
  pub is : text ≡ decimal from ++ 32 ∷ size
  pub fits : from < long_count
  pub spelled : SpellsNumber size 1 most_told most

-- The words ask this of a book: something of what it holds; or, by `log` in front of a place and of
-- how many, the entries of its log from that place on.
abbrev pub AskInquiry : List ℕ → Inquiry → Type 0
AskInquiry words (inquiry.Held question) = AskQuestion words question
AskInquiry words (inquiry.Log from most) =
    (text : List ℕ) × (words ≡ codes "log " ++ text) × AsksPart text from most

-- The line asks this: a question mark, a space, and words that ask it.
pub record AsksInquiry (line : List ℕ) (asked : Inquiry) : Type 0 where
  pub words : List ℕ
  pub is : line ≡ codes "? " ++ words
  pub asks : AskInquiry words asked

-- the line asks for this, a delivery or what is shown
abbrev pub AsksFor : List ℕ → Request → Type 0
AsksFor line (request.Delivery delivery) = Asks line delivery
AsksFor line (request.Inquiry asked) = AsksInquiry line asked

-- WHAT IT IS ANSWERED

-- an answer as a line: its status, a space, and its text
abbrev pub answer_line : Told → List ℕ
answer_line t = decimal (answer_status t) ++ 32 ∷ answer_text t

-- What an inquiry is told where this is the answer of the call that it leads to: what is written of
-- what is shown of what is found, without the line feed at its end, or why nothing is shown or can be
-- read.
abbrev pub IsTold : Finding → Inquiry → Result (Unit {0}) Fault → List ℕ → Type 0
IsTold Finds asked answer text =
    ((bytes : List ℕ) × ReadShows Finds [] [] asked answer bytes
    × (text ++ 10 ∷ [] ≡ written_for asked bytes))
    ⊎ ((t : Told) × ReadTells Finds asked answer t × (text ≡ answer_line t))

-- A line gets this text where this is the call that it leads to, if any: a delivery's answer, what
-- an inquiry is told of what is found, or that it is unreadable.
abbrev pub IsAnswer : Finding → List ℕ → Asked → List ℕ → Type 0
IsAnswer Finds line None text = ((request : Request) → AsksFor line request → ⊥) ×
    (text ≡ answer_line told.Unreadable)
IsAnswer Finds line (Some (Deliver delivery answer)) text = Asks line delivery ×
    (text ≡ answer_line (told_of answer))
IsAnswer Finds line (Some (Load answer)) text = (asked : Inquiry) × AsksInquiry line asked ×
    IsTold Finds asked answer text

-- A line whose answer found no memory: it led to no call, or to that of its delivery or its
-- inquiry.
abbrev pub IsLost : List ℕ → Asked → Type 0
IsLost line None = ⊤
IsLost line (Some (Deliver delivery answer)) = Asks line delivery
IsLost line (Some (Load answer)) = (asked : Inquiry) × AsksInquiry line asked

-- What a line is given where this is the call that it leads to, if any: its answer, or what stands
-- for an answer that found no memory. A line of more than `longest_line` bytes is unreadable and
-- leads to no call.
abbrev pub Gets : Finding → List ℕ → Asked → List ℕ → Type 0
Gets Finds line asked text =
    ((length line ≤ longest_line) × (IsAnswer Finds line asked text ⊎
    (IsLost line asked × (text ≡ answer_line told.NoMemory))))
    ⊎ ((longest_line < length line) × (asked ≡ None) × (text ≡ answer_line told.Unreadable))
