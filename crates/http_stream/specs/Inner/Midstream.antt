-- What the parts of the server know in mid-stream.
use Rattle.std.specs.Prelude.{◌≡◌, ℕ, ◌+◌, ◌<◌, ◌≤◌, min, Bool, true, false, List, []}
use Rattle.std.specs.Prelude.{◌∷◌}
use Rattle.std.specs.Prelude.{length, Option}
use Rattle.std.specs.Io.KnownBytes.{Appends}
use Rattle.byte_streams.specs.Serving.{greatest_count}
use Rattle.byte_streams.specs.declared.fault.StreamFault.{StreamFault}
use Rattle.byte_streams.specs.declared.fault.StreamFault.TheVariants.{ReadFailed, WriteFailed}
use Rattle.byte_streams.specs.declared.fault.StreamFault.TheVariants.{NoMemory}
use Rattle.byte_streams.specs.InTurn.{InTurn}
use Rattle.byte_streams.specs.Writing.{Forwards, WritesBeginning}
use Rattle.http_messages.specs.declared.audience.Audience.{Audience}
use Rattle.http_messages.specs.Requests.{HasAsk}
use Rattle.http_stream.specs.Streams.{Item, Calls, Refuses, Follow, BeginWith}
use Rattle.http_stream.specs.Answers.{joined}
use Rattle.http_messages.specs.Requests.{longest_body, longest_head}

-- how many bytes are read at once, at most
abbrev pub piece_size : ℕ
piece_size = 16384

-- how many bytes of a stream wait at most: a request of the greatest length, and one more read
abbrev pub buffer_room : ℕ
buffer_room = longest_head + longest_body + piece_size

-- The bytes begin with these requests, of which none is the last, and then the rest comes.
abbrev pub LeadTo : Audience → List ℕ → List Item → List ℕ → Type 0
LeadTo audience bytes [] rest = rest ≡ bytes
LeadTo audience bytes (Refuses why ∷ items) rest = ⊥
LeadTo audience bytes (Calls ask ∷ items) rest =
    (mid : List ℕ) × HasAsk audience bytes ask mid × (ask.is_last ≡ false) × LeadTo audience mid items rest

-- Where a server of requests stands: the state that its answers made, what the writer tells that
-- was written, the answers that wait, the bytes that came and are not answered yet, and how many
-- requests were answered.
pub record StreamPlace (S : Type 0) : Type 0 where
  pub state : S
  pub written : Option (List ℕ)
  pub waiting : List ℕ
  pub rest : List ℕ
  pub answered : ℕ

module _ (audience : Audience) {S : Type 0} (gives : S → Item → List ℕ → S → Type 0) where
  -- The requests in the bytes up to the rest are answered, and none of them is the last. The
  -- answers are written or wait.
  pub record IsMidstream (bytes : List ℕ) (before : Option (List ℕ)) (old : S) (now : StreamPlace S)
      : Type 0 where
    pub items : List Item
    pub leads : LeadTo audience bytes items now.rest
    pub texts : List (List ℕ)
    pub in_turn : InTurn gives old items texts now.state
    pub forwards : Forwards before now.written (joined texts) now.waiting
    pub count_is : now.answered ≡ min (length items) greatest_count

  -- The requests in the bytes are answered up to the last. The answers are written or wait.
  pub record IsOver (bytes : List ℕ) (before : Option (List ℕ)) (old : S) (now : StreamPlace S) :
      Type 0 where
    pub items : List Item
    pub follow : Follow audience (λ rest. ⊥) bytes items
    pub texts : List (List ℕ)
    pub in_turn : InTurn gives old items texts now.state
    pub forwards : Forwards before now.written (joined texts) now.waiting
    pub count_is : now.answered ≡ min (length items) greatest_count

  -- Some requests in the bytes were answered, and a beginning of the answers was written.
  pub record IsBroken (bytes : List ℕ) (before : Option (List ℕ)) (old : S) (now : StreamPlace S) :
      Type 0 where
    pub items : List Item
    pub begin : BeginWith audience bytes items
    pub texts : List (List ℕ)
    pub in_turn : InTurn gives old items texts now.state
    pub written : WritesBeginning before now.written (joined texts)

-- So many bytes are there, or fewer and the input has ended.
abbrev pub IsFilledUp : Bool → ℕ → ℕ → Type 0 → Type 0
IsFilledUp true wanted count at_end = wanted ≤ count
IsFilledUp false wanted count at_end = (count < wanted) × at_end

-- A read failed before so many bytes were there, with what waited written; or a write failed.
abbrev pub FailedToRead : StreamFault → ℕ → ℕ → Option (List ℕ) → Option (List ℕ) → List ℕ → Type 0
FailedToRead ReadFailed wanted count before after waiting = (count < wanted) ×
    Appends before after waiting
FailedToRead WriteFailed wanted count before after waiting = WritesBeginning before after waiting
FailedToRead NoMemory wanted count before after waiting = ⊥
