-- One request at the front of a stream of bytes: which it is, whether it is refused, and where the
-- bytes end within it.
use Rattle.std.specs.Prelude.{◌≡◌, ℕ, ◌<◌, ◌≤◌, ◌⊎◌, ◌&&◌, not, Bool, List, [], ◌∷◌, length, take}
use Rattle.std.specs.Prelude.{drop, map, ◌++◌, codes, if◌then◌else◌, ◌==◌, nat_lt, nat_le, Option}
use Rattle.std.specs.Prelude.{Some, None, ◌+◌}
use Rattle.std.specs.List.{list_all, list_any}
use Rattle.std.specs.Str.{bytes_eq}
use Rattle.std.specs.Str.Parse.{digits_value}
use Rattle.std.specs.Char.{is_ascii_digit}
use Rattle.httparse.specs.Grammar.{RequestHead, print_request, ReadsRequest, HasNoRequest}
use Rattle.httparse.specs.Grammar.{MayBecomeRequest}
use Rattle.httparse.specs.Spans.{span_bytes, IsWithin, name_and_value, RequestOverflows}
use Rattle.http_messages.specs.declared.request.Method.{Method}
use Rattle.http_messages.specs.declared.request.Method.TheVariants.{Get, Post}
use Rattle.http_messages.specs.declared.request.HeadFault.{HeadFault}
use Rattle.http_messages.specs.declared.request.HeadFault.TheVariants.{BadHead, UnknownMethod}
use Rattle.http_messages.specs.declared.request.HeadFault.TheVariants.{WrongVersion, BadHost}
use Rattle.http_messages.specs.declared.request.HeadFault.TheVariants.{NoTransferCoding, BadLength}
use Rattle.http_messages.specs.declared.request.HeadFault.TheVariants.{NotAllowed, TooLarge}
use Rattle.http_messages.specs.declared.request.HeadFault.TheVariants.{LengthRequired}
use Rattle.http_messages.specs.declared.audience.Audience.{Audience}
use Rattle.http_messages.specs.declared.request.Framing.{Framing}
use Rattle.http_messages.specs.declared.request.Framing.TheVariants.{Faulty, Body}
use Rattle.http_messages.specs.declared.request.RequestParts.{RequestParts}
use Rattle.http_messages.specs.declared.request.Look.{Look}
use Rattle.http_messages.specs.declared.request.Look.TheVariants as look
use Rattle.http_messages.specs.Fields.{values_named, is_close}
use Rattle.http_messages.specs.Audiences.{is_allowed}

-- WHAT A HEAD ASKS FOR

-- the method of this name, if it is served
abbrev pub method_of : List ℕ → Option Method
method_of bytes =
    if bytes_eq bytes (codes "GET") then Some Get else
    if bytes_eq bytes (codes "POST") then Some Post else None

-- the number that 1 to 10 decimal digits write; they may begin with zeros
abbrev pub length_of_text : List ℕ → Option ℕ
length_of_text text =
    if nat_lt 0 (length text) && nat_le (length text) 10 && list_all is_ascii_digit text
    then Some (digits_value 10 text) else None

-- how many bytes a head has at most, with the empty line that ends it
abbrev pub longest_head : ℕ
longest_head = 8192

-- how many fields a head has at most
abbrev pub most_fields : ℕ
most_fields = 32

-- how many bytes a body has at most
abbrev pub longest_body : ℕ
longest_body = 65536

-- what follows a head whose Content-Length is this, where it is a number
abbrev pub framing_of_length : Option ℕ → Framing
framing_of_length None = Faulty BadLength
framing_of_length (Some count) = if nat_lt longest_body count then Faulty TooLarge else Body count

-- what follows a head where these are the values of its Content-Length fields
abbrev pub framing_of_lengths : Method → List (List ℕ) → Framing
framing_of_lengths Get [] = Body 0
framing_of_lengths Post [] = Faulty LengthRequired
framing_of_lengths method (text ∷ []) = framing_of_length (length_of_text text)
framing_of_lengths method (text ∷ other ∷ texts) = Faulty BadLength

-- The first fault of a head with this method, this minor version and these fields, or the length of
-- its body: the method is served, the version is not HTTP/1.0, there is one Host, the audience may
-- send it, there is no Transfer-Encoding, and then the length is judged.
abbrev pub framing_from : Audience → Option Method → ℕ → List (List ℕ × List ℕ) → Framing
framing_from audience None minor fields = Faulty UnknownMethod
framing_from audience (Some method) minor fields =
    if minor == 0 then Faulty WrongVersion else
    if not (length (values_named (codes "host") fields) == 1) then Faulty BadHost else
    if not (is_allowed audience method fields) then Faulty NotAllowed else
    if not (length (values_named (codes "transfer-encoding") fields) == 0) then
    Faulty NoTransferCoding else
    framing_of_lengths method (values_named (codes "content-length") fields)

-- the fields of a head, the white space round each value left out
abbrev pub fields_of : RequestHead → List (List ℕ × List ℕ)
fields_of head = map name_and_value head.fields

-- the first fault of a head, or the length of its body
abbrev pub framing_of : Audience → RequestHead → Framing
framing_of audience head =
    framing_from audience (method_of head.method) head.minor (fields_of head)

-- WHAT THE BYTES OF A STREAM BEGIN WITH

-- What a request asks: its method, the target as it stands in the head, the body, and whether its
-- answer is to be the last of the stream.
pub record Ask : Type 0 where
  pub method : Method
  pub target : List ℕ
  pub body : List ℕ
  pub is_last : Bool

-- The bytes begin with this head and then this comes. A head has no more bytes and fields than a
-- head may have.
pub record HasHead (bytes : List ℕ) (head : RequestHead) (tail : List ℕ) : Type 0 where
  pub reads : ReadsRequest bytes head tail
  pub short : length (print_request head) ≤ longest_head
  pub few : length head.fields ≤ most_fields

-- The bytes begin with a whole request of this audience, which asks this, and then the rest comes.
pub record HasAsk (audience : Audience) (bytes : List ℕ) (ask : Ask) (rest : List ℕ) : Type 0 where
  pub head : RequestHead
  pub tail : List ℕ
  pub reads : HasHead bytes head tail
  pub framing : framing_of audience head ≡ Body (length ask.body)
  pub method : method_of head.method ≡ Some ask.method
  pub target : ask.target ≡ head.target
  pub last : ask.is_last ≡ list_any is_close (fields_of head)
  pub tail_is : tail ≡ ask.body ++ rest

-- Whatever bytes follow, there is no head of so few fields at the front, or none in as
-- many bytes as a head may have.
abbrev pub IsBadHead : List ℕ → Type 0
IsBadHead bytes =
    RequestOverflows most_fields bytes ⊎ ((longest_head ≤ length bytes)
    × HasNoRequest (take longest_head bytes))

-- The bytes begin with a request that is refused for this reason.
abbrev pub IsFaulty : Audience → List ℕ → HeadFault → Type 0
IsFaulty audience bytes why =
    ((why ≡ BadHead) × IsBadHead bytes)
    ⊎ ((head : RequestHead) × (tail : List ℕ) × HasHead bytes head tail ×
    (framing_of audience head ≡ Faulty why))

-- The bytes end before a whole head.
pub record EndsInHead (bytes : List ℕ) : Type 0 where
  pub short : length bytes < longest_head
  pub none : HasNoRequest bytes
  pub goes_on : MayBecomeRequest bytes

-- The bytes end before a whole body.
pub record EndsInBody (audience : Audience) (bytes : List ℕ) : Type 0 where
  pub head : RequestHead
  pub tail : List ℕ
  pub count : ℕ
  pub reads : HasHead bytes head tail
  pub framing : framing_of audience head ≡ Body count
  pub short : length tail < count

-- The bytes end before a whole request.
abbrev pub StopsShort : Audience → List ℕ → Type 0
StopsShort audience bytes = EndsInHead bytes ⊎ EndsInBody audience bytes

-- WHAT LOOKING AT A BUFFER TELLS

-- the request that lies there in a buffer
abbrev pub ask_at : List ℕ → RequestParts → Ask
ask_at buf parts =
    record {
      method = parts.method;
      target = span_bytes buf parts.target;
      body = span_bytes buf parts.body;
      is_last = parts.is_last;
    }

-- What is at the front of a buffer. More bytes are needed if the stream has them: with fewer than
-- so many in all, it ends before a whole request, whatever they are.
abbrev pub IsLook : Audience → List ℕ → Look → Type 0
IsLook audience buf (look.More count) =
    (length buf < count) × (count ≤ longest_head + longest_body)
    × ((more : List ℕ) → length (buf ++ more) < count → StopsShort audience (buf ++ more))
IsLook audience buf (look.Faulty why) = IsFaulty audience buf why
IsLook audience buf (look.Whole parts) =
    IsWithin (length buf) parts.target × IsWithin (length buf) parts.body
    × HasAsk audience buf (ask_at buf parts) (drop parts.body.end buf)
