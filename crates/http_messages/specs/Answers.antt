-- The bytes of an answer over HTTP/1.1 (RFC 9112, 4 and 6).
use Rattle.std.specs.Prelude.{ℕ, Bool, true, List, [], ◌∷◌, ◌++◌, length, codes, decimal, Option}
use Rattle.std.specs.Prelude.{Some, None, if◌then◌else◌}
use Rattle.http.specs.StatusCode.{status_text}
use Rattle.serde_json.specs.Data.{unsigned, number, string, object, no_members, member}
use Rattle.serde_json.specs.Written.{compact_text}
use Rattle.http_messages.specs.declared.request.Method.{Method}
use Rattle.http_messages.specs.declared.request.Method.TheVariants.{Get, Post}
use Rattle.http_messages.specs.declared.request.HeadFault.{HeadFault}
use Rattle.http_messages.specs.declared.request.HeadFault.TheVariants.{BadHead, UnknownMethod}
use Rattle.http_messages.specs.declared.request.HeadFault.TheVariants.{WrongVersion, BadHost}
use Rattle.http_messages.specs.declared.request.HeadFault.TheVariants.{NoTransferCoding, BadLength}
use Rattle.http_messages.specs.declared.request.HeadFault.TheVariants.{NotAllowed, TooLarge}
use Rattle.http_messages.specs.declared.request.HeadFault.TheVariants.{LengthRequired}
use Rattle.http_messages.specs.declared.answer.AnswerHead.{AnswerHead}
use Rattle.http_messages.specs.declared.answer.BodyKind.{BodyKind}
use Rattle.http_messages.specs.declared.answer.BodyKind.TheVariants.{Bytes, Html, Json, JsonLines}
use Rattle.http_messages.specs.declared.answer.BodyKind.TheVariants.{Metrics, Text}
use Rattle.http_messages.specs.declared.faults.RouteFault.{RouteFault}
use Rattle.http_messages.specs.declared.faults.RouteFault.TheVariants.{NoRoute, WrongMethod}

-- HEAD AND BODY

-- the end of a line: carriage return and line feed
abbrev pub line_end : List ℕ
line_end = 13 ∷ 10 ∷ []

-- a line of a head: a name, a value, and its end
abbrev pub head_line : List ℕ → List ℕ → List ℕ
head_line name value = name ++ value ++ line_end

-- the first line: the version, the status and its phrase
abbrev pub status_line : ℕ → List ℕ
status_line status = head_line (codes "HTTP/1.1 ") (status_text status)

-- the line that tells how many bytes the body has
abbrev pub length_line : ℕ → List ℕ
length_line count = head_line (codes "Content-Length: ") (decimal count)

-- what kind of text a body is
abbrev pub kind_text : BodyKind → List ℕ
kind_text Json = codes "application/json"
kind_text Text = codes "text/plain"
kind_text Metrics = codes "text/plain; version=0.0.4; charset=utf-8"
kind_text Bytes = codes "application/octet-stream"
kind_text Html = codes "text/html; charset=utf-8"
kind_text JsonLines = codes "application/x-ndjson"

-- the name of a method
abbrev pub method_text : Method → List ℕ
method_text Get = codes "GET"
method_text Post = codes "POST"

-- the line that names the method which a target has, if it is to be told
abbrev pub allow_line : Option Method → List ℕ
allow_line None = []
allow_line (Some method) = head_line (codes "Allow: ") (method_text method)

-- the line that says that this answer is the last
abbrev pub close_line : Bool → List ℕ
close_line is_last = if is_last then head_line (codes "Connection: ") (codes "close") else []

-- An answer: its head, an empty line, and its body.
unfoldable pub http_answer : AnswerHead → List ℕ → List ℕ
http_answer head body =
    status_line head.status ++ head_line (codes "Content-Type: ") (kind_text head.kind) ++
    length_line (length body)
    ++ allow_line head.allow ++ close_line head.is_last ++ line_end ++ body

-- FAULTS

-- what the body of a fault tells: its name and the status
abbrev pub fault_body : List ℕ → ℕ → List ℕ
fault_body name status =
    compact_text (object (member (codes "fault") (string name)
    (member (codes "status") (number (unsigned status)) no_members)))

-- the answer that is a fault with this name and status, with the method that the target has, if it
-- is to be told
abbrev pub fault_answer : List ℕ → ℕ → Option Method → Bool → List ℕ
fault_answer name status allow is_last =
    http_answer (record { status = status; kind = Json; allow = allow; is_last = is_last })
    (fault_body name status)

-- The answer to a request that is refused by its head. It is the last of the stream. A method that
-- isn't served is answered without a body.
abbrev pub refusal_answer : HeadFault → List ℕ
refusal_answer BadHead = fault_answer (codes "BadHead") 400 None true
refusal_answer UnknownMethod = status_line 501 ++ length_line 0 ++ close_line true ++ line_end
refusal_answer WrongVersion = fault_answer (codes "WrongVersion") 505 None true
refusal_answer BadHost = fault_answer (codes "BadHost") 400 None true
refusal_answer NotAllowed = fault_answer (codes "NotAllowed") 403 None true
refusal_answer NoTransferCoding = fault_answer (codes "NoTransferCoding") 501 None true
refusal_answer BadLength = fault_answer (codes "BadLength") 400 None true
refusal_answer TooLarge = fault_answer (codes "TooLarge") 413 None true
refusal_answer LengthRequired = fault_answer (codes "LengthRequired") 411 None true

-- The answer to a request whose target has no route, or has it for the other method, which is told.
abbrev pub route_fault_answer : RouteFault → Bool → List ℕ
route_fault_answer NoRoute is_last = fault_answer (codes "NoRoute") 404 None is_last
route_fault_answer (WrongMethod method) is_last =
    fault_answer (codes "WrongMethod") 405 (Some method) is_last

-- what the body of the answer to want of memory tells
abbrev pub no_memory_body : List ℕ
no_memory_body =
    compact_text (object (member (codes "fault") (string (codes "NoMemory"))
    (member (codes "rule") (number (unsigned 23)) no_members)))

-- The answer that stands for one which found no memory.
abbrev pub no_memory_answer : Bool → List ℕ
no_memory_answer is_last =
    http_answer (record { status = 503; kind = Json; allow = None; is_last = is_last })
    no_memory_body
