-- The answers that are constants.
use Rattle.std.proofs.Common.{◌≡◌, codes, lit<, lit≤, refl, true, false}
use Rattle.serde_json.proofs.OnLiterals.{serde_json_on_literals}
use Rattle.http_messages.specs.declared.request.Method.TheVariants.{Get, Post}
use Rattle.http_messages.specs.declared.request.HeadFault.TheVariants.{BadHead, UnknownMethod}
use Rattle.http_messages.specs.declared.request.HeadFault.TheVariants.{WrongVersion, BadHost}
use Rattle.http_messages.specs.declared.request.HeadFault.TheVariants.{NoTransferCoding, BadLength}
use Rattle.http_messages.specs.declared.request.HeadFault.TheVariants.{NotAllowed, TooLarge}
use Rattle.http_messages.specs.declared.request.HeadFault.TheVariants.{LengthRequired}
use Rattle.http_messages.specs.declared.faults.RouteFault.TheVariants.{NoRoute, WrongMethod}
use Rattle.http_messages.specs.Answers.{http_answer, no_memory_answer, refusal_answer}
use Rattle.http_messages.specs.Answers.{route_fault_answer}
use Rattle.http_messages.proofs.Digits.{one_digit, two_digits, three_digits}

pub bad_head : codes
    "HTTP/1.1 400 Bad Request\r\nContent-Type: application/json\r\nContent-Length: 32\r\nConnection: close\r\n\r\n{\"fault\":\"BadHead\",\"status\":400}"
    ≡ refusal_answer BadHead
unfolding serde_json_on_literals http_answer
bad_head = rw (three_digits 400 (lit≤ tt) (lit< tt), two_digits 32 (lit≤ tt) (lit< tt)) refl

pub wrong_version : codes
    "HTTP/1.1 505 HTTP Version Not Supported\r\nContent-Type: application/json\r\nContent-Length: 37\r\nConnection: close\r\n\r\n{\"fault\":\"WrongVersion\",\"status\":505}"
    ≡ refusal_answer WrongVersion
unfolding serde_json_on_literals http_answer
wrong_version = rw (three_digits 505 (lit≤ tt) (lit< tt), two_digits 37 (lit≤ tt) (lit< tt)) refl

pub bad_host : codes
    "HTTP/1.1 400 Bad Request\r\nContent-Type: application/json\r\nContent-Length: 32\r\nConnection: close\r\n\r\n{\"fault\":\"BadHost\",\"status\":400}"
    ≡ refusal_answer BadHost
unfolding serde_json_on_literals http_answer
bad_host = rw (three_digits 400 (lit≤ tt) (lit< tt), two_digits 32 (lit≤ tt) (lit< tt)) refl

pub not_allowed : codes
    "HTTP/1.1 403 Forbidden\r\nContent-Type: application/json\r\nContent-Length: 35\r\nConnection: close\r\n\r\n{\"fault\":\"NotAllowed\",\"status\":403}"
    ≡ refusal_answer NotAllowed
unfolding serde_json_on_literals http_answer
not_allowed = rw (three_digits 403 (lit≤ tt) (lit< tt), two_digits 35 (lit≤ tt) (lit< tt)) refl

pub no_transfer_coding : codes
    "HTTP/1.1 501 Not Implemented\r\nContent-Type: application/json\r\nContent-Length: 41\r\nConnection: close\r\n\r\n{\"fault\":\"NoTransferCoding\",\"status\":501}"
    ≡ refusal_answer NoTransferCoding
unfolding serde_json_on_literals http_answer
no_transfer_coding = rw (three_digits 501 (lit≤ tt) (lit< tt), two_digits 41 (lit≤ tt) (lit< tt))
    refl

pub bad_length : codes
    "HTTP/1.1 400 Bad Request\r\nContent-Type: application/json\r\nContent-Length: 34\r\nConnection: close\r\n\r\n{\"fault\":\"BadLength\",\"status\":400}"
    ≡ refusal_answer BadLength
unfolding serde_json_on_literals http_answer
bad_length = rw (three_digits 400 (lit≤ tt) (lit< tt), two_digits 34 (lit≤ tt) (lit< tt)) refl

pub too_large : codes
    "HTTP/1.1 413 Payload Too Large\r\nContent-Type: application/json\r\nContent-Length: 33\r\nConnection: close\r\n\r\n{\"fault\":\"TooLarge\",\"status\":413}"
    ≡ refusal_answer TooLarge
unfolding serde_json_on_literals http_answer
too_large = rw (three_digits 413 (lit≤ tt) (lit< tt), two_digits 33 (lit≤ tt) (lit< tt)) refl

pub length_required : codes
    "HTTP/1.1 411 Length Required\r\nContent-Type: application/json\r\nContent-Length: 39\r\nConnection: close\r\n\r\n{\"fault\":\"LengthRequired\",\"status\":411}"
    ≡ refusal_answer LengthRequired
unfolding serde_json_on_literals http_answer
length_required = rw (three_digits 411 (lit≤ tt) (lit< tt), two_digits 39 (lit≤ tt) (lit< tt)) refl

pub unknown_method : codes
    "HTTP/1.1 501 Not Implemented\r\nContent-Length: 0\r\nConnection: close\r\n\r\n"
    ≡ refusal_answer UnknownMethod
unfolding serde_json_on_literals http_answer
unknown_method = rw (three_digits 501 (lit≤ tt) (lit< tt), one_digit 0 (lit< tt)) refl

pub no_route : codes
    "HTTP/1.1 404 Not Found\r\nContent-Type: application/json\r\nContent-Length: 32\r\n\r\n{\"fault\":\"NoRoute\",\"status\":404}"
    ≡ route_fault_answer NoRoute false
unfolding serde_json_on_literals http_answer
no_route = rw (three_digits 404 (lit≤ tt) (lit< tt), two_digits 32 (lit≤ tt) (lit< tt)) refl

pub get_alone : codes
    "HTTP/1.1 405 Method Not Allowed\r\nContent-Type: application/json\r\nContent-Length: 36\r\nAllow: GET\r\n\r\n{\"fault\":\"WrongMethod\",\"status\":405}"
    ≡ route_fault_answer (WrongMethod Get) false
unfolding serde_json_on_literals http_answer
get_alone = rw (three_digits 405 (lit≤ tt) (lit< tt), two_digits 36 (lit≤ tt) (lit< tt)) refl

pub post_alone : codes
    "HTTP/1.1 405 Method Not Allowed\r\nContent-Type: application/json\r\nContent-Length: 36\r\nAllow: POST\r\n\r\n{\"fault\":\"WrongMethod\",\"status\":405}"
    ≡ route_fault_answer (WrongMethod Post) false
unfolding serde_json_on_literals http_answer
post_alone = rw (three_digits 405 (lit≤ tt) (lit< tt), two_digits 36 (lit≤ tt) (lit< tt)) refl

pub lost : codes
    "HTTP/1.1 503 Service Unavailable\r\nContent-Type: application/json\r\nContent-Length: 30\r\n\r\n{\"fault\":\"NoMemory\",\"rule\":23}"
    ≡ no_memory_answer false
unfolding serde_json_on_literals http_answer
lost = rw (
  three_digits 503 (lit≤ tt) (lit< tt),
  two_digits 23 (lit≤ tt) (lit< tt),
  two_digits 30 (lit≤ tt) (lit< tt),
) refl

pub no_route_last : codes
    "HTTP/1.1 404 Not Found\r\nContent-Type: application/json\r\nContent-Length: 32\r\nConnection: close\r\n\r\n{\"fault\":\"NoRoute\",\"status\":404}"
    ≡ route_fault_answer NoRoute true
unfolding serde_json_on_literals http_answer
no_route_last = rw (three_digits 404 (lit≤ tt) (lit< tt), two_digits 32 (lit≤ tt) (lit< tt)) refl

pub get_alone_last : codes
    "HTTP/1.1 405 Method Not Allowed\r\nContent-Type: application/json\r\nContent-Length: 36\r\nAllow: GET\r\nConnection: close\r\n\r\n{\"fault\":\"WrongMethod\",\"status\":405}"
    ≡ route_fault_answer (WrongMethod Get) true
unfolding serde_json_on_literals http_answer
get_alone_last = rw (three_digits 405 (lit≤ tt) (lit< tt), two_digits 36 (lit≤ tt) (lit< tt)) refl

pub post_alone_last : codes
    "HTTP/1.1 405 Method Not Allowed\r\nContent-Type: application/json\r\nContent-Length: 36\r\nAllow: POST\r\nConnection: close\r\n\r\n{\"fault\":\"WrongMethod\",\"status\":405}"
    ≡ route_fault_answer (WrongMethod Post) true
unfolding serde_json_on_literals http_answer
post_alone_last = rw (three_digits 405 (lit≤ tt) (lit< tt), two_digits 36 (lit≤ tt) (lit< tt)) refl

pub lost_last : codes
    "HTTP/1.1 503 Service Unavailable\r\nContent-Type: application/json\r\nContent-Length: 30\r\nConnection: close\r\n\r\n{\"fault\":\"NoMemory\",\"rule\":23}"
    ≡ no_memory_answer true
unfolding serde_json_on_literals http_answer
lost_last = rw (
  three_digits 503 (lit≤ tt) (lit< tt),
  two_digits 23 (lit≤ tt) (lit< tt),
  two_digits 30 (lit≤ tt) (lit< tt),
) refl
