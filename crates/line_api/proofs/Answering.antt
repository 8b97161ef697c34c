-- What an inquiry is told is the answer of its line.
use Rattle.std.proofs.Common.{List, Result, Ok, Err, Some, ℕ}
use Rattle.std.specs.Prelude.{IfOk, MatchResult}
use Rattle.request_book.specs.Call.{Load}
use Rattle.request_book.specs.declared.book.Fault.{Fault}
use Rattle.ring_book.specs.Book.{Found, Keeping, Made, RingBook}
use Rattle.ring_log.specs.declared.inquiry.Inquiry.{Inquiry}
use Rattle.line_api.specs.Inner.Answering.{Answers, Loses}
use Rattle.line_api.specs.Lines.{AsksInquiry, IsTold}

pub inquiry_answered : {K : Type 0} (kept : Keeping K) (old new : RingBook kept) (line : List ℕ)
    (asked : Inquiry) → AsksInquiry line asked → (answer : Result (Unit {0}) Fault) →
    Made kept old new (Some (Load answer)) → {A E : Type 0} (bytes_of : A → List ℕ)
    (result : Result A E) →
    IfOk result (λ text. IsTold (Found kept 0 old new) asked answer (bytes_of text)) →
    MatchResult result (λ text. Answers kept old line (bytes_of text) new)
    (λ _. Loses kept old line new)
inquiry_answered kept old new line asked asks answer made bytes_of (Ok text) is =
    (Some (Load answer), (asked, asks, is), made)
inquiry_answered kept old new line asked asks answer made bytes_of (Err why) is =
    (Some (Load answer), (asked, asks), made)
