-- What a body leads to is an answer.
use Rattle.std.proofs.Common.{◌≡◌, ◌∙◌, ℕ, List, ap, subst, sym, inl, inr, Some, None, Result, Ok}
use Rattle.std.proofs.Common.{Err, refl}
use Rattle.std.specs.Prelude.{IfOk, MatchResult, Vec}
use Rattle.std.specs.declared.alloc.AllocError.{AllocError}
use Rattle.std.specs.declared.alloc.Global.{Global}
use Rattle.http_messages.specs.Requests.{Ask}
use Rattle.http_messages.specs.declared.answer.BodyKind.TheVariants as kind
use Rattle.http_routes.specs.Targets.{TargetAsks}
use Rattle.http_routes.specs.declared.target.TargetAsk.TheVariants as target
use Rattle.ring_book.specs.Book.{Asked, Found, Keeping, Made, RingBook}
use Rattle.ring_log.specs.declared.inquiry.Inquiry.{Inquiry}
use Rattle.request_book.specs.declared.book.Fault.{Fault}
use Rattle.request_book.specs.Call.{Deliver, Load}
use Rattle.ring_messages.specs.declared.told.Told.{Told}
use Rattle.ring_words.specs.declared.request.Key.{Key}
use Rattle.ring_page.specs.declared.TheConstants.{PAGE}
use Rattle.http_api.specs.Http.{IsReadAnswer, MayTell, shown_answer, told_answer}
use Rattle.http_api.specs.Inner.Telling.{IsImportTold, IsMessageTold}
use Rattle.http_api.specs.Inner.Answering.{HttpAnswers, HttpLoses}

module _ {K C : Type 0} (kept : Keeping K)
    (tells : C → ℕ → C → Type 0) (prefix suffix : List ℕ) (ask : Ask) (early late : C)
    (old new : RingBook kept) (t : Told) where
  abbrev Tells : Result (Vec ℕ Global) AllocError → Type 0
  Tells result = IfOk result (λ text. text.items ≡ told_answer ask.is_last t)

  abbrev Answered : Result (Vec ℕ Global) AllocError → Type 0
  Answered result = MatchResult result
      (λ text. HttpAnswers kept tells prefix suffix (early, old) ask
      text.items (late, new))
      (λ _. HttpLoses kept tells prefix suffix (early, old) ask (late, new))

  pub message_answered : (asked : Asked) → TargetAsks ask.target ask.method target.Deliver →
      Made kept old new asked
      → IsMessageTold tells early late ask.body asked (Ok t) →
      (result : Result (Vec ℕ Global) AllocError) → Tells result → Answered result
  message_answered None asks made told (Ok text) is = (
    None,
    (
      inr (inl (
        asks,
        λ delivery message. told.1 delivery.key delivery.command message,
        is ∙ ap (told_answer ask.is_last) told.2,
      )),
      told.0,
    ),
    made,
  )
  message_answered None asks made told (Err refused) is = (None, told.0, made)
  message_answered (Some (Deliver delivery answer)) asks made told (Ok text) is = (
    Some (Deliver delivery answer),
    (
      (told.3, inl (asks, told.1)),
      told.0,
      is ∙ ap (told_answer ask.is_last) told.2,
    ),
    made,
  )
  message_answered (Some (Deliver delivery answer)) asks made told (Err refused) is =
      (Some (Deliver delivery answer), ((told.3, inl (asks, told.1)), told.0), made)
  message_answered (Some (Load answer)) asks made told result is = absurd told

  pub import_answered : (asked : Asked) (ring : List ℕ) (key : Key) →
      TargetAsks ask.target ask.method (target.Import ring key) → Made kept
      old new asked
      → IsImportTold tells early late ring key ask.body asked (Ok t) →
      (result : Result (Vec ℕ Global) AllocError) → Tells result → Answered result
  import_answered None ring key asks made told (Ok text) is = (
    None,
    (
      inr (inr (inl (
        ring,
        key,
        told.1.0,
        asks,
        told.1.1,
        told.1.2,
        is ∙ ap (told_answer ask.is_last) told.1.3,
      ))),
      told.0,
    ),
    made,
  )
  import_answered None ring key asks made told (Err refused) is = (None, told.0, made)
  import_answered (Some (Deliver delivery answer)) ring key asks made told (Ok text) is =
      let same = subst (λ (k : Key). TargetAsks ask.target ask.method (target.Import ring k))
      (sym told.1) asks in (
        Some (Deliver delivery answer),
        (
          (told.4, inr (ring, told.2.0, same, told.2.1, told.2.2)),
          told.0,
          is ∙ ap (told_answer ask.is_last) told.3,
        ),
        made,
      )
  import_answered (Some (Deliver delivery answer)) ring key asks made told (Err refused) is =
      let same = subst (λ (k : Key). TargetAsks ask.target ask.method (target.Import ring k))
      (sym told.1) asks in (
        Some (Deliver delivery answer),
        ((told.4, inr (ring, told.2.0, same, told.2.1, told.2.2)), told.0),
        made,
      )
  import_answered (Some (Load answer)) ring key asks made told result is = absurd told

module _ {K C : Type 0} (kept : Keeping K)
    (tells : C → ℕ → C → Type 0) (prefix suffix : List ℕ) (ask : Ask) (clock : C)
    (old new : RingBook kept) where
  -- the page is an answer that leads to no call
  pub page_answered : TargetAsks ask.target ask.method target.Page → Made kept old new None →
      (result : Result (Vec ℕ Global) AllocError) →
      IfOk result (λ text. text.items ≡ shown_answer ask.is_last kind.Html PAGE.now) →
      MatchResult result
      (λ text. HttpAnswers kept tells prefix suffix (clock, old) ask
      text.items (clock, new))
      (λ _. HttpLoses kept tells prefix suffix (clock, old) ask (clock, new))
  page_answered asks made (Ok text) is = (None, (inr (inr (inr (asks, is))), refl), made)
  page_answered asks made (Err refused) is = (None, refl, made)

  -- what a read shows or is told is an answer
  pub read_answered : (asked : Inquiry) →
      TargetAsks ask.target ask.method (target.Read asked) →
      (answer : Result (Unit {0}) Fault) → Made kept old new
      (Some (Load answer)) →
      (result : Result (Vec ℕ Global) AllocError) →
      IfOk result (λ text. (hour : ℕ) × MayTell tells clock hour
      × IsReadAnswer (Found kept hour old new) ask.is_last
      prefix suffix asked answer text.items) →
      MatchResult result
      (λ text. HttpAnswers kept tells prefix suffix (clock, old) ask
      text.items (clock, new))
      (λ _. HttpLoses kept tells prefix suffix (clock, old) ask (clock, new))
  read_answered asked asks answer made (Ok text) is = (
    Some (Load answer),
    (asked, asks, is, refl),
    made,
  )
  read_answered asked asks answer made (Err refused) is = (
    Some (Load answer),
    ((asked, asks), refl),
    made,
  )
