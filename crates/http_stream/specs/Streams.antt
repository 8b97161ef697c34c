-- The requests of a whole stream of bytes.
use Rattle.std.specs.Prelude.{◌≡◌, ◌⊎◌, ℕ, Bool, true, false, List, [], ◌∷◌, ◌++◌, ⊤}
use Rattle.http_messages.specs.declared.audience.Audience.{Audience}
use Rattle.http_messages.specs.declared.request.HeadFault.{HeadFault}
use Rattle.http_messages.specs.declared.request.HeadFault.TheVariants.{BadHead}
use Rattle.http_messages.specs.declared.request.Method.{Method}
use Rattle.http_messages.specs.Requests.{Ask, HasAsk, IsFaulty, StopsShort}

-- what a request asks by its method, its target and its body, and whether its answer is to be the
-- last of the stream
abbrev pub ask_of : Method → List ℕ → List ℕ → Bool → Ask
ask_of method target body is_last = record {
  method = method;
  target = target;
  body = body;
  is_last = is_last;
}

-- What gets one answer: a whole request, or one that is refused by its head.
pub data Item : Type 0 where
  Calls : (ask : Ask) → Item
  Refuses : (why : HeadFault) → Item

-- The bytes are these requests of an audience, one after another. After a refusal, and after a request whose
-- answer is to be the last, none follows, whatever bytes follow. Where none of them is the last,
-- what is left of the bytes stops the row.
abbrev pub Follow : Audience → (List ℕ → Type 0) → List ℕ → List Item → Type 0
Follow audience stops bytes [] = stops bytes
Follow audience stops bytes (Refuses why ∷ items) = IsFaulty audience bytes why × (items ≡ [])
Follow audience stops bytes (Calls ask ∷ items) =
    (rest : List ℕ) × HasAsk audience bytes ask rest
    × (((ask.is_last ≡ true) × (items ≡ [])) ⊎ ((ask.is_last ≡ false) × Follow audience stops rest items))

-- These are the requests of a whole stream: where none of them is the last, it ends before another
-- is whole.
abbrev pub AreRequests : Audience → List ℕ → List Item → Type 0
AreRequests audience = Follow audience (StopsShort audience)

-- A stream begins with these requests.
abbrev pub BeginWith : Audience → List ℕ → List Item → Type 0
BeginWith audience = Follow audience (λ rest. ⊤)

-- Two lists are one, but for a bad head at the end of one of them.
abbrev pub AlmostSame : List Item → List Item → Type 0
AlmostSame a b = (a ≡ b) ⊎ (a ≡ b ++ Refuses BadHead ∷ []) ⊎ (b ≡ a ++ Refuses BadHead ∷ [])
