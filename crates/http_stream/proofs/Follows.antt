-- Rows of requests, as more bytes come.
use Rattle.std.proofs.Common.{◌≡◌, ◌<◌, ℕ, true, false, List, [], ◌∷◌, ◌++◌, length, ap, subst, inl}
use Rattle.std.proofs.Common.{inr, arith, length-append}
use Rattle.httparse.specs.Grammar.{RequestHead, print_request}
use Rattle.http_messages.specs.declared.audience.Audience.{Audience}
use Rattle.http_messages.specs.declared.request.HeadFault.{HeadFault}
use Rattle.http_messages.specs.Requests.{Ask, HasAsk, IsFaulty}
use Rattle.http_messages.proofs.RequestLemmas.{HasAsk-more, IsFaulty-more}
use Rattle.http_stream.specs.Streams.{Item, Calls, Refuses, Follow}
use Rattle.http_stream.specs.Inner.Midstream.{LeadTo}

-- what comes after more was read
pub LeadTo-more : (audience : Audience) (bytes : List ℕ) (items : List Item) (rest more : List ℕ) →
    LeadTo audience bytes items rest → LeadTo audience (bytes ++ more) items (rest ++ more)
LeadTo-more audience bytes [] rest more l = ap (λ (t : List ℕ). t ++ more) l
LeadTo-more audience bytes (Refuses why ∷ items) rest more l = absurd l
LeadTo-more audience bytes (Calls ask ∷ items) rest more l =
    (l.0 ++ more, HasAsk-more bytes ask l.0 more l.1, l.2, LeadTo-more audience l.0 items rest more l.3)

-- requests that lead to others
pub LeadTo-then : (audience : Audience) (bytes : List ℕ) (items : List Item) (mid : List ℕ) (others : List Item)
    (rest : List ℕ) → LeadTo audience bytes items mid → LeadTo audience mid others rest →
    LeadTo audience bytes (items ++ others) rest
LeadTo-then audience bytes [] mid others rest l m = subst (λ (t : List ℕ). LeadTo audience t others rest) l m
LeadTo-then audience bytes (Refuses why ∷ items) mid others rest l m = absurd l
LeadTo-then audience bytes (Calls ask ∷ items) mid others rest l m =
    (l.0, l.1, l.2, LeadTo-then audience l.0 items mid others rest l.3 m)

pub LeadTo-push : (audience : Audience) (bytes : List ℕ) (items : List Item) (mid : List ℕ) (ask : Ask) (rest : List ℕ) →
    LeadTo audience bytes items mid → HasAsk audience mid ask rest → ask.is_last ≡ false →
    LeadTo audience bytes (items ++ Calls ask ∷ []) rest
LeadTo-push audience bytes items mid ask rest l a more = LeadTo-then audience bytes items mid (Calls ask ∷ []) rest l
    (rest, a, more, λ i. rest)

pub Follow-after : (audience : Audience) (stops : List ℕ → Type 0) (bytes : List ℕ) (items : List Item) (mid : List ℕ)
    (others : List Item) → LeadTo audience bytes items mid → Follow audience stops mid others →
    Follow audience stops bytes (items ++ others)
Follow-after audience stops bytes [] mid others l f = subst (λ (t : List ℕ). Follow audience stops t others) l f
Follow-after audience stops bytes (Refuses why ∷ items) mid others l f = absurd l
Follow-after audience stops bytes (Calls ask ∷ items) mid others l f =
    (l.0, l.1, inr (l.2, Follow-after audience stops l.0 items mid others l.3 f))

-- requests of which none is the last, where the rest stops the row
pub Follow-stop : (audience : Audience) (stops : List ℕ → Type 0) (bytes : List ℕ) (items : List Item) (rest : List ℕ) →
    LeadTo audience bytes items rest → stops rest → Follow audience stops bytes items
Follow-stop audience stops bytes [] rest l s = subst stops l s
Follow-stop audience stops bytes (Refuses why ∷ items) rest l s = absurd l
Follow-stop audience stops bytes (Calls ask ∷ items) rest l s =
    (l.0, l.1, inr (l.2, Follow-stop audience stops l.0 items rest l.3 s))

-- a last request
pub Follow-last : (audience : Audience) (stops : List ℕ → Type 0) (bytes : List ℕ) (items : List Item) (mid : List ℕ)
    (ask : Ask) (rest : List ℕ) → LeadTo audience bytes items mid → HasAsk audience mid ask rest →
    ask.is_last ≡ true → Follow audience stops bytes (items ++ Calls ask ∷ [])
Follow-last audience stops bytes items mid ask rest l a last = Follow-after audience stops bytes items mid
    (Calls ask ∷ []) l (rest, a, inl (last, λ i. []))

pub Follow-refused : (audience : Audience) (stops : List ℕ → Type 0) (bytes : List ℕ) (items : List Item) (mid : List ℕ)
    (why : HeadFault) → LeadTo audience bytes items mid → IsFaulty audience mid why → Follow audience stops bytes (items ++
    Refuses why ∷ [])
Follow-refused audience stops bytes items mid why l f = Follow-after audience stops bytes items mid (Refuses why ∷
    []) l (f, λ i. [])

-- another way to stop, also as more bytes come
pub Follow-more : (audience : Audience) (stops halts : List ℕ → Type 0) (bytes : List ℕ) (items : List Item)
    (more : List ℕ) → ((rest : List ℕ) → stops rest → halts (rest ++ more)) →
    Follow audience stops bytes items → Follow audience halts (bytes ++ more) items
Follow-more audience stops halts bytes [] more w f = w bytes f
Follow-more audience stops halts bytes (Refuses why ∷ items) more w f = (
  IsFaulty-more audience bytes why more f.0,
  f.1,
)
Follow-more audience stops halts bytes (Calls ask ∷ items) more w (rest, a, inl last) =
    (rest ++ more, HasAsk-more bytes ask rest more a, inl last)
Follow-more audience stops halts bytes (Calls ask ∷ items) more w (rest, a, inr f) = (
  rest ++ more,
  HasAsk-more bytes ask rest more a,
  inr (f.0, Follow-more audience stops halts rest items more w f.1),
)

pub Follow-weaker : (audience : Audience) (stops halts : List ℕ → Type 0) (bytes : List ℕ) (items : List Item) →
    ((rest : List ℕ) → stops rest → halts rest) → Follow audience stops bytes items →
    Follow audience halts bytes items
Follow-weaker audience stops halts bytes [] w f = w bytes f
Follow-weaker audience stops halts bytes (Refuses why ∷ items) w f = f
Follow-weaker audience stops halts bytes (Calls ask ∷ items) w (rest, a, inl last) = (rest, a, inl last)
Follow-weaker audience stops halts bytes (Calls ask ∷ items) w (rest, a, inr f) =
    (rest, a, inr (f.0, Follow-weaker audience stops halts rest items w f.1))

head_some : (head : RequestHead) → 0 < length (print_request head)
unfolding print_request
head_some head = simp length-append (omega arith)

-- a request has some bytes
pub HasAsk-shorter : (audience : Audience) (bytes : List ℕ) (ask : Ask) (rest : List ℕ) → HasAsk audience bytes ask rest →
    length rest < length bytes
HasAsk-shorter audience bytes ask rest a = omega (
  arith,
  head_some a.head,
  ap length a.reads.reads.1,
  length-append (print_request a.head) a.tail,
  ap length a.tail_is,
  length-append ask.body rest,
)
