-- What is read from the first 8192 bytes of a buffer holds of the buffer.
use Rattle.std.proofs.Common.{◌≡◌, ℕ, ◌+◌, ◌-◌, ◌<◌, ◌≤◌, Bool, List, [], ◌∷◌, ◌++◌, length, take}
use Rattle.http_messages.specs.Requests.{longest_head, most_fields}
use Rattle.std.proofs.Common.{drop, map, refl, sym, ap, subst, ◌∙◌, arith, append_assoc, append-nil}
use Rattle.std.proofs.Common.{length-append, Option, Some, inl, inr}
use Rattle.std.proofs.lemmas.List.{take-append-drop, drop-append-le, take-append-le, length-take}
use Rattle.std.proofs.lemmas.List.{length-drop, length-map}
use Rattle.std.proofs.lemmas.List.Folds.{drop_split}
use Rattle.std.specs.List.{list_any, slice_range}
use Rattle.httparse.specs.declared.spans.HeaderSpan.{HeaderSpan}
use Rattle.httparse.specs.declared.spans.RequestSpans.{RequestSpans}
use Rattle.httparse.specs.Grammar.{RequestHead, ReadsRequest, HasNoRequest}
use Rattle.httparse.specs.Spans.{span_bytes, header_bytes, name_and_value, IsWithin}
use Rattle.httparse.specs.Spans.{IsRequestWithin, IsRequestAt, RequestOverflows}
use Rattle.httparse.proofs.GrammarLemmas.{ReadsRequest-append}
use Rattle.http_messages.specs.declared.request.Method.{Method}
use Rattle.http_messages.specs.declared.audience.Audience.{Audience}
use Rattle.http_messages.specs.declared.request.HeadFault.{HeadFault}
use Rattle.http_messages.specs.declared.request.Framing.TheVariants.{Faulty, Body}
use Rattle.http_messages.specs.Fields.{is_close}
use Rattle.http_messages.specs.Requests.{method_of, framing_of, framing_from, HasHead, Ask, HasAsk}
use Rattle.http_messages.specs.Requests.{IsFaulty, StopsShort, ask_at}

pub overflow_more : (buf more : List ℕ) → RequestOverflows most_fields buf →
    RequestOverflows most_fields (buf ++
    more)
overflow_more buf more x after h rest r = x (more ++ after) h rest (rw append_assoc at r)

pub overflow_whole : (buf : List ℕ) → RequestOverflows most_fields (take longest_head buf) →
    RequestOverflows most_fields buf
overflow_whole buf x = subst (RequestOverflows most_fields) (take-append-drop longest_head buf)
    (overflow_more (take longest_head buf) (drop longest_head buf) x)

-- what a buffer begins with stays when more comes
pub HasHead-more : (buf : List ℕ) (h : RequestHead) (tail more : List ℕ) → HasHead buf h tail →
    HasHead (buf ++ more) h (tail ++ more)
HasHead-more buf h tail more x = record {
  reads = ReadsRequest-append buf h tail more x.reads;
  short = x.short;
  few = x.few;
}

pub HasAsk-more : {audience : Audience} (buf : List ℕ) (ask : Ask) (rest more : List ℕ) → HasAsk audience buf ask rest →
    HasAsk audience (buf ++ more) ask (rest ++ more)
HasAsk-more buf ask rest more x = record {
  head = x.head;
  tail = x.tail ++ more;
  reads = HasHead-more buf x.head x.tail more x.reads;
  framing = x.framing;
  method = x.method;
  target = x.target;
  last = x.last;
  tail_is = ap (λ (t : List ℕ). t ++ more) x.tail_is ∙ append_assoc ask.body rest more;
}

pub IsFaulty-more : (audience : Audience) (buf : List ℕ) (why : HeadFault) (more : List ℕ) → IsFaulty audience buf why →
    IsFaulty audience (buf ++ more) why
IsFaulty-more audience buf why more (inl (e, inl x)) = inl (e, inl (overflow_more buf more x))
IsFaulty-more audience buf why more (inl (e, inr x)) =
    inl (
      e,
      inr (
        omega (arith, x.0, length-append buf more),
        subst HasNoRequest (sym (take-append-le longest_head buf more x.0)) x.1,
      ),
    )
IsFaulty-more audience buf why more (inr x) = inr (x.0, x.1 ++ more, HasHead-more buf x.0 x.1 more x.2, x.3)

-- no byte more
pub none_more : (buf more : List ℕ) → length (buf ++ more) < length buf + 1 → buf ≡ buf ++ more
none_more buf [] h = sym (append-nil buf)
none_more buf (b ∷ more) h = absurd (omega (arith, length-append buf (b ∷ more)))

-- a part of the front is that part of the whole
pub part_of : (front back : List ℕ) (a b : ℕ) → a ≤ b → b ≤ length front →
    slice_range front a b ≡ slice_range (front ++ back) a b
part_of front back a b ab h =
    let p : a ≤ length front = omega arith in
    let q : b - a ≤ length (drop a front) = omega (arith, length-drop a front) in
    sym (take-append-le (b - a) (drop a front) back q) ∙ ap (take (b - a))
    (sym (drop-append-le a front back p))

module _ (audience : Audience) (buf front : List ℕ) (is : front ≡ take longest_head buf) (headers : List HeaderSpan)
    (r : RequestSpans) (room : length headers ≤ most_fields)
    (within : IsRequestWithin front headers r) (h : RequestHead) (at : IsRequestAt front headers r
    h) where
  joined : front ++ drop longest_head buf ≡ buf
  joined = ap (λ (xs : List ℕ). xs ++ drop longest_head buf) is ∙ take-append-drop longest_head buf

  pub short_front : (length front ≤ longest_head) × (length front ≤ length buf)
  short_front = (
    omega (arith, ap length is, length-take longest_head buf),
    omega (
      arith,
      ap length is,
      length-take longest_head buf,
    ),
  )

  len_le : r.len ≤ length buf
  len_le = omega (arith, within.section.len_fits, short_front.1)

  pub head_in : HasHead buf h (drop r.len buf)
  head_in = record {
    reads =
        let whole = ReadsRequest-append front h (drop r.len front) (drop longest_head buf) at.reads
        in
        let fits : r.len ≤ length front = within.section.len_fits in
        let rest = sym (drop-append-le r.len front (drop longest_head buf) fits) ∙ ap (drop r.len)
        joined in
        subst (λ (xs : List ℕ). ReadsRequest buf h xs) rest
        (subst (λ (xs : List ℕ). ReadsRequest xs h (drop r.len front ++ drop longest_head buf))
        joined
        whole);
    short = omega (arith, at.len, within.section.len_fits, short_front.0);
    few = omega (
      arith,
      ap length at.fields,
      length-map (take r.headers headers)
          (header_bytes front),
      length-map h.fields name_and_value,
      length-take r.headers headers,
    );
  }

  framing_is : framing_of audience h ≡ framing_from audience (method_of (span_bytes front r.method)) r.version
      (map (header_bytes front) (take r.headers headers))
  framing_is = rw (at.method, at.version, at.fields) refl

  pub refused_is : (why : HeadFault) (m : Option Method) → m ≡ method_of (span_bytes front r.method)
      → Faulty why ≡ framing_from audience m r.version (map (header_bytes front) (take r.headers headers)) →
      IsFaulty audience buf why
  refused_is why m e f = inr (
    h,
    drop r.len buf,
    head_in,
    framing_is ∙ sym (f ∙ ap (λ (x : Option Method). framing_from audience x r.version
        (map (header_bytes front) (take r.headers headers))) e),
  )

  pub more_is : (n : ℕ) (m : Option Method) → m ≡ method_of (span_bytes front r.method)
      → Body n ≡ framing_from audience m r.version (map (header_bytes front) (take r.headers headers))
      → (more : List ℕ) → length (buf ++ more) < r.len + n → StopsShort audience (buf ++ more)
  more_is n m e f more lt = inr record {
    head = h;
    tail = drop r.len buf ++ more;
    count = n;
    reads = HasHead-more buf h (drop r.len buf) more head_in;
    framing = framing_is ∙ sym (f ∙ ap (λ (x : Option Method). framing_from audience x r.version
        (map (header_bytes front) (take r.headers headers))) e);
    short = omega (
      arith,
      length-append buf more,
      length-append (drop r.len buf) more,
      length-drop r.len buf,
      len_le,
    );
  }

  pub whole_is : (n : ℕ) (m : Option Method) (method : Method) (last : Bool) →
      m ≡ method_of (span_bytes front r.method)
      → Body n ≡ framing_from audience m r.version (map (header_bytes front) (take r.headers headers)) →
      m ≡ Some method
      → r.len + n ≤ length buf → last ≡ list_any is_close (map (header_bytes front)
      (take r.headers headers))
      → IsWithin (length buf) r.path ×
      HasAsk audience buf (ask_at buf (record {
        method = method;
        target = r.path;
        body =
            record { start = r.len; end = r.len + n };
        is_last = last;
      })) (drop (r.len + n) buf)
  whole_is n m method last e f some le l =
      let inside : length (slice_range buf r.len (r.len + n)) ≡ n =
      omega (arith, length-take (r.len + n - r.len) (drop r.len buf), length-drop r.len buf) in
      let part = part_of front (drop longest_head buf) r.path.start r.path.end within.path.0
      (omega (arith, within.path.1, within.section.len_fits)) ∙ ap (λ (xs : List ℕ). slice_range
      xs r.path.start r.path.end) joined in (
        (within.path.0, omega (arith, within.path.1, len_le)),
        record {
          head = h;
          tail = drop r.len buf;
          reads = head_in;
          framing = framing_is ∙ sym (f ∙ ap (λ (x : Option Method). framing_from audience x r.version
              (map (header_bytes front) (take r.headers headers))) e) ∙ ap (λ (k : ℕ). Body k)
              (sym inside);
          method = ap method_of (sym at.method) ∙ sym e ∙ some;
          target = sym part ∙ at.path;
          last = l ∙ ap (list_any is_close) at.fields;
          tail_is = drop_split buf r.len (r.len + n) (omega arith);
        },
      )
