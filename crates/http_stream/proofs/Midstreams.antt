-- Steps in mid-stream.
use Rattle.std.proofs.Common.{◌≡◌, ◌<◌, ℕ, ◌+◌, ◌-◌, ◌^◌, Bool, true, false, List, [], ◌∷◌, ◌++◌}
use Rattle.std.proofs.Common.{length, Option, Some, None, refl, ap, ◌∙◌, append-nil, arith}
use Rattle.std.specs.Prelude.{min, ⊤}
use Rattle.std.proofs.lemmas.List.{length_push}
use Rattle.std.proofs.lemmas.List.Concat.{flat_map-append}
use Rattle.std.specs.Io.KnownBytes.{Appends, Consumes, IsAtEnd}
use Rattle.byte_streams.specs.InTurn.{InTurn}
use Rattle.byte_streams.specs.Serving.{Tells}
use Rattle.byte_streams.specs.Writing.{Forwards, WritesBeginning}
use Rattle.byte_streams.specs.declared.fault.StreamFault.{StreamFault}
use Rattle.byte_streams.specs.declared.fault.StreamFault.TheVariants.{NoMemory, ReadFailed}
use Rattle.byte_streams.specs.declared.fault.StreamFault.TheVariants.{WriteFailed}
use Rattle.byte_streams.proofs.KnownLemmas.{Forwards-then, Forwards-none, Forwards-all}
use Rattle.byte_streams.proofs.KnownLemmas.{Forwards-whole, beginning_of_left, beginning_then}
use Rattle.byte_streams.proofs.InTurnLemmas.{InTurn-push}
use Rattle.http_messages.specs.declared.audience.Audience.{Audience}
use Rattle.http_messages.specs.declared.request.HeadFault.{HeadFault}
use Rattle.http_messages.specs.Requests.{Ask, HasAsk, IsFaulty, StopsShort}
use Rattle.http_stream.specs.Streams.{Item, Calls, Refuses, Follow, BeginWith}
use Rattle.http_stream.specs.Answers.{joined}
use Rattle.http_stream.specs.Serving.{RequestsServed, RequestsStopped}
use Rattle.http_stream.specs.Inner.SoFar.{RequestsServedInPart, RequestsServedSoFar}
use Rattle.http_stream.specs.Inner.Midstream.{FailedToRead, IsBroken, IsMidstream, IsOver, LeadTo}
use Rattle.http_stream.specs.Inner.Midstream.{StreamPlace}
use Rattle.http_stream.proofs.Follows.{LeadTo-more, LeadTo-push, Follow-stop, Follow-last}
use Rattle.http_stream.proofs.Follows.{Follow-refused, Follow-more, Follow-weaker}

-- one text more
joined-push : (texts : List (List ℕ)) (text : List ℕ) → joined (texts ++ text ∷ []) ≡ joined texts
    ++ text
joined-push texts text = flat_map-append (λ (t : List ℕ). t) texts (text ∷ []) ∙ ap
    (λ (t : List ℕ). joined texts ++ t) (append-nil text)

module _ (audience : Audience) {S : Type 0} (gives : S → Item → List ℕ → S → Type 0) where
  pub starts : (now : StreamPlace S) → now.rest ≡ [] → now.waiting ≡ [] → now.answered ≡ 0 →
      IsMidstream audience gives [] now.written now.state now
  starts now no_bytes none no_answers = record {
    items = [];
    leads = no_bytes;
    texts = [];
    in_turn = (refl, refl);
    forwards = rw none (Forwards-none now.written []);
    count_is = no_answers;
  }

  -- more bytes came
  pub more_came : (bytes more : List ℕ) (before : Option (List ℕ)) (origin : S)
      (now : StreamPlace S)
      → IsMidstream audience gives bytes before origin now
      → IsMidstream audience gives (bytes ++ more) before origin (record now { rest = now.rest ++ more })
  more_came bytes more before origin now m = record {
    items = m.items;
    leads = LeadTo-more audience bytes m.items now.rest more m.leads;
    texts = m.texts;
    in_turn = m.in_turn;
    forwards = m.forwards;
    count_is = m.count_is;
  }

  -- a request that is not the last is answered
  pub answered_more : (bytes : List ℕ) (before : Option (List ℕ)) (origin : S)
      (now next : StreamPlace S) (text : List ℕ) (ask : Ask)
      → IsMidstream audience gives bytes before origin now → HasAsk audience now.rest ask next.rest →
      ask.is_last ≡ false → gives now.state (Calls ask) text next.state
      → Forwards now.written next.written (now.waiting ++ text) next.waiting
      → next.answered ≡ min (now.answered + 1) (2 ^ 32 - 1)
      → IsMidstream audience gives bytes before origin next
  answered_more bytes before origin now next text ask m asks more gave wrote is = record {
    items = m.items ++ Calls ask ∷ [];
    leads = LeadTo-push audience bytes m.items now.rest ask next.rest m.leads asks more;
    texts = m.texts ++ text ∷ [];
    in_turn = InTurn-push gives origin now.state next.state m.items m.texts (Calls ask) text
        m.in_turn gave;
    forwards = rw (joined-push m.texts text) (Forwards-then before now.written next.written
        (joined m.texts) text now.waiting next.waiting m.forwards wrote);
    count_is = omega (arith, is, m.count_is, length_push m.items (Calls ask));
  }

  -- the last item is answered
  over_by : (bytes : List ℕ) (before : Option (List ℕ)) (origin : S) (now next : StreamPlace S)
      (text : List ℕ) (item : Item)
      → (m : IsMidstream audience gives bytes before origin now) →
      Follow audience (λ rest. ⊥) bytes (m.items ++ item ∷ []) → gives now.state item text next.state
      → Forwards now.written next.written (now.waiting ++ text) next.waiting
      → next.answered ≡ min (now.answered + 1) (2 ^ 32 - 1)
      → IsOver audience gives bytes before origin next
  over_by bytes before origin now next text item m follow gave wrote is = record {
    items = m.items ++ item ∷ [];
    follow = follow;
    texts = m.texts ++ text ∷ [];
    in_turn = InTurn-push gives origin now.state next.state m.items m.texts item text m.in_turn
        gave;
    forwards = rw (joined-push m.texts text) (Forwards-then before now.written next.written
        (joined m.texts) text now.waiting next.waiting m.forwards wrote);
    count_is = omega (arith, is, m.count_is, length_push m.items item);
  }

  pub answered_last : (bytes : List ℕ) (before : Option (List ℕ)) (origin : S)
      (now next : StreamPlace S) (left text : List ℕ) (ask : Ask)
      → IsMidstream audience gives bytes before origin now → HasAsk audience now.rest ask left →
      ask.is_last ≡ true → gives now.state (Calls ask) text next.state
      → Forwards now.written next.written (now.waiting ++ text) next.waiting
      → next.answered ≡ min (now.answered + 1) (2 ^ 32 - 1)
      → IsOver audience gives bytes before origin next
  answered_last bytes before origin now next left text ask m asks last gave wrote is =
      over_by bytes before origin now next text (Calls ask) m
      (Follow-last audience (λ rest. ⊥) bytes m.items now.rest ask left m.leads asks last) gave wrote is

  pub refused_last : (bytes : List ℕ) (before : Option (List ℕ)) (origin : S)
      (now next : StreamPlace S) (text : List ℕ) (why : HeadFault)
      → IsMidstream audience gives bytes before origin now → IsFaulty audience now.rest why →
      gives now.state (Refuses why) text next.state
      → Forwards now.written next.written (now.waiting ++ text) next.waiting
      → next.answered ≡ min (now.answered + 1) (2 ^ 32 - 1)
      → IsOver audience gives bytes before origin next
  refused_last bytes before origin now next text why m faulty gave wrote is =
      over_by bytes before origin now next text (Refuses why) m
      (Follow-refused audience (λ rest. ⊥) bytes m.items now.rest why m.leads faulty) gave wrote is

  -- an answer that is not wholly written
  broken_by : (bytes : List ℕ) (before : Option (List ℕ)) (origin : S) (now next : StreamPlace S)
      (text : List ℕ) (item : Item)
      → (m : IsMidstream audience gives bytes before origin now) →
      BeginWith audience bytes (m.items ++ item ∷ []) → gives now.state item text next.state
      → WritesBeginning now.written next.written (now.waiting ++ text)
      → IsBroken audience gives bytes before origin next
  broken_by bytes before origin now next text item m begin gave wrote = record {
    items = m.items ++ item ∷ [];
    begin = begin;
    texts = m.texts ++ text ∷ [];
    in_turn = InTurn-push gives origin now.state next.state m.items m.texts item text m.in_turn
        gave;
    written = rw (joined-push m.texts text) (beginning_then before now.written next.written
        (joined m.texts) text now.waiting m.forwards wrote);
  }

  begins_on : (bytes : List ℕ) (items : List Item) (mid : List ℕ) (ask : Ask) (rest : List ℕ)
      (last : Bool) → LeadTo audience bytes items mid → HasAsk audience mid ask rest → ask.is_last ≡ last →
      BeginWith audience bytes (items ++ Calls ask ∷ [])
  begins_on bytes items mid ask rest true l a e = Follow-last audience (λ rest. ⊤) bytes items mid ask rest l
      a e
  begins_on bytes items mid ask rest false l a e = Follow-stop audience (λ rest. ⊤) bytes (items ++
      Calls ask ∷ []) rest (LeadTo-push audience bytes items mid ask rest l a e) tt

  pub broken_answer : (bytes : List ℕ) (before : Option (List ℕ)) (origin : S)
      (now next : StreamPlace S) (left text : List ℕ) (ask : Ask)
      → IsMidstream audience gives bytes before origin now → HasAsk audience now.rest ask left →
      gives now.state (Calls ask) text next.state
      → WritesBeginning now.written next.written (now.waiting ++ text)
      → IsBroken audience gives bytes before origin next
  broken_answer bytes before origin now next left text ask m asks gave wrote =
      broken_by bytes before origin now next text (Calls ask) m
      (begins_on bytes m.items now.rest ask left ask.is_last m.leads asks refl) gave wrote

  pub broken_refusal : (bytes : List ℕ) (before : Option (List ℕ)) (origin : S)
      (now next : StreamPlace S) (text : List ℕ) (why : HeadFault)
      → IsMidstream audience gives bytes before origin now → IsFaulty audience now.rest why →
      gives now.state (Refuses why) text next.state
      → WritesBeginning now.written next.written (now.waiting ++ text)
      → IsBroken audience gives bytes before origin next
  broken_refusal bytes before origin now next text why m faulty gave wrote =
      broken_by bytes before origin now next text (Refuses why) m
      (Follow-refused audience (λ rest. ⊤) bytes m.items now.rest why m.leads faulty) gave wrote

  -- what waits is written
  pub flushed : (bytes : List ℕ) (before next : Option (List ℕ)) (origin : S) (now : StreamPlace S)
      → IsMidstream audience gives bytes before origin now → Appends now.written next now.waiting
      → IsMidstream audience gives bytes before origin (record now { written = next; waiting = [] })
  flushed bytes before next origin now m more = record {
    items = m.items;
    leads = m.leads;
    texts = m.texts;
    in_turn = m.in_turn;
    forwards = Forwards-all before next (joined m.texts) (Forwards-whole before now.written next
        (joined m.texts) now.waiting m.forwards more);
    count_is = m.count_is;
  }

  -- a write fails while what waits is written
  pub broken_flush : (bytes : List ℕ) (before next : Option (List ℕ)) (origin : S)
      (now : StreamPlace S)
      → IsMidstream audience gives bytes before origin now → WritesBeginning now.written next now.waiting
      → IsBroken audience gives bytes before origin (record now { written = next })
  broken_flush bytes before next origin now m more = record {
    items = m.items;
    begin = Follow-stop audience (λ rest. ⊤) bytes m.items now.rest m.leads tt;
    texts = m.texts;
    in_turn = m.in_turn;
    written = beginning_of_left before now.written next (joined m.texts) now.waiting m.forwards
        more;
  }

  pub broken_end : (bytes : List ℕ) (before next : Option (List ℕ)) (origin : S)
      (now : StreamPlace S)
      → IsOver audience gives bytes before origin now → WritesBeginning now.written next now.waiting
      → IsBroken audience gives bytes before origin (record now { written = next })
  broken_end bytes before next origin now o more = record {
    items = o.items;
    begin = Follow-weaker audience (λ rest. ⊥) (λ rest. ⊤) bytes o.items (λ rest e. tt) o.follow;
    texts = o.texts;
    in_turn = o.in_turn;
    written = beginning_of_left before now.written next (joined o.texts) now.waiting o.forwards
        more;
  }

  -- all of the answers, where nothing waits
  written_all : (before now : Option (List ℕ)) (text waiting : List ℕ) →
      Forwards before now text waiting → waiting ≡ [] → Appends before now text
  written_all before now text waiting f none =
      rw (f.1 ∙ ap (λ (t : List ℕ). f.0 ++ t) none ∙ append-nil f.0) f.2

  -- a read fails where nothing waits
  pub so_far : (known left : Option (List ℕ)) (bytes : List ℕ) (before : Option (List ℕ))
      (origin : S) (now : StreamPlace S)
      → Consumes known left bytes → IsMidstream audience gives bytes before origin now →
      now.waiting ≡ [] → StopsShort audience now.rest
      → RequestsServedSoFar audience (InTurn gives) known left before now.written origin now.state
  so_far known left bytes before origin now came m none short = record {
    bytes = bytes;
    came = came;
    items = m.items;
    have_come = Follow-stop audience (StopsShort audience) bytes m.items now.rest m.leads short;
    texts = m.texts;
    get = m.in_turn;
    written = written_all before now.written (joined m.texts) now.waiting m.forwards none;
  }

  -- the input ends where nothing waits
  pub served_end : (known left : Option (List ℕ)) (bytes : List ℕ) (before : Option (List ℕ))
      (origin : S) (now : StreamPlace S)
      → Consumes known left bytes → IsAtEnd left → IsMidstream audience gives bytes before origin now →
      now.waiting ≡ [] → StopsShort audience now.rest
      → RequestsServed audience (InTurn gives) known before now.written origin now.state now.answered
  served_end known left bytes before origin now came end m none short = record {
    bytes = bytes;
    told = told_whole known left came end;
    items = m.items;
    are_items = Follow-stop audience (StopsShort audience) bytes m.items now.rest m.leads short;
    texts = m.texts;
    get = m.in_turn;
    written = written_all before now.written (joined m.texts) now.waiting m.forwards none;
    count_is = m.count_is;
  } where
    told_whole : (known left : Option (List ℕ)) → Consumes known left bytes → IsAtEnd left →
        Tells known bytes
    told_whole None left came end = tt
    told_whole (Some xs) None came end = absurd came
    told_whole (Some xs) (Some ys) came end = came ∙ ap (λ (t : List ℕ). bytes ++ t) end ∙
        append-nil bytes

  -- the last request is answered, whatever the reader still has
  pub served_over : (known left : Option (List ℕ)) (bytes : List ℕ) (before next : Option (List ℕ))
      (origin : S) (now : StreamPlace S)
      → Consumes known left bytes → IsOver audience gives bytes before origin now →
      Appends now.written next now.waiting
      → RequestsServed audience (InTurn gives) known before next origin now.state now.answered
  served_over None left bytes before next origin now came o more = record {
    bytes = bytes;
    told = tt;
    items = o.items;
    are_items = Follow-weaker audience (λ rest. ⊥) (StopsShort audience) bytes o.items (λ rest e. absurd e) o.follow;
    texts = o.texts;
    get = o.in_turn;
    written = Forwards-whole before now.written next (joined o.texts) now.waiting o.forwards more;
    count_is = o.count_is;
  }
  served_over (Some xs) None bytes before next origin now came o more = absurd came
  served_over (Some xs) (Some ys) bytes before next origin now came o more = record {
    bytes = bytes ++ ys;
    told = came;
    items = o.items;
    are_items = Follow-more audience (λ rest. ⊥) (StopsShort audience) bytes o.items ys (λ rest e. absurd e) o.follow;
    texts = o.texts;
    get = o.in_turn;
    written = Forwards-whole before now.written next (joined o.texts) now.waiting o.forwards more;
    count_is = o.count_is;
  }

  -- what is broken off, of all that the reader told
  pub in_part : (known left : Option (List ℕ)) (bytes : List ℕ) (before : Option (List ℕ))
      (origin : S) (now : StreamPlace S)
      → Consumes known left bytes → IsBroken audience gives bytes before origin now
      → RequestsServedInPart audience (InTurn gives) known before now.written origin now.state
  in_part None left bytes before origin now came x = record {
    bytes = bytes;
    told = tt;
    answered = x.items;
    unanswered = [];
    are_items = rw (append-nil x.items) x.begin;
    texts = x.texts;
    get = x.in_turn;
    written = x.written;
  }
  in_part (Some xs) None bytes before origin now came x = absurd came
  in_part (Some xs) (Some ys) bytes before origin now came x = record {
    bytes = bytes ++ ys;
    told = came;
    answered = x.items;
    unanswered = [];
    are_items = rw (append-nil x.items) (Follow-more audience (λ rest. ⊤) (λ rest. ⊤) bytes x.items ys
        (λ rest e. tt) x.begin);
    texts = x.texts;
    get = x.in_turn;
    written = x.written;
  }

  -- a fault of a read, or of what was written before it
  pub failed_to_read : (known left : Option (List ℕ)) (bytes more : List ℕ)
      (before next : Option (List ℕ)) (origin : S) (now : StreamPlace S) (wanted : ℕ)
      (untouched : Type 0) (fault : StreamFault)
      → Consumes known left (bytes ++ more) → IsMidstream audience gives bytes before origin now
      → ((extra : List ℕ) → length (now.rest ++ extra) < wanted → StopsShort audience (now.rest ++ extra))
      → FailedToRead fault wanted (length (now.rest ++ more)) now.written next now.waiting
      → RequestsStopped audience (InTurn gives) known left before next origin now.state untouched fault
  failed_to_read known left bytes more before next origin now wanted untouched ReadFailed came m
      short f =
      so_far known left (bytes ++ more) before origin _ came (more_came bytes more before origin _
      (flushed bytes before next origin now m f.1)) refl (short more f.0)
  failed_to_read known left bytes more before next origin now wanted untouched WriteFailed came m
      short f =
      in_part known left (bytes ++ more) before origin _ came
      (broken_flush (bytes ++ more) before next origin _ (more_came bytes more before origin now m)
      f)
  failed_to_read known left bytes more before next origin now wanted untouched NoMemory came m short
      f = absurd f
