-- Steps in mid-stream.
use Rattle.std.proofs.Common.{◌≡◌, ◌≢◌, ℕ, ◌+◌, ◌-◌, ◌^◌, List, [], ◌∷◌, ◌++◌, length, get_or, take}
use Rattle.std.proofs.Common.{drop, ◌<◌, Option, Some, None, refl, sym, ap, ◌∙◌, append_assoc}
use Rattle.std.proofs.Common.{append-nil, inl, inr, arith}
use Rattle.std.specs.Prelude.{min, option_and_then}
use Rattle.std.proofs.lemmas.List.{length_push, take_more, take-append-drop}
use Rattle.std.proofs.Math.Seq.{take-append_seam}
use Rattle.std.specs.Io.KnownBytes.{Appends, Consumes, IsAtEnd}
use Rattle.line_stream.specs.Lines.{ended, with_rest}
use Rattle.byte_streams.specs.InTurn.{InTurn}
use Rattle.byte_streams.specs.Serving.{Tells}
use Rattle.byte_streams.specs.Writing.{Forwards, WritesBeginning}
use Rattle.line_stream.specs.Serving.{LinesServed}
use Rattle.line_stream.specs.Inner.Lines.{LinesServedInPart, LinesServedSoFar}
use Rattle.line_stream.specs.Inner.Midway.{GivesKept, IsCutOff, IsEnded, IsMidway, LinePlace}
use Rattle.line_stream.specs.Inner.Midway.{line_kept}
use Rattle.byte_streams.proofs.KnownLemmas.{Forwards-then, Forwards-none, Forwards-all}
use Rattle.byte_streams.proofs.KnownLemmas.{Forwards-whole, beginning_of_left, beginning_then}
use Rattle.line_stream.proofs.LineLemmas.{Divides-nil, Divides-byte, Divides-feed, ended-push}
use Rattle.line_stream.proofs.LineLemmas.{kept_of-push, kept_cases, lines_after}
use Rattle.byte_streams.proofs.InTurnLemmas.{InTurn-push}

-- what is read into a buffer of this length stands in all of it
pub piece_of_chunk : (chunk buffer rest : List ℕ) (len count : ℕ) → chunk ≡ take len (buffer ++
    rest) → length buffer ≡ len → take count chunk ≡ take count buffer
piece_of_chunk chunk buffer rest len count is same = ap (λ (t : List ℕ). take count t)
    (is ∙ ap (λ (n : ℕ). take n (buffer ++ rest)) (sym same) ∙ take-append_seam buffer rest)

-- one byte more of the bytes that came
pub more_taken : (came bytes : List ℕ) (i byte : ℕ) → i < length bytes → get_or bytes i 0 ≡ byte →
    (came ++ take i bytes) ++ byte ∷ [] ≡ came ++ take (i + 1) bytes
more_taken came bytes i byte within is = append_assoc came (take i bytes) (byte ∷ []) ∙ ap
    (λ (t : List ℕ). came ++ t) (ap (λ (b : ℕ). take i bytes ++ b ∷ []) (sym is) ∙ sym
    (take_more bytes i 0 within))

pub all_taken : (came bytes : List ℕ) (i : ℕ) → (came ++ take i bytes) ++ drop i bytes ≡ came ++
    bytes
all_taken came bytes i = append_assoc came (take i bytes) (drop i bytes) ∙ ap
    (λ (t : List ℕ). came ++ t) (take-append-drop i bytes)

module _ {S : Type 0} (gives : S → List ℕ → List ℕ → S → Type 0) where
  pub midway_starts : (now : LinePlace S) → now.line ≡ Some [] → now.waiting ≡ [] → now.answered ≡ 0
      → IsMidway gives [] now.written now.state now
  midway_starts now no_line none no_answers = record {
    lines = [];
    rest = [];
    divides = Divides-nil;
    kept_is = no_line;
    texts = [];
    in_turn = (refl, refl);
    forwards = rw none (Forwards-none now.written []);
    count_is = no_answers;
  }

  -- a byte of a line
  pub midway_byte : (bytes : List ℕ) (before : Option (List ℕ)) (origin : S) (now : LinePlace S)
      (next : Option (List ℕ)) (byte : ℕ)
      → IsMidway gives bytes before origin now → byte ≢ 10 →
      next ≡ option_and_then (λ (line : List ℕ). line_kept (line ++ byte ∷ [])) now.line
      → IsMidway gives (bytes ++ byte ∷ []) before origin (record now { line = next })
  midway_byte bytes before origin now next byte m other is = record {
    lines = m.lines;
    rest = m.rest ++ byte ∷ [];
    divides = Divides-byte bytes m.lines m.rest byte m.divides other;
    kept_is = is ∙ ap (option_and_then (λ (line : List ℕ). line_kept (line ++ byte
        ∷ []))) m.kept_is ∙
        sym (kept_of-push m.rest byte);
    texts = m.texts;
    in_turn = m.in_turn;
    forwards = m.forwards;
    count_is = m.count_is;
  }

  -- a line feed, whose line is answered
  pub midway_feed : (bytes : List ℕ) (before : Option (List ℕ)) (origin : S)
      (now next : LinePlace S) (text : List ℕ)
      → IsMidway gives bytes before origin now → GivesKept gives now.line now.state text next.state
      → next.line ≡ Some [] → next.answered ≡ min (now.answered + 1) (2 ^ 32 - 1)
      → Forwards now.written next.written (now.waiting ++ (text ++ 10 ∷ [])) next.waiting
      → IsMidway gives (bytes ++ 10 ∷ []) before origin next
  midway_feed bytes before origin now next text m given no_line is more = record {
    lines = m.lines ++ m.rest ∷ [];
    rest = [];
    divides = Divides-feed bytes m.lines m.rest m.divides;
    kept_is = no_line;
    texts = m.texts ++ text ∷ [];
    in_turn = InTurn-push gives origin now.state next.state m.lines m.texts m.rest text m.in_turn
        (given m.rest m.kept_is);
    forwards = rw (ended-push m.texts text) (Forwards-then before now.written next.written
        (ended m.texts) (text ++ 10 ∷ []) now.waiting next.waiting m.forwards more);
    count_is = omega (arith, is, m.count_is, length_push m.lines m.rest);
  }

  -- a line feed whose answer is not written
  pub cut_at_feed : (bytes : List ℕ) (before : Option (List ℕ)) (origin : S)
      (now next : LinePlace S) (text : List ℕ)
      → IsMidway gives bytes before origin now → GivesKept gives now.line now.state text next.state
      → WritesBeginning now.written next.written (now.waiting ++ (text ++ 10 ∷ []))
      → IsCutOff gives (bytes ++ 10 ∷ []) before origin next
  cut_at_feed bytes before origin now next text m given more =
      let d = Divides-feed bytes m.lines m.rest m.divides in
      record {
        answered = m.lines ++ m.rest ∷ [];
        tail = [];
        begins = d.whole;
        are_lines = d.are_lines;
        texts = m.texts ++ text ∷ [];
        in_turn = InTurn-push gives origin now.state next.state m.lines m.texts m.rest text
            m.in_turn (given m.rest m.kept_is);
        written = rw (ended-push m.texts text) (beginning_then before now.written next.written
            (ended m.texts) (text ++ 10 ∷ []) now.waiting m.forwards more);
      }

  pub cut_longer : (bytes more : List ℕ) (before : Option (List ℕ)) (origin : S) (now : LinePlace S)
      → IsCutOff gives bytes before origin now → IsCutOff gives (bytes ++ more) before origin now
  cut_longer bytes more before origin now x = record {
    answered = x.answered;
    tail = x.tail ++ more;
    begins = ap (λ (t : List ℕ). t ++ more) x.begins ∙ append_assoc (ended x.answered) x.tail more;
    are_lines = x.are_lines;
    texts = x.texts;
    in_turn = x.in_turn;
    written = x.written;
  }

  -- what waits is written
  pub midway_flushed : (bytes : List ℕ) (before next : Option (List ℕ)) (origin : S)
      (now : LinePlace S) (left : List ℕ)
      → IsMidway gives bytes before origin now → left ≡ [] → Appends now.written next now.waiting
      → IsMidway gives bytes before origin (record now { written = next; waiting = left })
  midway_flushed bytes before next origin now left m none more = record {
    lines = m.lines;
    rest = m.rest;
    divides = m.divides;
    kept_is = m.kept_is;
    texts = m.texts;
    in_turn = m.in_turn;
    forwards = rw none (Forwards-all before next (ended m.texts) (Forwards-whole before now.written
        next (ended m.texts) now.waiting m.forwards more));
    count_is = m.count_is;
  }

  pub cut_at_flush : (bytes : List ℕ) (before next : Option (List ℕ)) (origin : S)
      (now : LinePlace S)
      → IsMidway gives bytes before origin now → WritesBeginning now.written next now.waiting
      → IsCutOff gives bytes before origin (record now { written = next })
  cut_at_flush bytes before next origin now m more = record {
    answered = m.lines;
    tail = m.rest;
    begins = m.divides.whole;
    are_lines = m.divides.are_lines;
    texts = m.texts;
    in_turn = m.in_turn;
    written = beginning_of_left before now.written next (ended m.texts) now.waiting m.forwards more;
  }

  -- a read fails where nothing waits
  pub so_far_midway : (known left : Option (List ℕ)) (bytes : List ℕ) (before : Option (List ℕ))
      (origin : S) (now : LinePlace S)
      → Consumes known left bytes → IsMidway gives bytes before origin now → now.waiting ≡ []
      → LinesServedSoFar (InTurn gives) known left before now.written origin now.state
  so_far_midway known left bytes before origin now came m none = record {
    bytes = bytes;
    came = came;
    items = m.lines;
    have_come = (m.rest, m.divides);
    texts = m.texts;
    get = m.in_turn;
    written = rw (m.forwards.1 ∙ ap (λ (t : List ℕ). m.forwards.0 ++ t) none ∙ append-nil
        m.forwards.0) m.forwards.2;
  }

  -- what is cut off, of all that the reader told
  pub in_part_cut : (known left : Option (List ℕ)) (bytes : List ℕ) (before : Option (List ℕ))
      (origin : S) (now : LinePlace S)
      → Consumes known left bytes → IsCutOff gives bytes before origin now
      → LinesServedInPart (InTurn gives) known before now.written origin now.state
  in_part_cut None left bytes before origin now came x =
      let l = lines_after x.answered x.tail x.are_lines in
      record {
        bytes = ended x.answered ++ x.tail;
        told = tt;
        answered = x.answered;
        unanswered =
            l.0;
        are_items = l.1;
        texts = x.texts;
        get = x.in_turn;
        written = x.written;
      }
  in_part_cut (Some xs) None bytes before origin now came x = absurd came
  in_part_cut (Some xs) (Some ys) bytes before origin now came x =
      let l = lines_after x.answered (x.tail ++ ys) x.are_lines in
      record {
        bytes = ended x.answered ++ (x.tail ++ ys);
        told = came ∙ ap (λ (t : List ℕ). t ++ ys) x.begins ∙ append_assoc (ended x.answered) x.tail
            ys;
        answered = x.answered;
        unanswered = l.0;
        are_items = l.1;
        texts = x.texts;
        get = x.in_turn;
        written = x.written;
      }

  -- the end of the input, with no byte after the last line feed
  pub ends_empty : (bytes : List ℕ) (before : Option (List ℕ)) (origin : S) (now : LinePlace S)
      → IsMidway gives bytes before origin now → now.line ≡ Some []
      → IsEnded gives bytes before origin now
  ends_empty bytes before origin now m is =
      let none : m.rest ≡ [] = elim (kept_cases m.rest) [
        | inl fits ↦ let same : Some m.rest ≡ Some [] = sym fits.1 ∙ sym m.kept_is ∙ is in cc
        | inr long ↦ let same : None ≡ Some [] = sym long.1 ∙ sym m.kept_is ∙ is in cc
      ] in
      record {
        lines = m.lines;
        are_lines = record {
          front = m.lines;
          rest = m.rest;
          divides = m.divides;
          all =
              rw none refl;
        };
        texts = m.texts;
        in_turn = m.in_turn;
        forwards = m.forwards;
        count_is = m.count_is;
      }

  some_rest : (lines : List (List ℕ)) (rest : List ℕ) → rest ≢ [] → lines ++ rest ∷
      [] ≡ with_rest lines rest
  some_rest lines [] some = absurd (some refl)
  some_rest lines (byte ∷ rest) some = refl

  -- the end of the input, with a last line that has no line feed
  pub ends_line : (bytes : List ℕ) (before : Option (List ℕ)) (origin : S) (now next : LinePlace S)
      (text : List ℕ)
      → IsMidway gives bytes before origin now → now.line ≢ Some []
      → GivesKept gives now.line now.state text next.state
      → next.line ≡ Some [] → next.answered ≡ min (now.answered + 1) (2 ^ 32 - 1)
      → Forwards now.written next.written (now.waiting ++ (text ++ 10 ∷ [])) next.waiting
      → IsEnded gives bytes before origin next
  unfolding midway_feed
  ends_line bytes before origin now next text m other given no_line is more =
      let f = midway_feed bytes before origin now next text m given no_line is more in
      record {
        lines = m.lines ++ m.rest ∷ [];
        are_lines = record {
          front = m.lines;
          rest = m.rest;
          divides = m.divides;
          all =
              some_rest m.lines m.rest (λ none. other (m.kept_is ∙ ap line_kept none));
        };
        texts = f.texts;
        in_turn = f.in_turn;
        forwards = f.forwards;
        count_is = f.count_is;
      }

  -- the same, where the answer is not written
  pub in_part_line : (bytes : List ℕ) (before : Option (List ℕ)) (origin : S)
      (now next : LinePlace S) (text : List ℕ)
      → IsMidway gives bytes before origin now → now.line ≢ Some []
      → GivesKept gives now.line now.state text next.state
      → WritesBeginning now.written next.written (now.waiting ++ (text ++ 10 ∷ []))
      → LinesServedInPart (InTurn gives) (Some bytes) before next.written origin next.state
  unfolding cut_at_feed
  in_part_line bytes before origin now next text m other given more =
      let x = cut_at_feed bytes before origin now next text m given more in
      record {
        bytes = bytes;
        told = refl;
        answered = x.answered;
        unanswered = [];
        are_items = record {
          front = m.lines;
          rest = m.rest;
          divides = m.divides;
          all =
              append-nil (m.lines ++ m.rest ∷ []) ∙ some_rest m.lines m.rest
              (λ none. other (m.kept_is ∙ ap line_kept none));
        };
        texts = x.texts;
        get = x.in_turn;
        written = x.written;
      }

  -- at the end what waits is written, or a beginning of it
  pub served_ended : (bytes : List ℕ) (before next : Option (List ℕ)) (origin : S)
      (now : LinePlace S)
      → IsEnded gives bytes before origin now → Appends now.written next now.waiting
      → LinesServed (InTurn gives) (Some bytes) before next origin now.state now.answered
  served_ended bytes before next origin now e more = record {
    bytes = bytes;
    told = refl;
    items = e.lines;
    are_items = e.are_lines;
    texts = e.texts;
    get = e.in_turn;
    written = Forwards-whole before now.written next (ended e.texts) now.waiting e.forwards more;
    count_is = e.count_is;
  }

  pub in_part_ended : (bytes : List ℕ) (before next : Option (List ℕ)) (origin : S)
      (now : LinePlace S)
      → IsEnded gives bytes before origin now → WritesBeginning now.written next now.waiting
      → LinesServedInPart (InTurn gives) (Some bytes) before next origin now.state
  in_part_ended bytes before next origin now e more = record {
    bytes = bytes;
    told = refl;
    answered = e.lines;
    unanswered = [];
    are_items = rw (append-nil e.lines) e.are_lines;
    texts = e.texts;
    get = e.in_turn;
    written = beginning_of_left before now.written next (ended e.texts) now.waiting e.forwards more;
  }

  told_whole : (known left : Option (List ℕ)) (bytes read : List ℕ) → Consumes known left bytes →
      IsAtEnd left → Tells (Some bytes) read → Tells known read
  told_whole None left bytes read came end told = tt
  told_whole (Some xs) None bytes read came end told = absurd came
  told_whole (Some xs) (Some ys) bytes read came end told = came ∙ ap (λ (t : List ℕ). bytes ++
      t) end ∙ append-nil bytes ∙ told

  -- the bytes that came are all that the reader told
  pub served_told : (known left : Option (List ℕ)) (bytes : List ℕ) (before after : Option (List ℕ))
      (old new : S) (count : ℕ)
      → Consumes known left bytes → IsAtEnd left → LinesServed (InTurn gives) (Some bytes) before
      after old new count → LinesServed (InTurn gives) known before after old new count
  served_told known left bytes before after old new count came end s = record {
    bytes = s.bytes;
    told = told_whole known left bytes s.bytes came end s.told;
    items = s.items;
    are_items = s.are_items;
    texts = s.texts;
    get = s.get;
    written = s.written;
    count_is = s.count_is;
  }

  pub in_part_told : (known left : Option (List ℕ)) (bytes : List ℕ)
      (before after : Option (List ℕ)) (old new : S)
      → Consumes known left bytes → IsAtEnd left → LinesServedInPart (InTurn gives) (Some bytes)
      before after old new → LinesServedInPart (InTurn gives) known before after old new
  in_part_told known left bytes before after old new came end s = record {
    bytes = s.bytes;
    told = told_whole known left bytes s.bytes came end s.told;
    answered = s.answered;
    unanswered = s.unanswered;
    are_items = s.are_items;
    texts = s.texts;
    get = s.get;
    written = s.written;
  }
