-- What a line asks for.
use Rattle.std.proofs.Common.{◌≡◌, ◌≢◌, ℕ, zero, suc, ◌^◌, ◌<◌, ◌≤◌, true, false, List, [], ◌∷◌}
use Rattle.std.proofs.Common.{◌++◌, decimal, get_or, sym, subst}
use Rattle.std.proofs.Common.{◌∙◌, lit<, ⊎_elim, arith, ap, refl, codes, length, ◌+◌, Bor, Option}
use Rattle.std.proofs.Common.{Some, None, Result, Ok, Err}
use Rattle.std.specs.Prelude.{IsUtf8, ◌==◌, ◌&&◌, ◌||◌, IsTrue, MatchOption, nat_le}
use Rattle.std.specs.List.{before_first, list_all, position_or_len}
use Rattle.std.proofs.lemmas.Bool.{and_parts, or_cases, leb-true, eqb-true}
use Rattle.std.proofs.lemmas.List.{append_cancel_left, length-append}
use Rattle.std.proofs.lemmas.Fmt.{IsAscii-decimal}
use Rattle.std.proofs.lemmas.Option.{MatchOption-at_some}
use Rattle.std.proofs.lemmas.Str.Pattern.{IsSplitOnceResult, split_after}
use Rattle.std.proofs.lemmas.Str.{IsUtf8-append, IsUtf8-from_ascii}
use Rattle.std.proofs.lemmas.Str.Ascii.{IsAscii-cons, IsAscii-nil}
use Rattle.std.specs.Str.{IsAscii}
use Rattle.ring_words.specs.Limits.{long_count}
use Rattle.ring_words.specs.Texts.{is_digit, is_label, is_label_byte, is_lower}
use Rattle.ring_words.specs.declared.command.Command.{Command}
use Rattle.ring_words.specs.declared.request.Delivery.{Delivery}
use Rattle.ring_words.specs.Spelling.{Reads, SpellsName, SpellsNumber}
use Rattle.ring_words.specs.declared.spelling.SpellingFault.{SpellingFault}
use Rattle.ring_words.specs.declared.spelling.SpellingFault.TheVariants.{Bad, NoMemory}
use Rattle.ring_words.proofs.Decimals.{separated_parts}
use Rattle.ring_messages.specs.Message.{IsMessage}
use Rattle.ring_words.proofs.Decimals.{IsCut, Splits}
use Rattle.ring_log.specs.Inquiries.{most_told}
use Rattle.ring_log.specs.declared.inquiry.Inquiry.{Inquiry}
use Rattle.ring_log.specs.declared.inquiry.Inquiry.TheVariants as inquiry
use Rattle.ring_reads.specs.Reads.{plain_word}
use Rattle.ring_reads.specs.declared.plain.Plain.{Plain}
use Rattle.ring_reads.specs.declared.plain.Plain.TheVariants.{Devices, Balance, Ring, Locks}
use Rattle.ring_reads.specs.declared.reads.Question.{Question}
use Rattle.ring_reads.specs.declared.reads.Question.TheVariants as question
use Rattle.ring_reads.specs.declared.reads.Read.{Read}
use Rattle.ring_reads.specs.declared.reads.Read.TheVariants as read
use Rattle.line_api.specs.Lines.{AreTwoNumbers, AskInquiry, AskOfRing, AskPlain, AskQuestion, Asks}
use Rattle.line_api.specs.Lines.{AsksInquiry, AsksPart, IsNumbered, NamesNumbers}

-- a line that asks for something is text
pub asks_text : (line : List ℕ) (x : Delivery Command) → Asks line x → IsUtf8 line
asks_text line x asks =
    let small : x.hour < 2 ^ 64 = omega (arith, asks.hour) in
    subst (λ (t : List ℕ). IsUtf8 t) (sym asks.is) (IsUtf8-append (decimal x.hour) (32 ∷
    asks.message) (IsUtf8-from_ascii (decimal x.hour) (IsAscii-decimal x.hour small))
    (IsUtf8-append (32 ∷ []) asks.message (IsUtf8-from_ascii (32 ∷
    []) (IsAscii-cons 32 [] (lit< tt) IsAscii-nil)) asks.reads.utf8))

-- what stands behind the hour and the space is the message
pub asks_message : (line message : List ℕ) (n : ℕ) → n < 2 ^ 32 → line ≡ decimal n ++ 32 ∷ message →
    (x : Delivery Command) → Asks line x → IsMessage message x.key x.command
asks_message line message n lt is x asks =
    let parts = separated_parts 32 line n x.hour message asks.message (lit< tt) lt asks.hour is
    asks.is in
    subst (λ (t : List ℕ). IsMessage t x.key x.command) (sym parts.1) asks.reads

up_to : (low high b : ℕ) → high < 128 → (nat_le low b && nat_le b high) ≡ true → b < 128
up_to low high b above h = let below : b ≤ high =
    leb-true b high (and_parts (nat_le low b) (nat_le b high) h).1 in omega arith

label_byte : (b : ℕ) → is_label_byte b ≡ true → b < 128
label_byte b h =
    let dash : (b == 45) ≡ true → b < 128 = λ e. let is = eqb-true b 45 e in omega (arith, is) in
    let lower : is_lower b ≡ true → b < 128 = up_to 97 122 b (lit< tt) in
    let digit : is_digit b ≡ true → b < 128 = up_to 48 57 b (lit< tt) in
    let letter : (is_lower b || is_digit b) ≡ true → b < 128 =
    λ e. ⊎_elim lower digit (or_cases _ _ e) in
    ⊎_elim letter dash (or_cases _ _ h)

label_bytes : (name : List ℕ) → list_all is_label_byte name ≡ true → IsAscii name
label_bytes [] h = IsAscii-nil
label_bytes (b ∷ name) h = let both = and_parts _ _ h in IsAscii-cons b name (label_byte b both.0)
    (label_bytes name both.1)

-- the text of a question behind its question mark
abbrev pub asked_text : Plain → List ℕ → List ℕ
asked_text plain rest = plain_word plain ++ 32 ∷ rest

word_text : (plain : Plain) → IsUtf8 (plain_word plain)
word_text Devices = IsUtf8-from_ascii (codes "devices") (label_bytes (codes "devices") refl)
word_text Balance = IsUtf8-from_ascii (codes "balance") (label_bytes (codes "balance") refl)
word_text Ring = IsUtf8-from_ascii (codes "ring") (label_bytes (codes "ring") refl)
word_text Locks = IsUtf8-from_ascii (codes "locks") (label_bytes (codes "locks") refl)

first_word : (plain : Plain) (rest : List ℕ) →
    before_first (λ b. b == 32) (asked_text plain rest) ≡ plain_word plain
first_word Devices rest = refl
first_word Balance rest = refl
first_word Ring rest = refl
first_word Locks rest = refl

first_place : (plain : Plain) (rest : List ℕ) →
    position_or_len (λ b. b == 32) (asked_text plain rest) ≡ length (plain_word plain)
first_place Devices rest = refl
first_place Balance rest = refl
first_place Ring rest = refl
first_place Locks rest = refl

-- a text that begins with a word and a space has a space
pub has_space : (t : List ℕ) (r : Option (Bor (List ℕ) × Bor (List ℕ))) → Splits 32 t r → r ≡ None →
    (plain : Plain) (rest : List ℕ) → t ≡ asked_text plain rest → ⊥
has_space t None h is plain rest e =
    let long : length (asked_text plain rest) ≡ length (plain_word plain) + length (32 ∷ rest) =
    length-append (plain_word plain) (32 ∷ rest) in
    let all : position_or_len (λ b. b == 32) (asked_text plain rest)
    ≡ length (asked_text plain rest) = subst (λ (u : List ℕ). position_or_len (λ b. b == 32) u ≡
    length u) e h in
    let place = first_place plain rest in
    omega (arith, long, all, place)
has_space t (Some x) h is plain rest e = cc

-- what stands before the first space is the word
pub is_word : (t front back : List ℕ) → IsCut 32 t front back → (plain : Plain) (rest : List ℕ) →
    t ≡ asked_text plain rest → front ≡ plain_word plain
is_word t front back cut plain rest e = sym cut.before ∙ ap (before_first (λ b. b == 32)) e
    ∙ first_word plain rest

label_text : (name : List ℕ) → IsTrue (is_label name) → IsAscii name
label_text name named = label_bytes name (and_parts _ _ named).1

number_text : (n : ℕ) → n < long_count → IsUtf8 (decimal n)
number_text n fits = IsUtf8-from_ascii (decimal n) (IsAscii-decimal n (omega (arith, fits)))

space_text : (rest : List ℕ) → IsUtf8 rest → IsUtf8 (32 ∷ rest)
space_text rest text = IsUtf8-append (32 ∷ []) rest
    (IsUtf8-from_ascii (32 ∷ []) (IsAscii-cons 32 [] (lit< tt) IsAscii-nil)) text

numbers_text : (text : List ℕ) (first second : ℕ) → AreTwoNumbers text first second → IsUtf8 text
numbers_text text first second are = subst (λ (t : List ℕ). IsUtf8 t) (sym are.is)
    (IsUtf8-append (decimal first) (32 ∷ decimal second) (number_text first are.first_fits)
    (space_text (decimal second) (number_text second are.second_fits)))

numbered_text : (text name : List ℕ) (first second : ℕ) → NamesNumbers text name first second →
    IsUtf8 text
numbered_text text name first second names = subst (λ (t : List ℕ). IsUtf8 t)
    (sym names.numbered.is)
    (IsUtf8-append name (32 ∷ names.numbered.numbers)
    (IsUtf8-from_ascii name (label_text name names.named))
    (space_text names.numbered.numbers
    (numbers_text names.numbered.numbers first second names.numbered.are)))

-- words that ask something are text
of_ring_text : (words name : List ℕ) (what : Read) → AskOfRing words name what → IsUtf8 words
of_ring_text words name (read.Plain plain) asks =
    subst (λ (t : List ℕ). IsUtf8 t) (sym asks.is)
    (IsUtf8-append (plain_word plain) (32 ∷ name) (word_text plain)
    (IsUtf8-from_ascii (32 ∷ name) (IsAscii-cons 32 name (lit< tt) (label_text name asks.named))))
of_ring_text words name read.Tables asks = absurd asks
of_ring_text words name (read.Nodes path) asks = absurd asks
of_ring_text words name (read.Published version written) asks = absurd asks
of_ring_text words name (read.Preview seed hour) asks =
    subst (λ (t : List ℕ). IsUtf8 t) (sym asks.1)
    (IsUtf8-append (codes "preview ") asks.0
    (IsUtf8-append (codes "preview") (32 ∷ [])
    (IsUtf8-from_ascii (codes "preview") (label_bytes (codes "preview") refl))
    (IsUtf8-from_ascii (32 ∷ []) (IsAscii-cons 32 [] (lit< tt) IsAscii-nil)))
    (numbered_text asks.0 name seed hour asks.2))
of_ring_text words name (read.Moves from to) asks =
    subst (λ (t : List ℕ). IsUtf8 t) (sym asks.1)
    (IsUtf8-append (codes "moves ") asks.0
    (IsUtf8-append (codes "moves") (32 ∷ [])
    (IsUtf8-from_ascii (codes "moves") (label_bytes (codes "moves") refl))
    (IsUtf8-from_ascii (32 ∷ []) (IsAscii-cons 32 [] (lit< tt) IsAscii-nil)))
    (numbered_text asks.0 name from to asks.2))
of_ring_text words name (read.EachMove from to) asks = absurd asks

held_text : (words : List ℕ) (asked : Question) → AskQuestion words asked → IsUtf8 words
held_text words question.Rings is = subst (λ (t : List ℕ). IsUtf8 t) (sym is)
    (IsUtf8-from_ascii (codes "rings") (label_bytes (codes "rings") refl))
held_text words question.Status is = subst (λ (t : List ℕ). IsUtf8 t) (sym is)
    (IsUtf8-from_ascii (codes "status") (label_bytes (codes "status") refl))
held_text words question.Metrics asks = absurd asks
held_text words (question.Ring name what) asks = of_ring_text words name what asks

-- and so are words that ask for a part of the log
part_text : (text : List ℕ) (from most : ℕ) → AsksPart text from most → IsUtf8 text
part_text text from most asks =
    let small : most < long_count = omega (arith, asks.spelled.below) in
    let size : IsUtf8 asks.size = subst (λ (t : List ℕ). IsUtf8 t) (sym asks.spelled.is)
    (number_text most small) in
    subst (λ (t : List ℕ). IsUtf8 t) (sym asks.is) (IsUtf8-append (decimal from) (32 ∷ asks.size)
    (number_text from asks.fits) (space_text asks.size size))

words_text : (words : List ℕ) (asked : Inquiry) → AskInquiry words asked → IsUtf8 words
words_text words (inquiry.Held question) asks = held_text words question asks
words_text words (inquiry.Log from most) asks =
    subst (λ (t : List ℕ). IsUtf8 t) (sym asks.1)
    (IsUtf8-append (codes "log ") asks.0
    (IsUtf8-append (codes "log") (32 ∷ [])
    (IsUtf8-from_ascii (codes "log") (label_bytes (codes "log") refl))
    (IsUtf8-from_ascii (32 ∷ []) (IsAscii-cons 32 [] (lit< tt) IsAscii-nil)))
    (part_text asks.0 from most asks.2))

-- the words of a question stand behind its question mark
behind_mark : (line rest : List ℕ) (asked : Inquiry) → line ≡ codes "? " ++ rest →
    (asks : AsksInquiry line asked) → asks.words ≡ rest
behind_mark line rest asked is asks = append_cancel_left (codes "? ") asks.words rest
    (sym asks.is ∙ is)

-- what stands behind the question mark is text
pub question_text : (line rest : List ℕ) (asked : Inquiry) → line ≡ codes "? " ++ rest →
    AsksInquiry line asked → IsUtf8 rest
question_text line rest asked is asks =
    subst (λ (t : List ℕ). IsUtf8 t) (behind_mark line rest asked is asks)
    (words_text asks.words asked asks.asks)

-- words that ask neither for the rings nor for the status, nor anything of a ring, ask nothing
pub ask_nothing : (words : List ℕ) (fault : SpellingFault) → (words ≡ codes "rings" → ⊥) →
    (words ≡ codes "status" → ⊥) →
    Reads (λ (x : List ℕ × Read). AskOfRing words x.0 x.1) (Err fault) →
    Reads (AskQuestion words) (Err fault)
ask_nothing words NoMemory no_rings no_status none = tt
ask_nothing words Bad no_rings no_status none = by
  where
    by : (asked : Question) → AskQuestion words asked → ⊥
    by question.Rings asks = no_rings asks
    by question.Status asks = no_status asks
    by question.Metrics asks = asks
    by (question.Ring name what) asks = none (name, what) asks

-- ---- a name and two numbers

-- no byte of a label is a space
no_space : (name : List ℕ) → list_all is_label_byte name ≡ true → (i : ℕ) → i < length name →
    get_or name i 0 ≢ 32
no_space [] h i lt = absurd (omega (arith, lt))
no_space (b ∷ name) h zero lt = λ is.
    let no : is_label_byte b ≡ false = ap is_label_byte is in
    let yes : is_label_byte b ≡ true =
    (and_parts (is_label_byte b) (list_all is_label_byte name) h).0 in
    cc (no, yes)
no_space (b ∷ name) h (suc i) lt = no_space name (and_parts _ _ h).1 i (omega (arith, lt))

-- where a text is cut at its first space, if a label and a space stand in front
cut_name : (t : List ℕ) (r : Option (Bor (List ℕ) × Bor (List ℕ))) → IsSplitOnceResult 32 t r →
    (name rest : List ℕ) → IsTrue (is_label name) → t ≡ name ++ 32 ∷ rest →
    MatchOption r ⊥ (λ x. (x.0.now ≡ name) × (x.1.now ≡ rest))
cut_name t r split name rest named is =
    split_after 32 t name rest r split (lit< tt) is (no_space name (and_parts _ _ named).1)

pub no_name : (t : List ℕ) (r : Option (Bor (List ℕ) × Bor (List ℕ))) → IsSplitOnceResult 32 t r →
    r ≡ None → (name : List ℕ) (first second : ℕ) → IsTrue (is_label name) →
    IsNumbered t name first second → ⊥
no_name t None split is name first second named numbered =
    cut_name t None split name numbered.numbers named numbered.is
no_name t (Some x) split is name first second named numbered = cc

pub cut_is : (t : List ℕ) (r : Option (Bor (List ℕ) × Bor (List ℕ)))
    (x : Bor (List ℕ) × Bor (List ℕ)) → IsSplitOnceResult 32 t r → r ≡ Some x →
    (name : List ℕ) (first second : ℕ) → IsTrue (is_label name) →
    (numbered : IsNumbered t name first second) →
    (x.0.now ≡ name) × (x.1.now ≡ numbered.numbers)
cut_is t r x split is name first second named numbered =
    MatchOption-at_some _ _ x is (cut_name t r split name numbered.numbers named numbered.is)

-- where what stands before the numbers is no label, the text names no ring
pub numbered_none : (text name : List ℕ) (fault : SpellingFault) → ((other : List ℕ)
    (first second : ℕ) → IsTrue (is_label other) → IsNumbered text other first second →
    name ≡ other) → Reads (SpellsName is_label name) (Err fault) →
    Reads (λ (x : List ℕ × ℕ × ℕ). NamesNumbers text x.0 x.1 x.2) (Err fault)
numbered_none text name NoMemory only bad = tt
numbered_none text name Bad only bad = λ x names. bad x.0 (record {
  is = only x.0 x.1 x.2 names.named names.numbered;
  valid = names.named;
})

-- ---- what is asked of a ring

-- a preview and what moved have different words in front
preview_moves : (rest text : List ℕ) → codes "moves " ++ rest ≡ codes "preview " ++ text → ⊥
preview_moves rest text is =
    let clash : ◌≡◌ {A = ℕ} 109 112 = ap (λ (t : List ℕ). get_or t 0 0) is in omega (arith, clash)

-- and so have a plain read and what moved
moves_word : (plain : Plain) (rest text : List ℕ) → asked_text plain rest ≡ codes "moves " ++ text
    → ⊥
moves_word Devices rest text is =
    let clash : ◌≡◌ {A = ℕ} 100 109 = ap (λ (t : List ℕ). get_or t 0 0) is in omega (arith, clash)
moves_word Balance rest text is =
    let clash : ◌≡◌ {A = ℕ} 98 109 = ap (λ (t : List ℕ). get_or t 0 0) is in omega (arith, clash)
moves_word Ring rest text is =
    let clash : ◌≡◌ {A = ℕ} 114 109 = ap (λ (t : List ℕ). get_or t 0 0) is in omega (arith, clash)
moves_word Locks rest text is =
    let clash : ◌≡◌ {A = ℕ} 108 109 = ap (λ (t : List ℕ). get_or t 0 0) is in omega (arith, clash)

-- a plain read and a preview have different words in front
other_word : (plain : Plain) (rest text : List ℕ) →
    asked_text plain rest ≡ codes "preview " ++ text → ⊥
other_word Devices rest text is =
    let clash : ◌≡◌ {A = ℕ} 100 112 = ap (λ (t : List ℕ). get_or t 0 0) is in omega (arith, clash)
other_word Balance rest text is =
    let clash : ◌≡◌ {A = ℕ} 98 112 = ap (λ (t : List ℕ). get_or t 0 0) is in omega (arith, clash)
other_word Ring rest text is =
    let clash : ◌≡◌ {A = ℕ} 114 112 = ap (λ (t : List ℕ). get_or t 0 0) is in omega (arith, clash)
other_word Locks rest text is =
    let clash : ◌≡◌ {A = ℕ} 108 112 = ap (λ (t : List ℕ). get_or t 0 0) is in omega (arith, clash)

-- where what stands behind the word names no ring and numbers, the words ask nothing of a ring
pub no_preview : (words text : List ℕ) (fault : SpellingFault) →
    words ≡ codes "preview " ++ text →
    Reads (λ (x : List ℕ × ℕ × ℕ). NamesNumbers text x.0 x.1 x.2) (Err fault) →
    Reads (λ (x : List ℕ × Read). AskOfRing words x.0 x.1) (Err fault)
no_preview words text NoMemory is none = tt
no_preview words text Bad is none = λ x. by x.0 x.1
  where
    by : (name : List ℕ) (what : Read) → AskOfRing words name what → ⊥
    by name (read.Plain plain) asks = other_word plain name text (sym asks.is ∙ is)
    by name read.Tables asks = asks
    by name (read.Nodes path) asks = asks
    by name (read.Published version written) asks = asks
    by name (read.Preview seed hour) asks = none (name, seed, hour)
        (subst (λ (t : List ℕ). NamesNumbers t name seed hour)
        (append_cancel_left (codes "preview ") asks.0 text (sym asks.1 ∙ is)) asks.2)
    by name (read.Moves from to) asks = preview_moves asks.0 text (sym asks.1 ∙ is)
    by name (read.EachMove from to) asks = asks

-- the same of what moved
pub no_moves : (words text : List ℕ) (fault : SpellingFault) → words ≡ codes "moves " ++ text →
    Reads (λ (x : List ℕ × ℕ × ℕ). NamesNumbers text x.0 x.1 x.2) (Err fault) →
    Reads (λ (x : List ℕ × Read). AskOfRing words x.0 x.1) (Err fault)
no_moves words text NoMemory is none = tt
no_moves words text Bad is none = λ x. by x.0 x.1
  where
    by : (name : List ℕ) (what : Read) → AskOfRing words name what → ⊥
    by name (read.Plain plain) asks = moves_word plain name text (sym asks.is ∙ is)
    by name read.Tables asks = asks
    by name (read.Nodes path) asks = asks
    by name (read.Published version written) asks = asks
    by name (read.Preview seed hour) asks = preview_moves text asks.0 (sym is ∙ asks.1)
    by name (read.Moves from to) asks = none (name, from, to)
        (subst (λ (t : List ℕ). NamesNumbers t name from to)
        (append_cancel_left (codes "moves ") asks.0 text (sym asks.1 ∙ is)) asks.2)
    by name (read.EachMove from to) asks = asks

-- words that ask for no preview and no moves, and nothing by a word alone, ask nothing of a ring
pub nothing_alone : (words : List ℕ) (fault : SpellingFault) → ((text : List ℕ) →
    words ≡ codes "preview " ++ text → ⊥) → ((text : List ℕ) → words ≡ codes "moves " ++ text → ⊥) →
    Reads (λ (x : List ℕ × Plain). AskPlain words x.0 x.1) (Err fault) →
    Reads (λ (x : List ℕ × Read). AskOfRing words x.0 x.1) (Err fault)
nothing_alone words NoMemory unseen unmoved none = tt
nothing_alone words Bad unseen unmoved none = λ x. by x.0 x.1
  where
    by : (name : List ℕ) (what : Read) → AskOfRing words name what → ⊥
    by name (read.Plain plain) asks = none (name, plain) asks
    by name read.Tables asks = asks
    by name (read.Nodes path) asks = asks
    by name (read.Published version written) asks = asks
    by name (read.Preview seed hour) asks = unseen asks.0 asks.1
    by name (read.Moves from to) asks = unmoved asks.0 asks.1
    by name (read.EachMove from to) asks = asks

-- ---- a part of the log

-- where what stands behind the place is no such number, the text asks for no part
pub no_size : (text size : List ℕ) (from : ℕ) (fault : SpellingFault) → from < long_count →
    text ≡ decimal from ++ 32 ∷ size → Reads (SpellsNumber size 1 most_told) (Err fault) →
    Reads (λ (x : ℕ × ℕ). AsksPart text x.0 x.1) (Err fault)
no_size text size from NoMemory fits is none = tt
no_size text size from Bad fits is none = λ x asks.
    let parts = separated_parts 32 text from x.0 size asks.size (lit< tt) fits asks.fits is asks.is
    in
    none x.1 (subst (λ (t : List ℕ). SpellsNumber t 1 most_told x.1) (sym parts.1) asks.spelled)

-- a plain read and a part of the log have different words in front
log_word : (plain : Plain) (rest text : List ℕ) → asked_text plain rest ≡ codes "log " ++ text → ⊥
log_word Devices rest text is =
    let clash : ◌≡◌ {A = ℕ} 100 108 = ap (λ (t : List ℕ). get_or t 0 0) is in omega (arith, clash)
log_word Balance rest text is =
    let clash : ◌≡◌ {A = ℕ} 98 108 = ap (λ (t : List ℕ). get_or t 0 0) is in omega (arith, clash)
log_word Ring rest text is =
    let clash : ◌≡◌ {A = ℕ} 114 108 = ap (λ (t : List ℕ). get_or t 0 0) is in omega (arith, clash)
log_word Locks rest text is =
    let clash : ◌≡◌ {A = ℕ} 99 103 = ap (λ (t : List ℕ). get_or t 2 0) is in omega (arith, clash)

-- and so have a preview, what moved, the rings and the status
log_preview : (rest text : List ℕ) → codes "preview " ++ rest ≡ codes "log " ++ text → ⊥
log_preview rest text is =
    let clash : ◌≡◌ {A = ℕ} 112 108 = ap (λ (t : List ℕ). get_or t 0 0) is in omega (arith, clash)

log_moves : (rest text : List ℕ) → codes "moves " ++ rest ≡ codes "log " ++ text → ⊥
log_moves rest text is =
    let clash : ◌≡◌ {A = ℕ} 109 108 = ap (λ (t : List ℕ). get_or t 0 0) is in omega (arith, clash)

log_rings : (text : List ℕ) → codes "rings" ≡ codes "log " ++ text → ⊥
log_rings text is =
    let clash : ◌≡◌ {A = ℕ} 114 108 = ap (λ (t : List ℕ). get_or t 0 0) is in omega (arith, clash)

log_status : (text : List ℕ) → codes "status" ≡ codes "log " ++ text → ⊥
log_status text is =
    let clash : ◌≡◌ {A = ℕ} 115 108 = ap (λ (t : List ℕ). get_or t 0 0) is in omega (arith, clash)

log_of_ring : (words text name : List ℕ) (what : Read) → words ≡ codes "log " ++ text →
    AskOfRing words name what → ⊥
log_of_ring words text name (read.Plain plain) is asks = log_word plain name text (sym asks.is ∙ is)
log_of_ring words text name read.Tables is asks = asks
log_of_ring words text name (read.Nodes path) is asks = asks
log_of_ring words text name (read.Published version written) is asks = asks
log_of_ring words text name (read.Preview seed hour) is asks =
    log_preview asks.0 text (sym asks.1 ∙ is)
log_of_ring words text name (read.Moves from to) is asks = log_moves asks.0 text (sym asks.1 ∙ is)
log_of_ring words text name (read.EachMove from to) is asks = asks

log_held : (words text : List ℕ) (asked : Question) → words ≡ codes "log " ++ text →
    AskQuestion words asked → ⊥
log_held words text question.Rings is asks = log_rings text (sym asks ∙ is)
log_held words text question.Status is asks = log_status text (sym asks ∙ is)
log_held words text question.Metrics is asks = absurd asks
log_held words text (question.Ring name what) is asks = log_of_ring words text name what is asks

-- where what stands behind the word asks for no part, the words ask nothing
pub no_log : (words text : List ℕ) (fault : SpellingFault) → words ≡ codes "log " ++ text →
    Reads (λ (x : ℕ × ℕ). AsksPart text x.0 x.1) (Err fault) → Reads (AskInquiry words) (Err fault)
no_log words text NoMemory is none = tt
no_log words text Bad is none = by
  where
    by : (asked : Inquiry) → AskInquiry words asked → ⊥
    by (inquiry.Held question) asks = log_held words text question is asks
    by (inquiry.Log from most) asks = none (from, most)
        (subst (λ (t : List ℕ). AsksPart t from most)
        (append_cancel_left (codes "log ") asks.0 text (sym asks.1 ∙ is)) asks.2)

-- words that ask for no part of the log, and nothing of what is held, ask nothing
pub nothing_held : (words : List ℕ) (fault : SpellingFault) →
    ((text : List ℕ) → words ≡ codes "log " ++ text → ⊥) →
    Reads (AskQuestion words) (Err fault) → Reads (AskInquiry words) (Err fault)
nothing_held words NoMemory no_part none = tt
nothing_held words Bad no_part none = by
  where
    by : (asked : Inquiry) → AskInquiry words asked → ⊥
    by (inquiry.Held question) asks = none question asks
    by (inquiry.Log from most) asks = no_part asks.0 asks.1

-- what is read of the words is read of the line
pub line_reads : (line words : List ℕ) (result : Result Inquiry SpellingFault) →
    line ≡ codes "? " ++ words → Reads (AskInquiry words) result →
    Reads (AsksInquiry line) result
line_reads line words (Ok asked) is reads = record { words = words; is = is; asks = reads }
line_reads line words (Err NoMemory) is reads = tt
line_reads line words (Err Bad) is none = λ asked asks. none asked
    (subst (λ (w : List ℕ). AskInquiry w asked) (behind_mark line words asked is asks) asks.asks)
