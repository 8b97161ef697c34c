-- The records of a text, and those that a reader has given so far.
use Rattle.std.proofs.Common.{zero-add, ◌≡◌, ℕ, zero, suc, ◌+◌, ◌-◌, ◌<◌, ◌≤◌, ◌⊎◌, Bool, true}
use Rattle.std.proofs.Common.{false, List, [], ◌∷◌, ◌++◌, length, Option, Some, None, Result, Ok}
use Rattle.std.proofs.Common.{Err, refl, sym, ap, ◌∙◌, append_assoc, ⊎_elim, inl, inr, arith}
use Rattle.csv.specs.Machine.{Read, next_record, is_end, step, fields_after, field_after}
use Rattle.csv.specs.Machine.{ends_at_end}
use Rattle.csv.specs.Reading.{ExplainsRead, ReadRecord, Reached, default_config, is_flexible}
use Rattle.csv.specs.Reading.{records_from, stops_reader, strip_bom}
use Rattle.csv.specs.declared.error.ErrorKind.{ErrorKind}
use Rattle.csv.specs.declared.error.ErrorKind.TheVariants as kind
use Rattle.csv.specs.declared.parser.Config.{Config}
use Rattle.csv.specs.declared.parser.State.{State}
use Rattle.csv.specs.declared.parser.State.TheVariants as st
use Rattle.std.proofs.lemmas.Bool.{cases_Bool}
use Rattle.std.proofs.lemmas.List.{append-nil}
use Rattle.std.specs.Prelude.{IfErr, MatchBool, MatchResult}
use Rattle.csv.specs.declared.reader.Reader.{Reader}
use Rattle.csv.proofs.ReadFacts.{rows-more, rows-end}
use Rattle.std.specs.List.{AllZip}
use Rattle.std.proofs.lemmas.Slice.Zip.{AllZip-long}
use Rattle.ring_words.specs.declared.device.Row.{Row}
use Rattle.csv_import.specs.Fields.{IsRow, header}
use Rattle.csv_import.specs.Inner.Midway.{HasGiven, IsWrongWith}
use Rattle.byte_streams.specs.Counted.{read_faults}
use Rattle.byte_streams.specs.declared.counted.CountedReader.{CountedReader}
use Rattle.csv_import.specs.Rows.{IsBehindRows, IsCsvCaused, IsWrong, records_of}
use Rattle.csv_import.specs.declared.fault.CsvFault.{CsvFault}
use Rattle.csv_import.specs.declared.fault.CsvFault.TheVariants.{BadHeader, BadRow, BadField}
use Rattle.csv_import.specs.declared.fault.CsvFault.TheVariants.{ReadFailed, NoMemory}

-- A read takes some of the text, or all of it.
abbrev IsTaken : Read → List ℕ → Type 0
IsTaken p xs = (length p.2 < length xs) ⊎ ((p.2 ≡ []) × (p.1 ≡ st.StartRecord))

at_end : (cfg : Config) (s : State) (fields : List (List ℕ)) (field : List ℕ) (p : Read) →
    next_record cfg s fields field [] ≡ Some p → IsTaken p []
unfolding next_record
at_end cfg s fields field p is = elim (cases_Bool (ends_at_end s)) [
  | inl ends ↦ let h = rw ends at is in inr (cc, cc)
  | inr goes ↦ let h = rw goes at is in cc
]

taken : (cfg : Config) (s : State) (fields : List (List ℕ)) (field xs : List ℕ) (p : Read) →
    next_record cfg s fields field xs ≡ Some p → IsTaken p xs
unfolding next_record
taken cfg s fields field [] p is = at_end cfg s fields field p is
taken cfg s fields field (c ∷ rest) p is = elim (cases_Bool (is_end (step cfg s c).1)) [
  | inl ends ↦ let h = rw ends at is in let e : p.2 ≡ rest = cc in inl (omega (arith, ap length e))
  | inr goes ↦ let h = rw goes at is in ⊎_elim (λ less. inl (omega arith)) (λ all. inr all)
      (taken cfg (step cfg s c).0 (fields_after (step cfg s c).1 fields field)
      (field_after (step cfg s c).1 c field) rest p h)
]

-- from the start of a record no text is taken, where there is none
none_left : (cfg : Config) → next_record cfg st.StartRecord [] [] [] ≡ None
unfolding next_record
none_left cfg = refl

nothing_more : (cfg : Config) (s : State) (xs : List ℕ) (given : List (List (List ℕ))) (s2 : State)
    (ys : List ℕ) → xs ≡ [] → s ≡ st.StartRecord → Reached cfg s xs given s2 ys → length given ≡ 0
unfolding Reached
nothing_more cfg s xs [] s2 ys empty start reached = refl
nothing_more cfg s xs (r ∷ rs) s2 ys empty start reached =
    let none = none_left cfg in
    let is = rw (empty, start) at reached.1 in
    cc

few_records : (cfg : Config) (s : State) (xs : List ℕ) (given : List (List (List ℕ))) (s2 : State)
    (ys : List ℕ) → Reached cfg s xs given s2 ys → length given ≤ length xs + 1
unfolding Reached
few_records cfg s xs [] s2 ys reached = omega arith
few_records cfg s xs (r ∷ rs) s2 ys reached =
    let p = reached.0 in
    ⊎_elim
    (λ less. let few = few_records cfg p.1 p.2 rs s2 ys reached.3 in omega arith)
    (λ all. let none = nothing_more cfg p.1 p.2 rs s2 ys all.0 all.1 reached.3 in
    omega (arith, none))
    (taken cfg s [] [] xs p reached.1)

-- the records of a text are those that were reached, and those from there on
from_there : (cfg : Config) (more : ℕ) (s : State) (xs : List ℕ) (given : List (List (List ℕ)))
    (s2 : State) (ys : List ℕ) → Reached cfg s xs given s2 ys
    → records_from cfg (length given + more) s xs ≡ given ++ records_from cfg more s2 ys
unfolding Reached records_from
from_there cfg more s xs [] s2 ys reached = rw (zero-add more, reached.0, reached.1) refl
from_there cfg more s xs (r ∷ rs) s2 ys reached =
    let p = reached.0 in
    let rest = from_there cfg more p.1 p.2 rs s2 ys reached.3 in
    let one : suc (length rs) + more ≡ suc (length rs + more) = omega arith in
    rw (one, reached.1) (rw (reached.2, rest) refl)

pub records_begin : (text : List ℕ) (given : List (List (List ℕ))) (s : State) (ys : List ℕ) →
    Reached default_config st.StartRecord (strip_bom text) given s ys
    → (rest : List (List (List ℕ))) × (records_of text ≡ given ++ rest)
records_begin text given s ys reached =
    let few = few_records default_config st.StartRecord (strip_bom text) given s ys reached in
    let more = length (strip_bom text) + 1 - length given in
    let fuel : length (strip_bom text) + 1 ≡ length given + more = omega arith in (
      records_from default_config more s ys,
      ap (λ (n : ℕ). records_from default_config n st.StartRecord (strip_bom text)) fuel ∙
          from_there default_config more st.StartRecord (strip_bom text) given s ys reached,
    )

no_records : (cfg : Config) (more : ℕ) (s : State) (ys : List ℕ) → next_record cfg s [] [] ys ≡ None
    → records_from cfg more s ys ≡ []
unfolding records_from
no_records cfg zero s ys none = refl
no_records cfg (suc more) s ys none = rw none refl

pub records_end : (text : List ℕ) (given : List (List (List ℕ))) (s : State) (ys : List ℕ) →
    Reached default_config st.StartRecord (strip_bom text) given s ys
    → next_record default_config s [] [] ys ≡ None → records_of text ≡ given
records_end text given s ys reached none =
    let few = few_records default_config st.StartRecord (strip_bom text) given s ys reached in
    let more = length (strip_bom text) + 1 - length given in
    let fuel : length (strip_bom text) + 1 ≡ length given + more = omega arith in
    ap (λ (n : ℕ). records_from default_config n st.StartRecord (strip_bom text)) fuel
    ∙ from_there default_config more st.StartRecord (strip_bom text) given s ys reached
    ∙ ap (λ (l : List (List (List ℕ))). given ++ l) (no_records default_config more s ys none)
    ∙ append-nil given

-- one more record is given, or there is none
pub next_given : {R : Type 0} (remaining : R → Option (List ℕ)) (text : List ℕ)
    (given : List (List (List ℕ))) (old new : Reader R) (found : Bool) (fields : List (List ℕ))
    → HasGiven remaining text given old → ReadRecord remaining old new found fields
    → MatchBool found (HasGiven remaining text (given ++ fields ∷ []) new) (records_of text ≡ given)
next_given remaining text given old new true fields h read =
    let more = rows-more remaining old new fields default_config st.StartRecord (strip_bom text)
    h.rest given h.config h.source h.reached read in
    record {
      config = read.2 ∙ h.config;
      rest = more.0;
      source = more.1;
      reached = more.2;
    }
next_given remaining text given old new false fields h read =
    records_end text given old.state h.rest h.reached (rows-end remaining old new fields
    default_config h.rest h.config h.source read)

behind_rows : {R : Type 0} (remaining : R → Option (List ℕ)) (text : List ℕ)
    (good : List (List (List ℕ))) (rows : List Row) (number n : ℕ) (fields : List (List ℕ))
    (reader : Reader R)
    → HasGiven remaining text ((header ∷ good) ++ fields ∷ []) reader → AllZip IsRow good rows →
    length rows + 1 ≡ number → n ≡ number → IsBehindRows (records_of text) n fields
behind_rows remaining text good rows number n fields reader given are count same =
    let begin = records_begin text _ reader.state given.rest given.reached in
    record {
      good = good;
      rows = rows;
      rest = begin.0;
      split = begin.1 ∙ ap (λ (l : List (List (List ℕ))). header ∷ l) (append_assoc good (fields ∷
          []) begin.0);
      are_rows = are;
      count = same ∙ sym count ∙ ap (λ (m : ℕ). m + 1) (AllZip-long IsRow good rows are);
    }

-- what is wrong with the record that was given last is wrong with the text
pub wrong_row : {R : Type 0} (remaining : R → Option (List ℕ)) (text : List ℕ)
    (good : List (List (List ℕ))) (rows : List Row) (number : ℕ) (fields : List (List ℕ))
    (reader : Reader R) (fault : CsvFault)
    → HasGiven remaining text ((header ∷ good) ++ fields ∷ []) reader → AllZip IsRow good rows →
    length rows + 1 ≡ number → IsWrongWith fields number fault → IsWrong (records_of text) fault
wrong_row remaining text good rows number fields reader BadHeader given are count wrong =
    absurd wrong
wrong_row remaining text good rows number fields reader ReadFailed given are count wrong =
    absurd wrong
wrong_row remaining text good rows number fields reader NoMemory given are count wrong = tt
wrong_row remaining text good rows number fields reader (BadRow n) given are count wrong = (
  fields,
  behind_rows remaining text good rows number n fields reader given are count wrong.0,
  wrong.1,
)
wrong_row remaining text good rows number fields reader (BadField n column) given are count wrong = (
  fields,
  behind_rows remaining text good rows number n fields reader given are count wrong.0,
  wrong.1,
  wrong.2,
)

first_same : (a b : List (List ℕ)) (more bs : List (List (List ℕ))) → a ∷ more ≡ b ∷ bs → a ≡ b
first_same a b more bs e = cc

empty_not : (b : List (List ℕ)) (bs : List (List (List ℕ))) → [] ≡ b ∷ bs → ⊥
empty_not b bs e = cc

-- where the first record isn't the names of the columns, or there is none, the text doesn't begin
-- with them
pub no_header : {R : Type 0} (remaining : R → Option (List ℕ)) (text : List ℕ)
    (fields : List (List ℕ)) (reader : Reader R) (found : Bool)
    → MatchBool found (HasGiven remaining text (fields ∷ []) reader) (records_of text ≡ []) →
    (found ≡ true → fields ≡ header → ⊥) → (behind : List (List (List ℕ))) →
    records_of text ≡ header ∷ behind → ⊥
no_header remaining text fields reader true given other behind is =
    let begin = records_begin text (fields ∷ []) reader.state given.rest given.reached in
    let same : fields ∷ begin.0 ≡ header ∷ behind = sym begin.1 ∙ is in
    other refl (first_same fields header begin.0 behind same)
no_header remaining text fields reader false none other behind is =
    empty_not header behind (sym none ∙ is)

pub one_more_row : (good : List (List (List ℕ))) (rows : List Row) (fields : List (List ℕ))
    (row : Row) → AllZip IsRow good rows → IsRow fields row → AllZip IsRow (good ++ fields ∷
    []) (rows ++ row ∷ [])
one_more_row [] [] fields row are is = (is, tt)
one_more_row [] (r ∷ rows) fields row are is = absurd are
one_more_row (g ∷ good) [] fields row are is = absurd are
one_more_row (g ∷ good) (r ∷ rows) fields row are is =
    (are.0, one_more_row good rows fields row are.1 is)

-- a reader of records of any length fails only where the reader underneath fails or memory is
-- refused
pub stopped : {R : Type 0} (remaining : R → Option (List ℕ)) (old new : Reader R)
    (cause : ErrorKind) → is_flexible old ≡ true → ExplainsRead remaining old new false cause →
    stops_reader cause ≡ true
stopped remaining old new (kind.Io e) any why = refl
stopped remaining old new kind.OutOfMemory any why = refl
stopped remaining old new (kind.UnequalLengths pos expected len) any why = let strict = why.0 in cc
stopped remaining old new (kind.Utf8 pos err) any why = let text = why.0 in cc
stopped remaining old new (kind.Serialize text) any why = absurd why
stopped remaining old new (kind.Deserialize pos err) any why = absurd why

-- a text that is at hand leaves the reader as it was
pub read_before : {R A : Type 0} (all : List (List (List ℕ))) (old new : CountedReader R)
    (result : Result A CsvFault) → read_faults new ≡ read_faults old
    → IfErr result (IsWrong all) → MatchResult result (λ _. read_faults new ≡ read_faults old)
    (IsCsvCaused old new)
read_before all old new (Ok value) same wrong = same
read_before all old new (Err BadHeader) same wrong = same
read_before all old new (Err (BadRow number)) same wrong = same
read_before all old new (Err (BadField number column)) same wrong = same
read_before all old new (Err ReadFailed) same wrong = absurd wrong
read_before all old new (Err NoMemory) same wrong = same
