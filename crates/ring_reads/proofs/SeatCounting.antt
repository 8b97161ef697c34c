-- Seats are counted for each device, one after another.
use Rattle.std.proofs.Common.{◌≡◌, ◌<◌, ◌≤◌, ◌+◌, ◌∙◌, ℕ, Bool, true, false, cond, List, length}
use Rattle.std.proofs.Common.{ap, arith, count_by, get_or, replicate, sym, take, ⊎_elim}
use Rattle.std.specs.List.{zip}
use Rattle.std.proofs.lemmas.Slice.Zip.{get_or-zip}
use Rattle.ring_tables.proofs.Lists.{pair_below}
use Rattle.std.proofs.lemmas.Bool.{cases_lt}
use Rattle.std.proofs.lemmas.List.{get_or-replicate, get_or_default, get_or_past}
use Rattle.std.proofs.lemmas.List.{length-replicate, take_all}
use Rattle.std.proofs.lemmas.List.Sums.{sum_by_more}
use Rattle.ring_words.specs.Limits.{most_ids}
use Rattle.ring_reads.specs.Inner.SeatCounts.{AreSeatCounts}

-- The counts tell of the elements so far, and none is greater than their number.
pub record Counted {X : Type 0} (test : ℕ → X → Bool) (elements : List X) (seen : ℕ)
    (counts : List ℕ) : Type 0 where
  pub long : length counts ≡ most_ids
  pub counted : (id : ℕ) → id < most_ids →
      get_or counts id 0 ≡ count_by (test id) (take seen elements)
  pub small : (id : ℕ) → get_or counts id 0 ≤ seen

-- where nothing is counted, each count is 0
pub zeros : (count id : ℕ) → ◌≡◌ {A = ℕ} (get_or (replicate count 0) id 0) 0
zeros count id =
    let none : ℕ = 0 in
    let long = length-replicate count none in
    ⊎_elim (λ below. get_or-replicate count id none none below)
    (λ past. get_or_past (replicate count none) id none (omega (arith, long, past)))
    (cases_lt id count)

pub none_counted : {X : Type 0} (test : ℕ → X → Bool) (elements : List X) (counts : List ℕ) →
    length counts ≡ most_ids → ((id : ℕ) → get_or counts id 0 ≡ 0) → Counted test elements 0 counts
none_counted test elements counts long zero = record {
  long = long;
  counted = λ id below. zero id;
  small = λ id. let none = zero id in omega (arith, none);
}

at_most_one : (b : Bool) → cond b 1 0 ≤ 1
at_most_one true = omega arith
at_most_one false = omega arith

-- one more element is counted
pub one_counted : {X : Type 0} (test : ℕ → X → Bool) (elements : List X) (seen : ℕ) (element : X)
    (before after : List ℕ) → Counted test elements seen before → seen < length elements →
    length after ≡ most_ids → ((id : ℕ) → get_or after id 0 ≡ get_or before id 0 +
    cond (test id (get_or elements seen element)) 1 0) → Counted test elements (seen + 1) after
one_counted test elements seen element before after held below long more = record {
  long = long;
  counted = λ id within.
      let last = sum_by_more (λ x. cond (test id x) 1 0) elements seen element below in
      let was = held.counted id within in
      let is = more id in
      omega (arith, last, was, is);
  small = λ id.
      let one = at_most_one (test id (get_or elements seen element)) in
      let was = held.small id in
      let is = more id in
      omega (arith, one, was, is);
}

-- one more pair of elements of two lists is counted
pub one_pair_counted : (test : ℕ → ℕ × ℕ → Bool) (xs ys : List ℕ) (seen : ℕ)
    (before after : List ℕ) → Counted test (zip xs ys) seen before → seen < length xs →
    seen < length ys → length after ≡ most_ids → ((id : ℕ) → get_or after id 0 ≡
    get_or before id 0 + cond (test id (get_or xs seen 0, get_or ys seen 0)) 1 0) →
    Counted test (zip xs ys) (seen + 1) after
one_pair_counted test xs ys seen before after held below under long more =
    one_counted test (zip xs ys) seen (0, 0) before after held (pair_below xs ys seen below under)
    long (λ id. more id ∙ ap (λ (pair : ℕ × ℕ). get_or before id 0 + cond (test id pair) 1 0)
    (sym (get_or-zip xs ys seen (0, 0) below under)))

-- all are
pub all_counted : {X : Type 0} (test : ℕ → X → Bool) (elements : List X) (seen : ℕ)
    (counts : List ℕ) → Counted test elements seen counts → length elements ≤ seen →
    AreSeatCounts test elements counts
all_counted test elements seen counts held all = record {
  long = held.long;
  counted = λ id below. held.counted id below ∙ ap (count_by (test id)) (take_all seen elements all);
}

-- what is read of them at a device's number
pub count_read : {X : Type 0} (test : ℕ → X → Bool) (elements : List X) (counts : List ℕ)
    (id at count : ℕ) → AreSeatCounts test elements counts → id < most_ids → at ≡ id →
    count ≡ get_or counts at count → count ≡ count_by (test id) elements
count_read test elements counts id at count are below same is =
    let long = are.long in
    is ∙ ap (λ (k : ℕ). get_or counts k count) same ∙ get_or_default counts id count 0 (omega (arith, long, below)) ∙ are.counted id below
