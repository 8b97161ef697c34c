-- Homes of partitions, and which ask first.
use Rattle.std.proofs.Common.{◌≡◌, ◌∙◌, ℕ, zero, suc, ◌+◌, ◌<◌, ◌++◌, Bool, true, false, cond, All, List, [], ◌∷◌}
use Rattle.std.proofs.Common.{IfSome, None, Option, Some, ap, arith, get_or, length, map, refl, sym, take}
use Rattle.std.proofs.lemmas.Bool.{cases_eq}
use Rattle.std.proofs.Common.{⊎_elim, subst, Err, Global, IfOk, Ok, Result, Vec, ◌||◌, ◌≤◌}
use Rattle.std.specs.Prelude.{slice_get}
use Rattle.std.specs.List.{filter, flat_map, list_any, range_with_len}
use Rattle.std.proofs.Math.Numerals.{add-one}
use Rattle.std.proofs.lemmas.List.{append-nil, append_assoc}
use Rattle.std.proofs.lemmas.List.Elements.{All-append, All-filter, All-nil}
use Rattle.ring_model.specs.Ring.{has_device}
use Rattle.ring_words.specs.declared.device.Device.{Device}
use Rattle.ring_room.specs.Rows.{AreKnown}
use Rattle.ring_place.specs.Made.{by_number, device_at, is_number, numbered_as}
use Rattle.ring_place.specs.Inner.Placing.{numbered}
use Rattle.ring_deal.proofs.Lists.{range_more}
use Rattle.ring_place.proofs.Placing.RowSteps.{if_some_at}
use Rattle.std.proofs.lemmas.List.{flat_map_more}

seat_there : (row : List (Option ℕ)) (n id : ℕ) → get_or row n None ≡ Some id →
    slice_get row n ≡ Some (Some id)
seat_there [] n id at = absurd (cc at)
seat_there (seat ∷ row) zero id at = ap Some at
seat_there (seat ∷ row) (suc n) id at = seat_there row n id at

-- a home is a device of the ring
pub home_known : (devices : List Device) (old : List (Option ℕ)) (replica : Option ℕ) →
    AreKnown devices old → IfSome (device_at old replica) (λ id. has_device id devices ≡ true)
home_known devices old None known = tt
home_known devices old (Some n) known = if_some_at (λ id. has_device id devices ≡ true)
    (get_or old n None) (λ id at. known n id (seat_there old n id at))

numbered_suc : (order : List ℕ) (numbers : List (Option ℕ)) (number i : ℕ) → i < length order
    → length numbers ≡ length order → numbered (take (suc i) order) (take (suc i) numbers) number ≡
    numbered (take i order) (take i numbers) number ++
    cond (is_number number (get_or numbers i None)) (get_or order i 0 ∷ []) []
numbered_suc [] numbers number i lt same = absurd (omega (arith, lt))
numbered_suc (p ∷ order) [] number i lt same = absurd (omega (arith, same))
numbered_suc (p ∷ order) (n ∷ numbers) number zero lt same = append-nil
    (cond (is_number number n) (p ∷ []) [])
numbered_suc (p ∷ order) (n ∷ numbers) number (suc i) lt same =
    ap (λ xs. cond (is_number number n) (p ∷ []) [] ++ xs)
    (numbered_suc order numbers number i (omega (arith, lt)) (omega (arith, same)))
    ∙ sym (append_assoc (cond (is_number number n) (p ∷ []) [])
    (numbered (take i order) (take i numbers) number)
    (cond (is_number number (get_or numbers i None)) (get_or order i 0 ∷ []) []))

-- there is none of a number that none has
pub none_numbered : (order : List ℕ) (numbers : List (Option ℕ)) (number : ℕ)
    → ((k : ℕ) → k < length numbers → is_number number (get_or numbers k None) ≡ false)
    → numbered order numbers number ≡ []
none_numbered [] numbers number none = refl
none_numbered (p ∷ order) [] number none = refl
none_numbered (p ∷ order) (n ∷ numbers) number none =
    ap (λ b. cond b (p ∷ []) [] ++ numbered order numbers number) (none zero (omega arith))
    ∙ none_numbered order numbers number (λ k lt. none (suc k) (omega (arith, lt)))

-- one more partition with its number
numbered_more : (order : List ℕ) (numbers : List (Option ℕ)) (number i : ℕ) (passes : Bool)
    → i < length order → length numbers ≡ length order
    → passes ≡ is_number number (get_or numbers i None)
    → numbered (take i order) (take i numbers) number ++ cond passes (get_or order i 0 ∷ []) [] ≡
    numbered (take (i + 1) order) (take (i + 1) numbers) number
numbered_more order numbers number i passes lt same is =
    ap (λ b. numbered (take i order) (take i numbers) number ++ cond b (get_or order i 0 ∷ []) []) is
    ∙ sym (ap (λ k. numbered (take k order) (take k numbers) number) (add-one i)
    ∙ numbered_suc order numbers number i lt same)

pub numbered_step : (first before order : List ℕ) (numbers : List (Option ℕ)) (number i : ℕ)
    (passes : Bool) → i < length order → length numbers ≡ length order
    → passes ≡ is_number number (get_or numbers i None)
    → before ≡ first ++ numbered (take i order) (take i numbers) number
    → before ++ cond passes (get_or order i 0 ∷ []) [] ≡
    first ++ numbered (take (i + 1) order) (take (i + 1) numbers) number
numbered_step first before order numbers number i passes lt same is so_far =
    ap (λ xs. xs ++ cond passes (get_or order i 0 ∷ []) []) so_far
    ∙ append_assoc first (numbered (take i order) (take i numbers) number)
    (cond passes (get_or order i 0 ∷ []) [])
    ∙ ap (λ xs. first ++ xs) (numbered_more order numbers number i passes lt same is)

or_not : (b : Bool) (p : ℕ) (some all : List ℕ) → some ≡ all → (cond b (p ∷ []) [] ++ some) ≡
    cond b (p ∷ all) all
or_not true p some all same = ap (λ xs. p ∷ xs) same
or_not false p some all same = same

-- by the numbers of all these are those that pass
pub numbered_filter : (f : ℕ → Option ℕ) (order : List ℕ) (number : ℕ) →
    numbered order (map f order) number ≡ filter (λ p. is_number number (f p)) order
numbered_filter f [] number = refl
numbered_filter f (p ∷ order) number = or_not (is_number number (f p)) p
    (numbered order (map f order) number) (filter (λ q. is_number number (f q)) order)
    (numbered_filter f order number)

-- those of one more number
pub numbers_more : (order : List ℕ) (numbers : List (Option ℕ)) (number : ℕ) (before after : List ℕ)
    → before ≡ flat_map (numbered order numbers) (range_with_len 0 number)
    → after ≡ before ++ numbered order numbers number
    → after ≡ flat_map (numbered order numbers) (range_with_len 0 (number + 1))
numbers_more order numbers number before after so_far is =
    is ∙ ap (λ xs. xs ++ numbered order numbers number) so_far
    ∙ flat_map_more (numbered order numbers) [] (range_with_len 0 number) number
    ∙ ap (flat_map (numbered order numbers)) (sym (range_more number))

flat_alike : (f g : ℕ → List ℕ) → ((n : ℕ) → f n ≡ g n) → (ns : List ℕ) → flat_map f ns ≡
    flat_map g ns
flat_alike f g same [] = refl
flat_alike f g same (n ∷ ns) = ap (λ xs. xs ++ flat_map f ns) (same n)
    ∙ ap (λ xs. g n ++ xs) (flat_alike f g same ns)

-- the numbers of all tell the order
pub numbers_told : (number : ℕ → Option ℕ) (order : List ℕ) (numbers : List (Option ℕ)) (all : List ℕ)
    → numbers ≡ map number order
    → all ≡ flat_map (numbered order numbers) (range_with_len 0 11) → all ≡ by_number number order
numbers_told number order numbers all are is =
    is ∙ ap (λ ns. flat_map (numbered order ns) (range_with_len 0 11)) are
    ∙ flat_alike (numbered order (map number order)) (numbered_as number order)
    (numbered_filter number order) (range_with_len 0 11)

all_flat : (P : ℕ → Type 0) (f : ℕ → List ℕ) → ((n : ℕ) → All P (f n)) → (ns : List ℕ) →
    All P (flat_map f ns)
all_flat P f all [] = All-nil P
all_flat P f all (n ∷ ns) = All-append P (f n) (flat_map f ns) (all n) (all_flat P f all ns)

-- what holds of all holds of those with numbers
pub numbers_all : (P : ℕ → Type 0) (number : ℕ → Option ℕ) (order : List ℕ) → All P order →
    All P (by_number number order)
numbers_all P number order all = all_flat P (numbered_as number order)
    (λ n. All-filter (λ p. is_number n (number p)) P order all) (range_with_len 0 11)

pub if_ok_told : {E : Type 0} (number : ℕ → Option ℕ) (order : List ℕ) (numbers : List (Option ℕ))
    (result : Result (Vec ℕ Global) E) → numbers ≡ map number order
    → IfOk result (λ list. list.items ≡ flat_map (numbered order numbers) (range_with_len 0 11))
    → IfOk result (λ list. list.items ≡ by_number number order)
if_ok_told number order numbers (Ok list) are is = numbers_told number order numbers list.items are is
if_ok_told number order numbers (Err e) are is = tt

any_append : (q : ℕ → Bool) (xs ys : List ℕ) → list_any q ys ≡ true → list_any q (xs ++ ys) ≡ true
any_append q [] ys is = is
any_append q (x ∷ xs) ys is = either (q x) (list_any q (xs ++ ys)) (any_append q xs ys is)
  where
    either : (a b : Bool) → b ≡ true → (a || b) ≡ true
    either true b is = refl
    either false b is = is

any_front : (q : ℕ → Bool) (xs ys : List ℕ) → list_any q xs ≡ true → list_any q (xs ++ ys) ≡ true
any_front q [] ys is = absurd (cc is)
any_front q (x ∷ xs) ys is = first (q x) (list_any q xs) (list_any q (xs ++ ys)) is
    (any_front q xs ys)
  where
    first : (a b c : Bool) → (a || b) ≡ true → (b ≡ true → c ≡ true) → (a || c) ≡ true
    first true b c is more = refl
    first false b c is more = more is

-- who is in one of the lists is in all of them together
pub any_flat : (q : ℕ → Bool) (f : ℕ → List ℕ) (start count n : ℕ) → start ≤ n → n < start + count
    → list_any q (f n) ≡ true → list_any q (flat_map f (range_with_len start count)) ≡ true
any_flat q f start zero n le lt is = absurd (omega (arith, le, lt))
any_flat q f start (suc count) n le lt is =
    let rest = flat_map f (range_with_len (start + 1) count) in
    ⊎_elim (λ same. any_front q (f start) rest (subst (λ k. list_any q (f k) ≡ true) same is))
    (λ differs. any_append q (f start) rest (any_flat q f (start + 1) count n
    (omega (arith, le, differs)) (omega (arith, lt)) is)) (cases_eq n start)
