-- A text among those that are published.
use Rattle.std.proofs.Common.{◌≡◌, ℕ, ◌+◌, ◌<◌, ◌≤◌, Bool, true, false, cond, List, [], ◌∷◌, ◌++◌}
use Rattle.ring_words.specs.Limits.{greatest_long, most_versions}
use Rattle.std.proofs.Common.{length, map, refl, ap, ⊎_elim, arith, lit≤, zero, suc, ◌-◌, filter}
use Rattle.std.proofs.Common.{nat_lt, count_by}
use native.Mathlib.Numerals.{unary_clauses}
use Rattle.std.specs.Prelude.{All}
use Rattle.std.specs.List.Sorted.{IsStrictlyIncreasing}
use Rattle.std.specs.Rc.{rc_str_bytes}
use Rattle.std.specs.declared.rc.RcStr.{RcStr}
use Rattle.std.specs.declared.alloc.Global.{Global}
use Rattle.std.proofs.lemmas.Bool.{cases_lt, ltb-true}
use Rattle.std.proofs.lemmas.List.{length-append, map-append, append_assoc, get_or_append_left}
use Rattle.std.proofs.lemmas.List.{get_or_at, get_or-append_right}
use Rattle.std.proofs.lemmas.List.Elements.{filter_passes, All-append, All-cons, All-filter}
use Rattle.std.proofs.lemmas.List.Elements.{All-weaker}
use Rattle.std.proofs.lemmas.List.Sums.{length-filter, sum_by-cons}
use Rattle.std.proofs.lemmas.List.Kept.{IsStrictlyIncreasing-filter}
use Rattle.ring_model.specs.Parts.{texts_of}
use Rattle.ring_model.specs.Publish.{among}
use Rattle.ring_model.specs.Ring.{RingRecord}
use Rattle.ring_model.specs.Valid.{IsValid, IsVersioned}

-- what is kept by its version is seen as what is kept of what is seen
pub texts_filter : (p : ℕ → Bool) (xs : List (ℕ × RcStr Global)) → texts_of (filter (λ e. p e.0) xs)
    ≡ filter (λ e. p e.0) (texts_of xs)
texts_filter p [] = refl
texts_filter p (x ∷ xs) = elim (p x.0) as (λ b. texts_of (cond b (x ∷ filter (λ e. p e.0) xs)
    (filter (λ e. p e.0) xs)) ≡ cond b ((x.0, rc_str_bytes x.1) ∷ filter (λ e. p e.0) (texts_of xs))
    (filter (λ e. p e.0) (texts_of xs))) [
      | true ↦ ap (λ (es : List (ℕ × List ℕ)). (x.0, rc_str_bytes x.1) ∷ es) (texts_filter p xs)
      | false ↦ texts_filter p xs
    ]

-- the versions of what is kept by its version
versions_filter : (p : ℕ → Bool) (xs : List (ℕ × List ℕ)) → map (λ e. e.0) (filter (λ e. p e.0) xs)
    ≡ filter p (map (λ e. e.0) xs)
versions_filter p [] = refl
versions_filter p (x ∷ xs) = elim (p x.0) as
    (λ b. map (λ e. e.0) (cond b (x ∷ filter (λ e. p e.0) xs) (filter (λ e. p e.0) xs)) ≡ cond b
    (x.0 ∷ filter p (map (λ e. e.0) xs)) (filter p (map (λ e. e.0) xs)))
    [ true ↦ ap (λ (vs : List ℕ). x.0 ∷ vs) (versions_filter p xs) | false ↦ versions_filter p xs ]

-- an entry between those of earlier versions and those of later ones, as it is seen
pub texts_of_among : (version : ℕ) (text : RcStr Global) (old copy : List (ℕ × RcStr Global)) →
    texts_of copy ≡ texts_of old →
    texts_of ((filter (λ e. nat_lt e.0 version) old ++ (version, text) ∷ []) ++
    filter (λ e. nat_lt version e.0) copy) ≡ among version (rc_str_bytes text) (texts_of old)
texts_of_among version text old copy same =
    let one : List (ℕ × RcStr Global) = (version, text) ∷ [] in
    let seen : ℕ × RcStr Global → ℕ × List ℕ = λ e. (e.0, rc_str_bytes e.1) in
    rw (
      map-append seen (filter (λ e. nat_lt e.0 version) old ++
          one) (filter (λ e. nat_lt version e.0) copy),
      map-append seen (filter (λ e. nat_lt e.0 version) old) one,
      texts_filter (λ v. nat_lt v version) old,
      texts_filter (λ v. nat_lt version v) copy,
      same,
    )
    (append_assoc (filter (λ e. nat_lt e.0 version) (texts_of old)) ((version, rc_str_bytes text) ∷
    []) (filter (λ e. nat_lt version e.0) (texts_of old)))

-- ---- the texts stay in order, and there is one more at most

tests_apart : (a b : Bool) (n m k : ℕ) → (a ≡ true → b ≡ true → ⊥) → n + m ≤ k →
    (cond a 1 0 + n) + (cond b 1 0 + m) ≤ 1 + k
tests_apart true true n m k apart le = absurd (apart refl refl)
tests_apart true false n m k apart le = omega arith
tests_apart false true n m k apart le = omega arith
tests_apart false false n m k apart le = omega arith

others_count : (version : ℕ) (xs : List (ℕ × List ℕ)) → count_by (λ e. nat_lt e.0 version) xs +
    count_by (λ e. nat_lt version e.0) xs ≤ length xs
others_count version [] = lit≤ tt
others_count version (x ∷ xs) =
    let apart : nat_lt x.0 version ≡ true → nat_lt version x.0 ≡ true → ⊥ = λ below above. (let p =
    ltb-true x.0 version below in let q = ltb-true version x.0 above in omega arith) in
    let first : count_by (λ e. nat_lt e.0 version) (x ∷ xs) ≡ cond (nat_lt x.0 version) 1 0 +
    count_by (λ e. nat_lt e.0 version) xs = sum_by-cons _ x xs in
    let second : count_by (λ e. nat_lt version e.0) (x ∷ xs) ≡ cond (nat_lt version x.0) 1 0 +
    count_by (λ e. nat_lt version e.0) xs = sum_by-cons _ x xs in
    let step = tests_apart (nat_lt x.0 version) (nat_lt version x.0) _ _ (length xs) apart
    (others_count version xs) in
    omega arith

among_count : (version : ℕ) (text : List ℕ) (xs : List (ℕ × List ℕ)) →
    length (among version text xs) ≤ length xs + 1
among_count version text xs =
    let earlier : List (ℕ × List ℕ) = filter (λ e. nat_lt e.0 version) xs in
    let later : List (ℕ × List ℕ) = filter (λ e. nat_lt version e.0) xs in
    let all : length (among version text xs) ≡ length earlier + length ((version, text) ∷ later) =
    length-append earlier ((version, text) ∷ later) in
    let more : length ((version, text) ∷ later) ≡ length later + 1 = omega arith in
    let few = others_count version xs in
    let one = length-filter (λ e. nat_lt e.0 version) xs in
    let two = length-filter (λ e. nat_lt version e.0) xs in
    omega arith

rising_before : (y : ℕ) (ys : List ℕ) → IsStrictlyIncreasing ys → All (λ z. y < z) ys →
    IsStrictlyIncreasing (y ∷ ys)
rising_before y ys rise above zero lt = above 0 0 (omega arith)
rising_before y ys rise above (suc k) lt =
    simp unary_clauses (simp unary_clauses at rise k (omega arith))

rising_around : (xs ys : List ℕ) (y : ℕ) → IsStrictlyIncreasing xs → All (λ x. x < y) xs →
    IsStrictlyIncreasing (y ∷ ys) → IsStrictlyIncreasing (xs ++ y ∷ ys)
rising_around xs ys y rise below behind k lt =
    let long = length-append xs (y ∷ ys) in
    ⊎_elim
    (λ inner. rw (get_or_append_left xs (y ∷ ys) 0 k (omega arith)) (⊎_elim
    (λ next. rw (get_or_append_left xs (y ∷ ys) 0 (k + 1) next) (rise k next))
    (λ last. rw (get_or_at xs y ys 0 (k + 1) (omega arith)) (below k 0 inner))
    (cases_lt (k + 1) (length xs))))
    (λ outer.
    let at : (k + 1) - length xs ≡ (k - length xs) + 1 = omega arith in
    let next : length xs ≤ k + 1 = omega arith in
    let within : (k - length xs) + 1 < length (y ∷ ys) = omega arith in
    rw (
      get_or-append_right xs (y ∷ ys) (length xs) k 0 refl outer,
      get_or-append_right xs (y ∷
          ys) (length xs) (k + 1) 0 refl next,
      at,
    )
    (behind (k - length xs) within))
    (cases_lt k (length xs))

among_rises : (version : ℕ) (text : List ℕ) (xs : List (ℕ × List ℕ)) →
    IsStrictlyIncreasing (map (λ e. e.0) xs) →
    IsStrictlyIncreasing (map (λ e. e.0) (among version text xs))
among_rises version text xs rise =
    let versions = map (λ (e : ℕ × List ℕ). e.0) xs in
    let earlier : ℕ → Bool = λ v. nat_lt v version in
    let later : ℕ → Bool = λ v. nat_lt version v in
    rw (
      map-append (λ (e : ℕ × List ℕ). e.0) (filter (λ e. earlier e.0) xs) ((version, text) ∷
          filter (λ e. later e.0) xs),
      versions_filter earlier xs,
      versions_filter later xs,
    )
    (rising_around (filter earlier versions) (filter later versions) version
    (IsStrictlyIncreasing-filter earlier versions rise)
    (All-weaker (λ v. earlier v ≡ true) (λ v. v < version) (λ v is. ltb-true v version is) _
    (filter_passes earlier versions))
    (rising_before version (filter later versions) (IsStrictlyIncreasing-filter later versions rise)
    (All-weaker (λ v. later v ≡ true) (λ v. version < v) (λ v is. ltb-true version v is) _
    (filter_passes later versions))))

among_versioned : (version : ℕ) (text : List ℕ) (xs : List (ℕ × List ℕ)) →
    version ≤ greatest_long → All IsVersioned xs → All IsVersioned (among version text xs)
among_versioned version text xs fits all =
    All-append IsVersioned (filter (λ e. nat_lt e.0 version) xs) ((version, text) ∷
    filter (λ e. nat_lt version e.0) xs)
    (All-filter (λ e. nat_lt e.0 version) IsVersioned xs all)
    (All-cons IsVersioned (version, text) (filter (λ e. nat_lt version e.0) xs) (omega arith)
    (All-filter (λ e. nat_lt version e.0) IsVersioned xs all))

pub among_valid : (ring : RingRecord) (text : List ℕ) → IsValid ring →
    length ring.published < most_versions →
    IsValid (record ring { published = among ring.version text ring.published })
among_valid ring text valid room = record {
  power = valid.power;
  replicas = valid.replicas;
  min_hours = valid.min_hours;
  next_id = valid.next_id;
  version = valid.version;
  devices = valid.devices;
  seats = valid.seats;
  moved = valid.moved;
  hours = valid.hours;
  published = record {
    count = (let few = among_count ring.version text ring.published in omega arith);
    rise = among_rises ring.version text ring.published valid.published.rise;
    versions = among_versioned ring.version text ring.published valid.version
        valid.published.versions;
  };
}
