-- What a walk over rows finds is a row whose pattern the path follows.
use Rattle.std.proofs.Common.{◌≡◌, ◌≢◌, ◌⊎◌, inl, inr, ℕ, zero, suc, ◌+◌, ◌-◌, ◌<◌, ◌≤◌, List, []}
use Rattle.std.proofs.Common.{◌∷◌, ◌++◌}
use Rattle.std.proofs.Common.{length, drop, take, Option, Some, None, Bool, true, false, cond, refl}
use Rattle.std.proofs.Common.{sym, ap, ◌∙◌}
use Rattle.std.proofs.Common.{arith, ◌==◌, ltb, ◌&&◌, subst}
use Rattle.std.specs.Cmp.Lexicographic.{pointwise}
use Rattle.std.specs.Prelude.{nat_eq}
use Rattle.std.proofs.lemmas.Bool.{and_right}
use Rattle.std.proofs.lemmas.Bool.Decides.{nat_tests}
use Rattle.std.proofs.lemmas.List.{take-append-drop, take_all, length-take-le, length-append}
use Rattle.std.proofs.lemmas.List.{drop_at}
use Rattle.matchit.proofs.ParamLemmas.{length-segment, one_less}
use Rattle.matchit.specs.Level.{IsText}
use Rattle.matchit.specs.Rows.{RowsOf}
use Rattle.matchit.specs.Seek.{own, step, or_else, seek, param_step, has_slash, segment, better}
use Rattle.matchit.specs.Seek.{cuts}
use Rattle.matchit.specs.Seek.{longest_from, longest_suffix, with_suffix, same_text}

-- no byte is a slash
abbrev pub IsFree : List ℕ → Type 0
IsFree [] = Unit {0}
IsFree (byte ∷ rest) = (byte ≢ 47) × IsFree rest

-- a parameter takes these bytes
abbrev pub IsPiece : List ℕ → Type 0
IsPiece piece = (0 < length piece) × IsFree piece

-- the path follows the pattern
abbrev pub Follows : List ℕ → List ℕ → Type 0
Follows [] path = path ≡ []
Follows (x ∷ t) path = ((rest : List ℕ) × (path ≡ x ∷ rest) × Follows t rest)
    ⊎ (((x ≡ 256) × (piece : List ℕ) × (rest : List ℕ) × (path ≡ piece ++ rest) × IsPiece piece
    × Follows t rest)
    ⊎ (x ≡ 257))

-- the end of the segment is the only slash in it
pub free-before : (path : List ℕ) (n : ℕ) → n < length (segment path) → IsFree (take n path)
free-before path zero less = tt
free-before [] (suc n) less = omega arith
free-before (b ∷ path) (suc n) less = by (b == 47) refl (free-before path n) less
  where
    by : (v : Bool) → (b == 47) ≡ v → (n < length (segment path) → IsFree (take n path))
        → suc n < length (cond v (b ∷ []) (b ∷ segment path)) → IsFree (b ∷ take n path)
    by true e go l = absurd (omega (arith, l))
    by false e go l = ((λ is. grind (arith, nat_tests)), go (omega (arith, l)))

pub free-all : (path : List ℕ) → has_slash path ≡ false → IsFree path
free-all [] e = tt
free-all (b ∷ path) e = by (b == 47) refl (free-all path) e
  where
    by : (v : Bool) → (b == 47) ≡ v → (has_slash path ≡ false → IsFree path)
        → cond v true (has_slash path) ≡ false → IsFree (b ∷ path)
    by true q go e = cc
    by false q go e = ((λ is. grind (arith, nat_tests)), go e)

better-short : (seg best s : List ℕ) → (length best ≡ 0) ⊎ (length best < length seg)
    → (length (better seg best s) ≡ 0) ⊎ (length (better seg best s) < length seg)
better-short seg best s h = by (ltb (length best) (length s) && cuts seg s) refl
  where
    by : (v : Bool) → (ltb (length best) (length s) && cuts seg s) ≡ v
        → (length (better seg best s) ≡ 0) ⊎ (length (better seg best s) < length seg)
    by true q =
        let l : length s < length seg = grind (arith, nat_tests) in
        rw q (inr l)
    by false q = rw q h

other-number : (a b : ℕ) → a ≢ b → (a == b) ≡ false
other-number a b e = grind (arith, nat_tests)

same-number : (a b : ℕ) → (a == b) ≡ true → a ≡ b
same-number a b e = grind (arith, nat_tests)

drop-one : (n b : ℕ) (path : List ℕ) → 0 < n → drop (n - 1) path ≡ drop n (b ∷ path)
drop-one zero b path less = absurd (omega (arith, less))
drop-one (suc n) b path less = ap (λ (k : ℕ). drop k path) (one_less n)

pub free-segment : (piece rest : List ℕ) → IsFree piece → segment (piece ++ 47 ∷ rest)
    ≡ piece ++ 47 ∷ []
free-segment [] rest free = refl
free-segment (b ∷ piece) rest free =
    let e : (b == 47) ≡ false = other-number b 47 free.0 in
    rw e (ap (λ (t : List ℕ). b ∷ t) (free-segment piece rest free.1))

free-has : (piece : List ℕ) → IsFree piece → has_slash piece ≡ false
free-has [] free = refl
free-has (b ∷ piece) free =
    let e : (b == 47) ≡ false = other-number b 47 free.0 in
    rw e (free-has piece free.1)

free-whole : (piece : List ℕ) → IsFree piece → segment piece ≡ piece
free-whole [] free = refl
free-whole (b ∷ piece) free =
    let e : (b == 47) ≡ false = other-number b 47 free.0 in
    rw e (ap (λ (t : List ℕ). b ∷ t) (free-whole piece free.1))

slash-cut : (piece : List ℕ) → 0 < length piece → cuts (piece ++ 47 ∷ []) (47 ∷ []) ≡ true
slash-cut piece some =
    let long : length (piece ++ 47 ∷ []) ≡ length piece + 1 = length-append piece (47 ∷ []) in
    let more : ltb 1 (length piece + 1) ≡ true = grind (arith, nat_tests) in
    let less : length piece + 1 - 1 ≡ length piece = omega arith in
    let cut : drop (length piece) (piece ++ 47 ∷ [])
    ≡ 47 ∷ [] = drop_at piece (47 ∷ []) (length piece) refl in
    rw (long, more, less, cut) refl

-- the last byte of a segment without a slash is none
last-other : (b : ℕ) (piece : List ℕ) → IsFree (b ∷ piece)
    → pointwise nat_eq (47 ∷ []) (drop (length (b ∷ piece) - 1) (b ∷ piece)) ≡ false
last-other b [] free =
    let e : (47 == b) ≡ false = other-number 47 b (λ same. free.0 (sym same)) in
    rw e refl
last-other b (c ∷ piece) free =
    let on : length (b ∷ c ∷ piece) - 1 ≡ suc (length (c ∷ piece) - 1) = omega arith in
    ap (λ (n : ℕ). pointwise nat_eq (47 ∷ []) (drop n (b ∷ c ∷ piece))) on
    ∙ last-other c piece free.1

free-uncut : (piece : List ℕ) → IsFree piece → cuts piece (47 ∷ []) ≡ false
free-uncut [] free = refl
free-uncut (b ∷ piece) free = and_right _ _ (last-other b piece free)

no-segment : ◌≡◌ {A = List ℕ} [] (47 ∷ []) → ⊥
no-segment e = cc

module _ {K : Type 0} where
  -- a row with this key has a pattern that the path follows
  abbrev pub IsFound : K → RowsOf K → List ℕ → Type 0
  IsFound key [] path = ⊥
  IsFound key ((t, k) ∷ rest) path = ((k ≡ key) × Follows t path) ⊎ IsFound key rest path

  some-is : (a b : K) → Some a ≡ Some b → a ≡ b
  some-is a b e = cc

  pub own-found : (rs : RowsOf K) (key : K) → own rs ≡ Some key → IsFound key rs []
  own-found [] key e = cc
  own-found (([], k) ∷ rest) key e = inl (some-is k key e, refl)
  own-found ((x ∷ t, k) ∷ rest) key e = inr (own-found rest key e)

  pub step-found : (b : ℕ) (rs : RowsOf K) (key : K) (path : List ℕ) → IsFound key (step b rs) path
      → IsFound key rs (b ∷ path)
  step-found b [] key path f = f
  step-found b (([], k) ∷ rest) key path f = inr (step-found b rest key path f)
  step-found b ((x ∷ t, k) ∷ rest) key path f = by (x == b) refl (step-found b rest key path) f
    where
      by : (v : Bool) → (x == b) ≡ v → (IsFound key (step b rest) path
          → IsFound key rest (b ∷ path))
          → IsFound key (cond v ((t, k) ∷ step b rest) (step b rest)) path
          → IsFound key ((x ∷ t, k) ∷ rest) (b ∷ path)
      by true e go (inl h) = inl (
        h.0,
        inl (path, ap (λ (c : ℕ). c ∷ path) (sym (same-number x b e)), h.1),
      )
      by true e go (inr h) = inr (go h)
      by false e go h = inr (go h)

  pub piece-found : (rs : RowsOf K) (key : K) (piece rest : List ℕ) → IsPiece piece
      → IsFound key (step 256 rs) rest
      → IsFound key rs (piece ++ rest)
  piece-found [] key piece rest is f = f
  piece-found (([], k) ∷ more) key piece rest is f = inr (piece-found more key piece rest is f)
  piece-found ((x ∷ t, k) ∷ more) key piece rest is f = by (x == 256) refl
      (piece-found more key piece rest is) f
    where
      by : (v : Bool) → (x == 256) ≡ v
          → (IsFound key (step 256 more) rest → IsFound key more (piece ++ rest))
          → IsFound key (cond v ((t, k) ∷ step 256 more) (step 256 more)) rest
          → IsFound key ((x ∷ t, k) ∷ more) (piece ++ rest)
      by true e go (inl h) = inl (h.0, inr (inl (same-number x 256 e, piece, rest, refl, is, h.1)))
      by true e go (inr h) = inr (go h)
      by false e go h = inr (go h)

  pub all-found : (rs : RowsOf K) (key : K) (path : List ℕ) → own (step 257 rs) ≡ Some key
      → IsFound key rs path
  all-found [] key path e = cc
  all-found (([], k) ∷ rest) key path e = inr (all-found rest key path e)
  all-found ((x ∷ t, k) ∷ rest) key path e = by (x == 257) refl t (all-found rest key path) e
    where
      by : (v : Bool) → (x == 257) ≡ v → (u : List ℕ)
          → (own (step 257 rest) ≡ Some key → IsFound key rest path)
          → own (cond v ((u, k) ∷ step 257 rest) (step 257 rest)) ≡ Some key
          → IsFound key ((x ∷ t, k) ∷ rest) path
      by true q [] go e = inl (some-is k key e, inr (inr (same-number x 257 q)))
      by true q (y ∷ u) go e = inr (go e)
      by false q u go e = inr (go e)

  pub suffix-found : (s : List ℕ) (rs : RowsOf K) (key : K) (path : List ℕ)
      → IsFound key (with_suffix s rs) path → IsFound key rs path
  suffix-found s [] key path f = f
  suffix-found s ((t, k) ∷ rest) key path f = by (same_text (segment t) s)
      (suffix-found s rest key path) f
    where
      by : (v : Bool) → (IsFound key (with_suffix s rest) path → IsFound key rest path)
          → IsFound key (cond v ((t, k) ∷ with_suffix s rest) (with_suffix s rest)) path
          → IsFound key ((t, k) ∷ rest) path
      by true go (inl h) = inl h
      by true go (inr h) = inr (go h)
      by false go h = inr (go h)

  longest-short : (seg best : List ℕ) (r : RowsOf K) → (length best ≡ 0)
      ⊎ (length best < length seg)
      → (length (longest_from seg best r) ≡ 0) ⊎ (length (longest_from seg best r) < length seg)
  longest-short seg best [] h = h
  longest-short seg best ((t, k) ∷ r) h = longest-short seg (better seg best (segment t)) r
      (better-short seg best (segment t) h)

  pub seek-none : (n : ℕ) (path : List ℕ) → seek {K = K} n [] path ≡ None
  unfolding seek param_step
  seek-none n [] = refl
  seek-none (suc n) (b ∷ path) = seek-none n path
  seek-none zero (b ∷ path) = by (has_slash (b ∷ path)) (seek-none 0 path)
      (seek-none (length (b ∷ path) - 1) path)
    where
      by : (v : Bool) → seek {K = K} 0 [] path ≡ None → seek {K = K} (length (b ∷ path) - 1) [] path
          ≡ None
          → or_else (seek {K = K} 0 [] path)
          (or_else (seek {K = K} ((cond {A = ℕ × RowsOf K} v (0, []) (length (b ∷ path), [])).0 - 1)
          (cond {A = ℕ × RowsOf K} v (0, []) (length (b ∷ path), [])).1 path) None) ≡ None
      by true none all = simp none
      by false none all = rw none (rw all refl)

  -- what a parameter takes of a path, and which rows go on behind it
  pub record IsTaken (rs : RowsOf K) (path : List ℕ) (taken : ℕ × RowsOf K) : Type 0 where
    pub some : 0 < taken.0
    pub within : taken.0 ≤ length path
    pub free : IsFree (take taken.0 path)
    pub kept : (key : K) (rest : List ℕ) → IsFound key taken.1 rest → IsFound key rs rest

  taken-suffix : (rs : RowsOf K) (path s : List ℕ) → (length s ≡ 0)
      ⊎ (length s < length (segment path)) → 0 < length s
      → IsTaken rs path (length (segment path) - length s, with_suffix s rs)
  taken-suffix rs path s (inl none) more = absurd (omega (arith, none, more))
  taken-suffix rs path s (inr less) more = record {
    some = omega (arith, less);
    within = omega (arith, length-segment path);
    free = free-before path (length (segment path) - length s) (omega (arith, less, more));
    kept = suffix-found s rs;
  }

  taken-rest : (rs : RowsOf K) (b : ℕ) (path : List ℕ) → has_slash (b ∷ path) ≡ false
      → IsTaken rs (b ∷ path) (length (b ∷ path), rs)
  taken-rest rs b path none = record {
    some = omega arith;
    within = omega arith;
    free = subst IsFree (sym (take_all (length (b ∷ path)) (b ∷ path) (omega arith)))
        (free-all (b ∷ path) none);
    kept = λ key rest f. f;
  }

  pub takes : (rs : RowsOf K) (b : ℕ) (path : List ℕ) → ((param_step rs (b ∷ path)).1 ≡ [])
      ⊎ IsTaken rs (b ∷ path) (param_step rs (b ∷ path))
  unfolding param_step
  takes rs b path = by (ltb 0 (length (longest_suffix (segment (b ∷ path)) rs))) refl
      (has_slash (b ∷ path)) refl
    where
      by : (u : Bool) → ltb 0 (length (longest_suffix (segment (b ∷ path)) rs)) ≡ u → (v : Bool)
          → has_slash (b ∷ path) ≡ v
          → ((param_step rs (b ∷ path)).1 ≡ []) ⊎ IsTaken rs (b ∷ path) (param_step rs (b ∷ path))
      by true e v q =
          let more : 0 < length (longest_suffix (segment (b ∷ path)) rs) = grind (arith, nat_tests)
          in
          rw e (inr (taken-suffix rs (b ∷ path) (longest_suffix (segment (b ∷ path)) rs)
          (longest-short (segment (b ∷ path)) [] rs (inl refl)) more))
      by false e true q = rw (e, q) (inl refl)
      by false e false q = rw (e, q) (inr (taken-rest rs b path q))

  taken-found : (rs : RowsOf K) (key : K) (b : ℕ) (path : List ℕ) (taken : ℕ × RowsOf K)
      → (taken.1 ≡ []) ⊎ IsTaken (step 256 rs) (b ∷ path) taken
      → seek (taken.0 - 1) taken.1 path ≡ Some key
      → IsFound key taken.1 (drop (taken.0 - 1) path) → IsFound key rs (b ∷ path)
  taken-found rs key b path taken (inl none) e f =
      absurd (subst (λ (r : RowsOf K). IsFound key r (drop (taken.0 - 1) path)) none f)
  taken-found rs key b path taken (inr is) e f =
      subst (IsFound key rs) (take-append-drop taken.0 (b ∷ path))
      (piece-found rs key (take taken.0 (b ∷ path)) (drop taken.0 (b ∷ path)) (some-taken, is.free)
      (is.kept key (drop taken.0 (b ∷ path))
      (subst (IsFound key taken.1) (drop-one taken.0 b path is.some) f)))
    where
      some-taken : 0 < length (take taken.0 (b ∷ path))
      some-taken = omega (arith, length-take-le taken.0 (b ∷ path) is.within, is.some)

  -- what a walk finds is a row whose pattern the path follows
  pub seek-found : (n : ℕ) (rs : RowsOf K) (path : List ℕ) (key : K) → seek n rs path ≡ Some key
      → IsFound key rs (drop n path)
  unfolding seek
  seek-found zero rs [] key e = own-found rs key e
  seek-found (suc n) rs [] key e = own-found rs key e
  seek-found (suc n) rs (b ∷ path) key e = seek-found n rs path key e
  seek-found zero rs (b ∷ path) key e =
      by (seek 0 (step b rs) path) refl
      (seek ((param_step (step 256 rs) (b ∷ path)).0 - 1) (param_step (step 256 rs) (b ∷ path)).1
      path) refl
      (seek-found 0 (step b rs) path key)
      (seek-found ((param_step (step 256 rs) (b ∷ path)).0 - 1)
      (param_step (step 256 rs) (b ∷ path)).1 path key) e
    where
      by : (u : Option K) → seek 0 (step b rs) path ≡ u
          → (v : Option K) → seek ((param_step (step 256 rs) (b ∷ path)).0 - 1)
          (param_step (step 256 rs) (b ∷ path)).1 path ≡ v
          → (seek 0 (step b rs) path ≡ Some key → IsFound key (step b rs) path)
          → (seek ((param_step (step 256 rs) (b ∷ path)).0 - 1)
          (param_step (step 256 rs) (b ∷ path)).1 path ≡ Some key
          → IsFound key (param_step (step 256 rs) (b ∷ path)).1
          (drop ((param_step (step 256 rs) (b ∷ path)).0 - 1) path))
          → or_else u (or_else v (own (step 257 rs))) ≡ Some key → IsFound key rs (b ∷ path)
      by (Some k) p v q go on e = step-found b rs key path (go (p ∙ e))
      by None p (Some k) q go on e = taken-found rs key b path (param_step (step 256 rs) (b ∷ path))
          (takes (step 256 rs) b path) (q ∙ e) (on (q ∙ e))
      by None p None q go on e = all-found rs key (b ∷ path) e

  -- a row with this key, whose pattern goes on with the tokens that a parameter stands before
  abbrev pub behind : RowsOf K → RowsOf K
  behind [] = []
  behind ((t, k) ∷ rest) = (256 ∷ t, k) ∷ behind rest

  step-behind : (rs : RowsOf K) → step 256 (behind rs) ≡ rs
  step-behind [] = refl
  step-behind ((t, k) ∷ rest) = ap (λ (r : RowsOf K). (t, k) ∷ r) (step-behind rest)

  no-step : (b : ℕ) (rs : RowsOf K) → b ≢ 256 → step b (behind rs) ≡ []
  no-step b [] other = refl
  no-step b ((t, k) ∷ rest) other =
      let e : (256 == b) ≡ false = grind (arith, nat_tests) in
      rw e (no-step b rest other)

  abbrev pub steps : List ℕ → RowsOf K → RowsOf K
  steps [] rs = rs
  steps (b ∷ w) rs = steps w (step b rs)

  -- a byte goes first
  pub byte-first : (b : ℕ) (rs : RowsOf K) (path : List ℕ) (key : K) → seek 0 (step b rs) path
      ≡ Some key
      → seek 0 rs (b ∷ path) ≡ Some key
  unfolding seek
  byte-first b rs path key e = rw e refl

  pub bytes-first : (w : List ℕ) (rs : RowsOf K) (path : List ℕ) (key : K)
      → seek 0 (steps w rs) path ≡ Some key
      → seek 0 rs (w ++ path) ≡ Some key
  bytes-first [] rs path key e = e
  bytes-first (b ∷ w) rs path key e = byte-first b rs (w ++ path) key
      (bytes-first w (step b rs) path key e)

  pub seek-past : (piece rest : List ℕ) (rs : RowsOf K) → seek (length piece) rs (piece ++ rest)
      ≡ seek 0 rs rest
  unfolding seek
  seek-past [] rest rs = refl
  seek-past (b ∷ piece) rest rs = seek-past piece rest rs

  -- a parameter that takes these bytes comes to what the rows find that go on behind it
  pub piece-first : (rs kept : RowsOf K) (b : ℕ) (piece rest : List ℕ) (key : K) → b ≢ 256
      → param_step rs (b ∷ (piece ++ rest)) ≡ (length (b ∷ piece), kept)
      → seek 0 kept rest ≡ Some key → seek 0 (behind rs) (b ∷ (piece ++ rest)) ≡ Some key
  unfolding seek
  piece-first rs kept b piece rest key other takes e =
      rw (
        no-step b rs other,
        step-behind rs,
        seek-none 0 (piece ++ rest),
        takes,
        one_less (length piece),
        seek-past piece rest kept,
        e,
      ) refl

  -- each row goes on with a slash
  abbrev pub HasSlashes : RowsOf K → Type 0
  HasSlashes [] = Unit {0}
  HasSlashes ((t, k) ∷ rest) = (segment t ≡ 47 ∷ []) × HasSlashes rest

  -- rows, and behind them one that ends
  abbrev pub ending : RowsOf K → K → RowsOf K
  ending rs k = rs ++ ([], k) ∷ []

  keep-slashes : (rs : RowsOf K) (end : K) → HasSlashes rs
      → with_suffix (47 ∷ []) (ending rs end) ≡ rs
  keep-slashes [] end h = refl
  keep-slashes ((t, k) ∷ rest) end h = rw h.0
      (ap (λ (r : RowsOf K). (t, k) ∷ r) (keep-slashes rest end h.1))

  -- a row that goes on with a slash adds nothing to a slash, and a slash to nothing
  slash-on : (seg t : List ℕ) (k : K) (more : RowsOf K) → segment t ≡ 47 ∷ []
      → longest_from seg (47 ∷ []) ((t, k) ∷ more) ≡ longest_from seg (47 ∷ []) more
  slash-on seg t k more h = rw h refl

  slash-in : (seg t : List ℕ) (k : K) (more : RowsOf K) → segment t ≡ 47 ∷ []
      → cuts seg (47 ∷ []) ≡ true
      → longest_from seg [] ((t, k) ∷ more) ≡ longest_from seg (47 ∷ []) more
  slash-in seg t k more h cut = rw (h, cut) refl

  slash-out : (seg t : List ℕ) (k : K) (more : RowsOf K) → segment t ≡ 47 ∷ []
      → cuts seg (47 ∷ []) ≡ false
      → longest_from seg [] ((t, k) ∷ more) ≡ longest_from seg [] more
  slash-out seg t k more h uncut = rw (h, uncut) refl

  longest-slash : (seg : List ℕ) (rs : RowsOf K) (end : K) → HasSlashes rs
      → longest_from seg (47 ∷ []) (ending rs end) ≡ 47 ∷ []
  longest-slash seg [] end h = refl
  longest-slash seg ((t, k) ∷ rest) end h =
      slash-on seg t k (ending rest end) h.0 ∙ longest-slash seg rest end h.1

  longest-whole : (t : List ℕ) (k : K) (more : RowsOf K) (end : K) (piece : List ℕ)
      → 0 < length piece → HasSlashes ((t, k) ∷ more)
      → longest_suffix (piece ++ 47 ∷ []) (ending ((t, k) ∷ more) end) ≡ 47 ∷ []
  longest-whole t k more end piece some slashes =
      slash-in (piece ++ 47 ∷ []) t k (ending more end) slashes.0 (slash-cut piece some)
      ∙ longest-slash (piece ++ 47 ∷ []) more end slashes.1

  suffix-step : (rs : RowsOf K) (path s : List ℕ) → longest_suffix (segment path) rs ≡ s
      → 0 < length s
      → param_step rs path ≡ (length (segment path) - length s, with_suffix s rs)
  unfolding param_step
  suffix-step rs path s is some =
      let more : ltb 0 (length s) ≡ true = grind (arith, nat_tests) in
      rw (is, more) refl

  -- where rows go on with a slash, and one ends, a parameter takes all of its segment, and the rows
  -- with the slash go on
  slash-step : (t : List ℕ) (k : K) (more : RowsOf K) (end : K) (piece rest : List ℕ)
      → IsPiece piece → HasSlashes ((t, k) ∷ more)
      → param_step (ending ((t, k) ∷ more) end) (piece ++ 47 ∷ rest)
      ≡ (length piece, (t, k) ∷ more)
  slash-step t k more end piece rest is slashes =
      let whole : longest_suffix (segment (piece ++ 47 ∷ rest)) (ending ((t, k) ∷ more) end)
      ≡ 47 ∷ [] =
      ap (λ (seg : List ℕ). longest_suffix seg (ending ((t, k) ∷ more) end))
      (free-segment piece rest is.1)
      ∙ longest-whole t k more end piece is.0 slashes in
      let long : length (segment (piece ++ 47 ∷ rest)) ≡ length piece + 1 =
      ap (λ (seg : List ℕ). length seg) (free-segment piece rest is.1)
      ∙ length-append piece (47 ∷ []) in
      let less : length (segment (piece ++ 47 ∷ rest)) - 1 ≡ length piece = omega (arith, long) in
      suffix-step (ending ((t, k) ∷ more) end) (piece ++ 47 ∷ rest) (47 ∷ []) whole (omega arith)
      ∙ pair _ _ less (keep-slashes ((t, k) ∷ more) end slashes)
    where
      pair : (x y : ℕ × RowsOf K) → x.0 ≡ y.0 → x.1 ≡ y.1 → x ≡ y
      pair x y e f = λ i. (e i, f i)

  pub between-first : (t : List ℕ) (k : K) (more : RowsOf K) (end : K) (piece rest : List ℕ)
      (key : K) → IsPiece piece → IsText piece → HasSlashes ((t, k) ∷ more)
      → seek 0 ((t, k) ∷ more) (47 ∷ rest) ≡ Some key
      → seek 0 (behind (ending ((t, k) ∷ more) end)) (piece ++ 47 ∷ rest) ≡ Some key
  between-first t k more end [] rest key is bytes slashes e = absurd (omega (arith, is.0))
  between-first t k more end (b ∷ piece) rest key is bytes slashes e =
      piece-first (ending ((t, k) ∷ more) end) ((t, k) ∷ more) b piece (47 ∷ rest) key
      (λ e. omega (arith, bytes.0, e)) (slash-step t k more end (b ∷ piece) rest is slashes) e

  -- where no byte is a slash, the row that ends is found
  longest-none : (seg : List ℕ) (rs : RowsOf K) (end : K) → cuts seg (47 ∷ []) ≡ false
      → HasSlashes rs → longest_from seg [] (ending rs end) ≡ []
  longest-none seg [] end uncut h = refl
  longest-none seg ((t, k) ∷ rest) end uncut h =
      slash-out seg t k (ending rest end) h.0 uncut ∙ longest-none seg rest end uncut h.1

  whole-step : (rs : RowsOf K) (end : K) (piece : List ℕ) → IsFree piece → HasSlashes rs
      → param_step (ending rs end) piece ≡ (length piece, ending rs end)
  unfolding param_step
  whole-step rs end piece free slashes =
      let none : longest_suffix (segment piece) (ending rs end) ≡ [] =
      ap (λ (seg : List ℕ). longest_suffix seg (ending rs end)) (free-whole piece free)
      ∙ longest-none piece rs end (free-uncut piece free) slashes in
      rw (none, free-has piece free) refl

  own-end : (rs : RowsOf K) (end : K) → HasSlashes rs → own (ending rs end) ≡ Some end
  own-end [] end h = refl
  own-end (([], k) ∷ rest) end h = absurd (no-segment h.0)
  own-end ((x ∷ t, k) ∷ rest) end h = own-end rest end h.1

  seek-own : (rs : RowsOf K) (key : K) (piece : List ℕ) → own rs ≡ Some key
      → seek (length piece) rs piece ≡ Some key
  unfolding seek
  seek-own rs key [] e = e
  seek-own rs key (b ∷ piece) e = seek-own rs key piece e

  pub end-first : (rs : RowsOf K) (end : K) (piece : List ℕ) → IsPiece piece → IsText piece
      → HasSlashes rs → seek 0 (behind (ending rs end)) piece ≡ Some end
  unfolding seek
  end-first rs end [] is bytes slashes = absurd (omega (arith, is.0))
  end-first rs end (b ∷ piece) is bytes slashes =
      rw (
        no-step b (ending rs end) (λ e. omega (arith, bytes.0, e)),
        step-behind (ending rs end),
        seek-none 0 piece,
        whole-step rs end (b ∷ piece) is.1 slashes,
        one_less (length piece),
        seek-own (ending rs end) end piece (own-end rs end slashes),
      ) refl

  last-step : (k : K) (piece : List ℕ) → IsFree piece
      → param_step (([], k) ∷ []) piece ≡ (length piece, ([], k) ∷ [])
  unfolding param_step
  last-step k piece free = rw (free-has piece free) refl

  seek-end : (k : K) (piece : List ℕ) → seek (length piece) (([], k) ∷ []) piece ≡ Some k
  unfolding seek
  seek-end k [] = refl
  seek-end k (b ∷ piece) = seek-end k piece

  pub last-first : (k : K) (piece : List ℕ) → IsPiece piece → IsText piece
      → seek 0 ((256 ∷ [], k) ∷ []) piece ≡ Some k
  unfolding seek
  last-first k [] is bytes = absurd (omega (arith, is.0))
  last-first k (b ∷ piece) is bytes =
      let other : (256 == b) ≡ false = other-number 256 b (λ e. omega (arith, bytes.0, e)) in
      rw (
        other,
        seek-none 0 piece,
        last-step k (b ∷ piece) is.1,
        one_less (length piece),
        seek-end k piece,
      ) refl
