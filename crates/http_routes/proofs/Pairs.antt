-- Pairs of a query, one after another.
use Rattle.std.proofs.Common.{◌≡◌, ◌≢◌, ◌<◌, ◌≤◌, ◌+◌, ℕ, Bool, true, false, cond, List, [], ◌∷◌}
use Rattle.std.proofs.Common.{◌++◌, length, map, take, get_or, refl, sym, ap, subst, ◌∙◌}
use Rattle.std.proofs.Common.{append_assoc, append-nil, arith, length-append}
use Rattle.std.proofs.lemmas.List.{take_more, map-append}
use Rattle.std.proofs.lemmas.List.Elements.{filter_map-append}
use Rattle.std.specs.Str.{bytes_eq}
use Rattle.http_routes.specs.declared.query.Pair.{Pair}
use Rattle.http_routes.specs.declared.query.ValueFound.{ValueFound}
use Rattle.http_routes.specs.declared.query.ValueFound.TheVariants.{Missing, One, Several}
use Rattle.http_routes.specs.Inner.Pairs.{IsValueFound, decoded, pair_text}
use Rattle.http_routes.specs.Queries.{values_of_pairs}

-- one pair more is read
pub read_more : (pairs : List Pair) (pair : Pair) (before after all : List (List ℕ × List ℕ))
    (now : List ℕ × List ℕ)
    → map pair_text pairs ++ map decoded before ≡ all → before ≡ now ∷ after →
    pair_text pair ≡ decoded now
    → map pair_text (pairs ++ pair ∷ []) ++ map decoded after ≡ all
read_more pairs pair before after all now so_far is read =
    ap (λ (t : List (List ℕ × List ℕ)). t ++ map decoded after) (map-append pair_text pairs (pair ∷
    []))
    ∙ append_assoc (map pair_text pairs) (pair_text pair ∷ []) (map decoded after)
    ∙ ap (λ (p : List ℕ × List ℕ). map pair_text pairs ++ p ∷ map decoded after) read
    ∙ ap (λ (t : List (List ℕ × List ℕ)). map pair_text pairs ++ map decoded t) (sym is) ∙ so_far

-- none is left
pub read_all : (pairs : List Pair) (left all : List (List ℕ × List ℕ)) → map pair_text pairs ++
    map decoded left ≡ all → left ≡ [] → map pair_text pairs ≡ all
read_all pairs left all so_far none = sym (append-nil (map pair_text pairs)) ∙ ap
    (λ (t : List (List ℕ × List ℕ)). map pair_text pairs ++ map decoded t) (sym none) ∙ so_far

-- the values of one pair
values_here : (name : List ℕ) (p : List ℕ × List ℕ) (b : Bool) → b ≡ bytes_eq p.0 name →
    values_of_pairs name (p ∷ []) ≡ cond b (p.1 ∷ []) []
values_here name p true e = rw (← e) refl
values_here name p false e = rw (← e) refl

pub values_more : (name : List ℕ) (pairs : List Pair) (i : ℕ) (d : Pair) (b : Bool) →
    i < length pairs → b ≡ bytes_eq (pair_text (get_or pairs i d)).0 name
    → values_of_pairs name (map pair_text (take (i + 1) pairs)) ≡ values_of_pairs name
    (map pair_text (take i pairs)) ++ cond b ((pair_text (get_or pairs i d)).1 ∷ []) []
values_more name pairs i d b lt e =
    ap (λ (xs : List Pair). values_of_pairs name (map pair_text xs)) (take_more pairs i d lt)
    ∙ ap (values_of_pairs name) (map-append pair_text (take i pairs) (get_or pairs i d ∷ []))
    ∙ filter_map-append _ (map pair_text (take i pairs)) (pair_text (get_or pairs i d) ∷ [])
    ∙ ap (λ (xs : List (List ℕ)). values_of_pairs name (map pair_text (take i pairs)) ++
    xs) (values_here name (pair_text (get_or pairs i d)) b e)

-- a pair of another name, the first of the name, and one more
pub found_same : (found : ValueFound) (vs ws : List (List ℕ)) → ws ≡ vs ++ [] →
    IsValueFound found vs → IsValueFound found ws
found_same found vs ws e h = subst (IsValueFound found) (sym (e ∙ append-nil vs)) h

pub found_first : (vs ws : List (List ℕ)) (v : List ℕ) → ws ≡ vs ++ v ∷ [] → vs ≡ [] → ws ≡ v ∷ []
found_first vs ws v e n = e ∙ ap (λ (xs : List (List ℕ)). xs ++ v ∷ []) n

pub found_again : (found : ValueFound) (vs ws : List (List ℕ)) (v : List ℕ) → ws ≡ vs ++ v ∷ [] →
    found ≢ Missing → IsValueFound found vs → 2 ≤ length ws
found_again Missing vs ws v e n h = absurd (n refl)
found_again (One x) vs ws v e n h = omega (
  arith,
  ap length e,
  length-append vs (v ∷ []),
  ap length h,
)
found_again Several vs ws v e n h = omega (arith, ap length e, length-append vs (v ∷ []), h)
