-- One more field.
use Rattle.std.proofs.Common.{◌≡◌, ℕ, ◌+◌, ◌<◌, ◌≢◌, Bool, true, false, cond, List, [], ◌∷◌, ◌++◌}
use Rattle.std.proofs.Common.{length, take, map, get_or, refl, sym, ap, subst, ◌∙◌, arith}
use Rattle.std.proofs.Common.{append-nil, length-append}
use Rattle.std.proofs.lemmas.List.{take_more, map-append}
use Rattle.std.proofs.lemmas.List.Elements.{filter_map-append}
use Rattle.std.proofs.lemmas.List.Folds.{list_any_at}
use Rattle.std.specs.List.{list_any}
use Rattle.std.specs.Str.{str_eq_ignore_ascii_case}
use Rattle.httparse.specs.declared.spans.HeaderSpan.{HeaderSpan}
use Rattle.httparse.specs.Spans.{IsWithin, span_bytes, header_bytes}
use Rattle.http_messages.specs.declared.fields.FieldFound.{FieldFound}
use Rattle.http_messages.specs.declared.fields.FieldFound.TheVariants.{Missing, One, Several}
use Rattle.http_messages.specs.Fields.{values_named, is_close}
use Rattle.http_messages.specs.Inner.Finding.{IsFieldFound}

-- the values of one field
pub values_here : (name : List ℕ) (f : List ℕ × List ℕ) (b : Bool) →
    b ≡ str_eq_ignore_ascii_case f.0 name
    → values_named name (f ∷ []) ≡ cond b (f.1 ∷ []) []
values_here name f true e = rw (← e) refl
values_here name f false e = rw (← e) refl

pub values_more : (buf name : List ℕ) (hs : List HeaderSpan) (i : ℕ) (d : HeaderSpan) (b : Bool) →
    i < length hs
    → b ≡ str_eq_ignore_ascii_case (header_bytes buf (get_or hs i d)).0 name
    → values_named name (map (header_bytes buf) (take (i + 1) hs))
    ≡ values_named name (map (header_bytes buf) (take i hs)) ++
    cond b (span_bytes buf (get_or hs i d).value ∷ []) []
values_more buf name hs i d b lt e =
    ap (λ (xs : List HeaderSpan). values_named name (map (header_bytes buf) xs))
    (take_more hs i d lt)
    ∙ ap (values_named name) (map-append (header_bytes buf) (take i hs) (get_or hs i d ∷ []))
    ∙ filter_map-append _ (map (header_bytes buf) (take i hs)) (header_bytes buf (get_or hs i d) ∷
    [])
    ∙ ap (λ (xs : List (List ℕ)). values_named name (map (header_bytes buf) (take i hs)) ++
    xs) (values_here name (header_bytes buf (get_or hs i d)) b e)

-- a field of another name
pub found_same : (buf : List ℕ) (found : FieldFound) (vs ws : List (List ℕ)) → ws ≡ vs ++ [] →
    IsFieldFound buf found vs → IsFieldFound buf found ws
found_same buf found vs ws e h = subst (IsFieldFound buf found) (sym (e ∙ append-nil vs)) h

-- one more field of the name
pub found_first : (buf : List ℕ) (span : _) (vs ws : List (List ℕ)) → ws ≡ vs ++
    span_bytes buf span ∷ [] → vs ≡ [] → IsWithin (length buf) span
    → IsFieldFound buf (One span) ws
found_first buf span vs ws e n w = (
  w,
  e ∙ ap (λ (xs : List (List ℕ)). xs ++ span_bytes buf span ∷
      []) n,
)

pub found_again : (buf : List ℕ) (found : FieldFound) (vs ws : List (List ℕ)) (v : List ℕ) →
    ws ≡ vs ++ v ∷ [] → found ≢ Missing → IsFieldFound buf found vs
    → IsFieldFound buf Several ws
found_again buf Missing vs ws v e n h = absurd (n refl)
found_again buf (One span) vs ws v e n h = omega (
  arith,
  ap length e,
  length-append vs (v ∷ []),
  ap length h.1,
)
found_again buf Several vs ws v e n h = omega (arith, ap length e, length-append vs (v ∷ []), h)

pub any_map : {X Y : Type 0} (p : Y → Bool) (g : X → Y) (xs : List X) →
    list_any p (map g xs) ≡ list_any (λ x. p (g x)) xs
any_map p g [] = refl
any_map p g (x ∷ xs) = rw (any_map p g xs) refl

pub any_at : (buf : List ℕ) (hs : List HeaderSpan) (i : ℕ) (d : HeaderSpan) → i < length hs →
    is_close (header_bytes buf (get_or hs i d)) ≡ true
    → list_any is_close (map (header_bytes buf) hs) ≡ true
any_at buf hs i d lt e = any_map is_close (header_bytes buf) hs ∙ list_any_at
    (λ h. is_close (header_bytes buf h)) hs i d lt e
