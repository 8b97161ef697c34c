-- Copies of a ring's parts, and what is seen of them.
use Rattle.std.proofs.Common.{◌≡◌, ℕ, List, [], ◌∷◌, map, refl, ap, ap₂}
use Rattle.std.specs.List.{AllZip}
use Rattle.std.specs.Rc.{rc_str_bytes}
use Rattle.std.specs.declared.rc.RcStr.{RcStr}
use Rattle.std.specs.declared.alloc.Global.{Global}
use Rattle.ring_model.specs.Parts.{texts_of}

-- texts that are clones are seen as the same
pub same_texts : (xs ys : List (ℕ × RcStr Global)) → AllZip (λ x y. (y.0 ≡ x.0) ×
    (rc_str_bytes y.1 ≡ rc_str_bytes x.1)) xs ys → texts_of ys ≡ texts_of xs
same_texts [] [] h = refl
same_texts [] (y ∷ ys) h = absurd h
same_texts (x ∷ xs) [] h = absurd h
same_texts (x ∷ xs) (y ∷ ys) h = ap₂ (λ (e : ℕ × List ℕ) (es : List (ℕ × List ℕ)). e ∷
    es) (ap₂ (λ (v : ℕ) (t : List ℕ). (v, t)) h.0.0 h.0.1) (same_texts xs ys h.1)

pub versions_same : (xs : List (ℕ × RcStr Global)) → map (λ entry. entry.0) (texts_of xs) ≡ map
    (λ entry. entry.0) xs
versions_same [] = refl
versions_same (x ∷ xs) = ap (λ (vs : List ℕ). x.0 ∷ vs) (versions_same xs)
