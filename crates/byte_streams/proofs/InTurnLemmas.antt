-- Items answered one after another.
use Rattle.std.proofs.Common.{ℕ, List, [], ◌∷◌, ◌++◌, refl, ap, subst}
use Rattle.byte_streams.specs.InTurn.{InTurn}

pub InTurn-then : {S I : Type 0} (gives : S → I → List ℕ → S → Type 0) (old mid new : S)
    (items after : List I) (texts more : List (List ℕ))
    → InTurn gives old items texts mid → InTurn gives mid after more new →
    InTurn gives old (items ++ after) (texts ++ more) new
InTurn-then gives old mid new [] after texts more x y =
    rw x.0 (subst (λ s. InTurn gives s after more new) x.1 y)
InTurn-then gives old mid new (item ∷ items) after texts more x y = (
  x.0,
  x.1,
  x.2 ++ more,
  x.3,
  ap (λ (t : List (List ℕ)). t ++ more) x.4,
  InTurn-then gives x.1 mid new items after x.2 more x.5 y,
)

-- one more item
pub InTurn-push : {S I : Type 0} (gives : S → I → List ℕ → S → Type 0) (old mid new : S)
    (items : List I) (texts : List (List ℕ)) (item : I) (text : List ℕ)
    → InTurn gives old items texts mid → gives mid item text new → InTurn gives old (items ++ item ∷
    []) (texts ++ text ∷ []) new
InTurn-push gives old mid new items texts item text x y =
    InTurn-then gives old mid new items (item ∷ []) texts (text ∷ []) x (
      text,
      new,
      [],
      y,
      refl,
      (refl, refl),
    )
