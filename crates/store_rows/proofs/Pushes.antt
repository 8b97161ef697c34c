-- A loop that adds what it makes of each item.
use Rattle.std.proofs.Common.{◌≡◌, ◌∙◌, ◌∷◌, ◌++◌, [], List, ap, append_assoc, map, sym}
use Rattle.std.proofs.lemmas.List.{map-append}

-- so far it has added what is made of the items so far, and one more is so too
pub pushed_so : {A B : Type 0} (f : A → B) (old so_far new : List B) (done : List A) (x : A) (y : B)
    → new ≡ so_far ++ y ∷ [] → so_far ≡ old ++ map f done → y ≡ f x
    → new ≡ old ++ map f (done ++ x ∷ [])
pushed_so f old so_far new done x y added was is = added ∙ ap (λ xs. xs ++ y ∷ []) was
    ∙ append_assoc old (map f done) (y ∷ [])
    ∙ ap (λ xs. old ++ xs) (ap (λ z. map f done ++ z ∷ []) is ∙ sym (map-append f done (x ∷ [])))
