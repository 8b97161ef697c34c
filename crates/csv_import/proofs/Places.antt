-- The fields of a record, and what stands where there is none.
use Rattle.std.proofs.Common.{Bor, ◌≡◌, ℕ, zero, suc, List, [], ◌∷◌, Option, Some, None, refl, ap}
use Rattle.std.proofs.Common.{◌∙◌}
use Rattle.std.specs.Prelude.{slice_index_or, unwrap_or}
use Rattle.std.specs.Option.{option_map}
use Rattle.csv.specs.Records.{field_at}

at_place : (fields : List (List ℕ)) (place : ℕ) → unwrap_or (field_at fields place) [] ≡
    slice_index_or fields place []
unfolding field_at
at_place [] place = refl
at_place (f ∷ rest) zero = refl
at_place (f ∷ rest) (suc place) = at_place rest place

default_now : (found : Option (Bor (List ℕ))) (default : Bor (List ℕ)) → default.now ≡ [] →
    (unwrap_or found default).now ≡ unwrap_or (option_map (λ s. s.now) found) []
default_now None default empty = empty
default_now (Some field) default empty = refl

pub field_or_empty : (fields : List (List ℕ)) (place : ℕ) (found : Option (Bor (List ℕ)))
    (default : Bor (List ℕ)) → option_map (λ s. s.now) found ≡ field_at fields place →
    default.now ≡ []
    → (unwrap_or found default).now ≡ slice_index_or fields place []
field_or_empty fields place found default is empty =
    default_now found default empty ∙ ap (λ (o : Option (List ℕ)). unwrap_or o []) is ∙ at_place
    fields place
