-- Fields of the same kinds that stand in one object are the same.
use Rattle.std.proofs.Common.{◌≡◌, ℕ, List, [], ◌∷◌, Option, refl, ap, ap₂}
use Rattle.serde_json.specs.Data.{Data}
use Rattle.serde_json.specs.Find.{get}
use Rattle.ring_words.specs.declared.device.Row.{Row}
use Rattle.ring_messages.specs.Fields.{Field, Fields, within, device_name, address, weight, rows}
use Rattle.ring_messages.specs.Inner.Says.{HasFields, StandsInMessage}
use Rattle.ring_messages.proofs.OneValue.{same_number_read, same_name, same_weight, same_address}
use Rattle.ring_messages.proofs.RowLists.{rows_there, same_rows}

-- A field of this kind and these bounds, whatever stands there.
abbrev pub kind : Field → Field
kind (within least most n) = within least most 0
kind (device_name name) = device_name []
kind (address a) = address 0
kind (weight h) = weight 0
kind (rows rs) = rows []

abbrev pub kinds : Fields → Fields
kinds [] = []
kinds (f ∷ fs) = (f.0, kind f.1) ∷ kinds fs

-- What stands in fields, one after another: numbers, texts and rows.
pub data Values : Type 0 where
  none : Values
  number : ℕ → Values → Values
  text : List ℕ → Values → Values
  rows_of : List Row → Values → Values

abbrev pub value : Field → Values → Values
value (within least most n) rest = number n rest
value (device_name name) rest = text name rest
value (address a) rest = number a rest
value (weight h) rest = number h rest
value (rows rs) rest = rows_of rs rest

abbrev pub values : Fields → Values
values [] = none
values (f ∷ fs) = value f.1 (values fs)

same_least : (l m l' m' : ℕ) → within l m 0 ≡ within l' m' 0 → l ≡ l'
same_least l m l' m' e = cc

same_most : (l m l' m' : ℕ) → within l m 0 ≡ within l' m' 0 → m ≡ m'
same_most l m l' m' e = cc

same_within : (l m n l' m' n' : ℕ) → l ≡ l' → m ≡ m' → n ≡ n' → within l m n ≡ within l' m' n'
same_within l m n l' m' n' e f g = cc

-- fields of one kind that stand at one place are one field
same_field : (found : Option Data) (f g : Field) → kind f ≡ kind g → StandsInMessage found f →
    StandsInMessage found g
    → f ≡ g
same_field found (within l m n) (within l' m' n') e h k =
    same_within l m n l' m' n' (same_least l m l' m' e) (same_most l m l' m' e)
    (same_number_read found l m n l' m' n' h k)
same_field found (device_name n) (device_name n') e h k =
    ap device_name (same_name _ found n n' h k)
same_field found (address a) (address b) e h k = ap address (same_address found a b h k)
same_field found (weight a) (weight b) e h k = ap weight (same_weight found a b h k)
same_field found (rows a) (rows b) e h k =
    ap rows (same_rows found a b (rows_there found a h) (rows_there found b k))
same_field found f g e h k = cc

first_same : {X : Type 0} (x y : X) (xs ys : List X) → x ∷ xs ≡ y ∷ ys → x ≡ y
first_same x y xs ys e = cc

rest_same : {X : Type 0} (x y : X) (xs ys : List X) → x ∷ xs ≡ y ∷ ys → xs ≡ ys
rest_same x y xs ys e = cc

pub same_fields : (d : Data) (fs gs : Fields) → kinds fs ≡ kinds gs → HasFields d fs
    → HasFields d gs → fs ≡ gs
same_fields d [] [] e h k = refl
same_fields d [] (g ∷ gs) e h k = cc
same_fields d (f ∷ fs) [] e h k = cc
same_fields d (f ∷ fs) (g ∷ gs) e h k =
    let first = first_same (f.0, kind f.1) (g.0, kind g.1) (kinds fs) (kinds gs) e in
    let key : f.0 ≡ g.0 = ap (λ (x : List ℕ × Field). x.0) first in
    let alike : kind f.1 ≡ kind g.1 = ap (λ (x : List ℕ × Field). x.1) first in
    let field : f.1 ≡ g.1 = same_field (get f.0 d) f.1 g.1 alike h.0 (rw key k.0) in
    let pair : f ≡ g = ap₂ (λ (x : List ℕ) (y : Field). (x, y)) key field in
    let rest : fs ≡ gs = same_fields d fs gs (rest_same _ _ (kinds fs) (kinds gs) e) h.1 k.1 in
    ap₂ (λ (x : List ℕ × Field) (xs : Fields). x ∷ xs) pair rest
