-- The fields of a row, and the values that they spell.
use Rattle.std.specs.Prelude.{◌≡◌, ◌<◌, ◌≤◌, ◌-◌, ℕ, List, [], ◌∷◌, length, slice_index_or, codes}
use Rattle.ring_words.specs.Limits.{greatest_short}
use Rattle.ring_words.specs.Texts.{is_device_name}
use Rattle.ring_words.specs.Spelling.{SpellsAddress, SpellsName, SpellsNumber, SpellsWeight}
use Rattle.ring_words.specs.declared.device.Row.{Row}

-- the names of the columns
abbrev pub header : List (List ℕ)
header = codes "region" ∷ codes "zone" ∷ codes "address" ∷ codes "port" ∷ codes "name" ∷
    codes "weight" ∷ []

-- the field in a column, counted from 1
abbrev pub field_in : List (List ℕ) → ℕ → List ℕ
field_in fields column = slice_index_or fields (column - 1) []

-- There is a field for each column, and the fields spell the row.
pub record IsRow (fields : List (List ℕ)) (row : Row) : Type 0 where
  pub count : length fields ≡ 6
  pub region : SpellsNumber (field_in fields 1) 0 greatest_short row.region
  pub zone : SpellsNumber (field_in fields 2) 0 greatest_short row.zone
  pub address : SpellsAddress (field_in fields 3) row.address
  pub port : SpellsNumber (field_in fields 4) 1 greatest_short row.port
  pub name : SpellsName is_device_name (field_in fields 5) row.name
  pub weight : SpellsWeight (field_in fields 6) row.weight

-- The field in this column spells a value of its column.
pub record HasForm (fields : List (List ℕ)) (column : ℕ) : Type 0 where
  pub region : column ≡ 1 → (number : ℕ) × SpellsNumber (field_in fields 1) 0 greatest_short number
  pub zone : column ≡ 2 → (number : ℕ) × SpellsNumber (field_in fields 2) 0 greatest_short number
  pub address : column ≡ 3 → (address : ℕ) × SpellsAddress (field_in fields 3) address
  pub port : column ≡ 4 → (port : ℕ) × SpellsNumber (field_in fields 4) 1 greatest_short port
  pub name : column ≡ 5 → (name : List ℕ) × SpellsName is_device_name (field_in fields 5) name
  pub weight : column ≡ 6 → (weight : ℕ) × SpellsWeight (field_in fields 6) weight

-- The field in this column is the first that spells no value of its column.
pub record IsFirstBad (fields : List (List ℕ)) (column : ℕ) : Type 0 where
  pub within : (1 ≤ column) × (column ≤ 6)
  pub before : (earlier : ℕ) → 1 ≤ earlier → earlier < column → HasForm fields earlier
  pub here : HasForm fields column → ⊥
