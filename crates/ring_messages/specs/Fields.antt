-- What stands under the keys of a command or a reply: its kind, its bounds, what is written of it.
use Rattle.std.specs.Prelude.{ℕ, ◌<◌, ◌≤◌, List, [], ◌∷◌, IsTrue, map}
use Rattle.std.specs.List.{AllByRecursion}
use Rattle.serde_json.specs.Data.{Data, number, unsigned, string, array, item, no_items, Members}
use Rattle.serde_json.specs.Data.{no_members, put}
use Rattle.serde_json.specs.View.{items_of}
use Rattle.ring_words.specs.Texts.{is_device_name, address_text, address_limit, hundredths_text}
use Rattle.ring_words.specs.Texts.{greatest_weight}
use Rattle.ring_words.specs.Rows.{IsProperRow}
use Rattle.ring_words.specs.declared.device.Row.{Row}

-- A whole number from a least to a greatest one, a device's name, an address, a weight in
-- hundredths, or rows.
pub data Field : Type 0 where
  within : ℕ → ℕ → ℕ → Field
  device_name : List ℕ → Field
  address : ℕ → Field
  weight : ℕ → Field
  rows : List Row → Field

-- Fields, each with its key.
abbrev pub Fields : Type 0
Fields = List (List ℕ × Field)

-- A whole number.
abbrev pub whole : ℕ → Data
whole n = number (unsigned n)

-- A row of an import: region, zone, address, port, name and weight.
abbrev pub row_data : Row → Data
row_data r =
    array (item (whole r.region) (item (whole r.zone) (item (string (address_text r.address))
    (item (whole r.port) (item (string r.name)
    (item (string (hundredths_text r.weight)) no_items))))))

-- What is written of a field.
abbrev pub field_data : Field → Data
field_data (within least most n) = whole n
field_data (device_name name) = string name
field_data (address a) = string (address_text a)
field_data (weight h) = string (hundredths_text h)
field_data (rows rs) = array (items_of (map row_data rs))

-- The members that fields are, in byte order of their keys.
abbrev pub members : Fields → Members
members [] = no_members
members (f ∷ fs) = put f.0 (field_data f.1) (members fs)

-- The field is such as there are: within its bounds, and of its form.
abbrev pub IsProperField : Field → Type 0
IsProperField (within least most n) = (least ≤ n) × (n ≤ most)
IsProperField (device_name name) = IsTrue (is_device_name name)
IsProperField (address a) = a < address_limit
IsProperField (weight h) = h ≤ greatest_weight
IsProperField (rows rs) = AllByRecursion IsProperRow rs

-- Each of these fields is such as there are.
abbrev pub AreProper : Fields → Type 0
AreProper fs = AllByRecursion (λ f. IsProperField f.1) fs
