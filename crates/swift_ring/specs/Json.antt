-- JSON as Swift writes it: a space behind each comma and each colon, and keys in byte order. No
-- text that is written here holds a byte that JSON would have escaped: names are of letters, digits,
-- `_` and `-`, and addresses of digits and points.
use Rattle.std.specs.Prelude.{ℕ, ◌/◌, ◌%◌, ◌==◌, if◌then◌else◌, List, [], ◌∷◌, ◌++◌, codes, decimal}
use Rattle.std.specs.List.{flat_map}
use Rattle.ring_words.specs.Texts.{two_digits}

-- parts with a comma and a space between each two
abbrev pub listed : List (List ℕ) → List ℕ
listed [] = []
listed (part ∷ parts) = part ++ flat_map (λ other. codes ", " ++ other) parts

-- a text between double quotes
abbrev pub quoted : List ℕ → List ℕ
quoted text = codes "\"" ++ text ++ codes "\""

-- a member of an object: its key, and the JSON of its value
abbrev pub member : List ℕ → List ℕ → List ℕ
member key value = quoted key ++ codes ": " ++ value

-- an object of these members
abbrev pub object : List (List ℕ) → List ℕ
object members = codes "{" ++ listed members ++ codes "}"

-- an array of these parts
abbrev pub array : List (List ℕ) → List ℕ
array parts = codes "[" ++ listed parts ++ codes "]"

-- so many hundredths as Swift writes such a number: with two digits after the point, or with one
-- where the other is 0
abbrev pub hundredths : ℕ → List ℕ
hundredths h = decimal (h / 100) ++ codes "." ++
    (if h % 10 == 0 then decimal (h / 10 % 10) else two_digits (h % 100))
