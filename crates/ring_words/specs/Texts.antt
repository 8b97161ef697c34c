-- The one spelling of each word.
use Rattle.std.specs.List.{list_all}
use Rattle.std.specs.Prelude.{ℕ, ◌/◌, ◌%◌, ◌+◌, ◌++◌, ◌&&◌, ◌||◌, ◌==◌, List, [], ◌∷◌, length}
use Rattle.std.specs.Prelude.{slice_index, Bool, nat_lt, nat_le, decimal}
use Rattle.ring_words.specs.Limits.{long_count}

-- a byte of `0` to `9`
abbrev pub is_digit : ℕ → Bool
is_digit b = nat_le 48 b && nat_le b 57

-- a number below 100 in two digits
abbrev pub two_digits : ℕ → List ℕ
two_digits n = (48 + n / 10) ∷ (48 + n % 10) ∷ []

-- hundredths as whole ones, a point, and two digits
abbrev pub hundredths_text : ℕ → List ℕ
hundredths_text h = decimal (h / 100) ++ 46 ∷ two_digits (h % 100)

-- 1000000.00, in hundredths
abbrev pub greatest_weight : ℕ
greatest_weight = 100000000

-- An address has four octets.
abbrev pub address_limit : ℕ
address_limit = long_count

-- the four octets in decimal, joined by points
abbrev pub address_text : ℕ → List ℕ
address_text a = decimal (a / 16777216) ++ 46 ∷ (decimal (a / 65536 % 256) ++ 46 ∷
    (decimal (a / 256 % 256) ++ 46 ∷ decimal (a % 256)))

-- a byte of `a` to `z`
abbrev pub is_lower : ℕ → Bool
is_lower b = nat_le 97 b && nat_le b 122

-- a byte of `A` to `Z`
abbrev pub is_upper : ℕ → Bool
is_upper b = nat_le 65 b && nat_le b 90

-- a to z, 0 to 9 and -
abbrev pub is_label_byte : ℕ → Bool
is_label_byte b = is_lower b || is_digit b || (b == 45)

-- how many bytes a name has at most
abbrev pub longest_name : ℕ
longest_name = 32

-- the name of a ring or of a caller: such bytes, one at least, the first a letter
abbrev pub is_label : List ℕ → Bool
is_label t = nat_lt 0 (length t) && nat_le (length t) longest_name && is_lower (slice_index t 0) &&
    list_all is_label_byte t

-- A to Z, a to z, 0 to 9, _ and -
abbrev pub is_device_name_byte : ℕ → Bool
is_device_name_byte b = is_upper b || is_lower b || is_digit b || (b == 95) || (b == 45)

-- the name of a device: such bytes, one at least
abbrev pub is_device_name : List ℕ → Bool
is_device_name t = nat_lt 0 (length t) && nat_le (length t) longest_name &&
    list_all is_device_name_byte t
