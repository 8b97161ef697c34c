-- Fields and the members that they are.
use Rattle.std.proofs.Common.{◌≡◌, ℕ, ◌^◌, ◌<◌, ◌≤◌, List, [], ◌∷◌, map, Bool, true, Option}
use Rattle.std.proofs.Common.{Some, sym, subst, arith}
use Rattle.std.specs.Prelude.{◌&&◌, ⊤, nat_lt}
use Rattle.std.specs.List.{AllByRecursion}
use Rattle.std.proofs.lemmas.Bool.{and_parts, ltb-true}
use Rattle.serde_json.specs.Data.{Data, object, Members, put, depth, items_depth}
use Rattle.serde_json.specs.Find.{get}
use Rattle.serde_json.specs.View.{items_of}
use Rattle.serde_json.proofs.Views.{get_member-put, get_member-put_other}
use Rattle.ring_words.specs.Rows.{IsProperRow}
use Rattle.ring_words.specs.declared.device.Row.{Row}
use Rattle.ring_messages.specs.Fields.{Field, Fields, within, device_name, address, weight, rows}
use Rattle.ring_messages.specs.Fields.{row_data, field_data, members, IsProperField}
use Rattle.ring_messages.specs.Fields.{AreProper}
use Rattle.ring_messages.specs.Inner.Says.{HasFields, StandsInMessage}
use Rattle.ring_messages.proofs.Plain.{IsPlain, ArePlain}
use Rattle.ring_messages.proofs.Puts.{EachMember, each_put}

-- ---- what stands is what is written, and proper

pub written : (found : Option Data) (f : Field) → StandsInMessage found f →
    found ≡ Some (field_data f)
written found (within l m n) h = h.is
written found (device_name n) h = h.is
written found (address a) h = h.is
written found (weight w) h = h.is
written found (rows rs) h = h.is

pub proper : (found : Option Data) (f : Field) → StandsInMessage found f → IsProperField f
proper found (within l m n) h = (h.above, h.below)
proper found (device_name n) h = h.valid
proper found (address a) h = h.valid
proper found (weight w) h = h.valid
proper found (rows rs) h = h.valid

pub stands : (found : Option Data) (f : Field) → found ≡ Some (field_data f) → IsProperField f
    → StandsInMessage found f
stands found (within l m n) is h = record { is = is; above = h.0; below = h.1 }
stands found (device_name n) is h = record { is = is; valid = h }
stands found (address a) is h = record { is = is; valid = h }
stands found (weight w) is h = record { is = is; valid = h }
stands found (rows rs) is h = record { is = is; valid = h }

pub are_proper : (d : Data) (fs : Fields) → HasFields d fs → AreProper fs
are_proper d [] h = tt
are_proper d (f ∷ fs) h = (proper (get f.0 d) f.1 h.0, are_proper d fs h.1)

-- what holds of each field holds of each member
pub each_member : (P : List ℕ → Data → Type 0) (fs : Fields)
    → AllByRecursion (λ f. P f.0 (field_data f.1)) fs → EachMember P (members fs)
each_member P [] h = tt
each_member P (f ∷ fs) h = each_put P f.0 (field_data f.1) (members fs) h.0 (each_member P fs h.1)

-- these members are among those of the object
abbrev pub HasMembers : Members → Data → Type 0
HasMembers ms d = EachMember (λ k v. get k d ≡ Some v) ms

all_written : (d : Data) (fs : Fields) → HasFields d fs
    → AllByRecursion (λ f. get f.0 d ≡ Some (field_data f.1)) fs
all_written d [] h = tt
all_written d (f ∷ fs) h = (written (get f.0 d) f.1 h.0, all_written d fs h.1)

pub has_members : (d : Data) (fs : Fields) → HasFields d fs → HasMembers (members fs) d
has_members d fs h = each_member (λ k v. get k d ≡ Some v) fs (all_written d fs h)

-- ---- each field is low

rows_low : (rs : List Row) → items_depth (items_of (map row_data rs)) ≤ 1
rows_low [] = omega arith
rows_low (r ∷ rs) = let rest = rows_low rs in omega (arith, rest)

field_low : (f : Field) → depth (field_data f) ≤ 2
field_low (within l m n) = omega arith
field_low (device_name n) = omega arith
field_low (address a) = omega arith
field_low (weight w) = omega arith
field_low (rows rs) = let low = rows_low rs in omega (arith, low)

pub fields_low : (fs : Fields) → EachMember (λ k d. depth d ≤ 2) (members fs)
fields_low fs = each_member (λ k d. depth d ≤ 2) fs (all fs)
  where
    all : (fs : Fields) → AllByRecursion (λ f. depth (field_data f.1) ≤ 2) fs
    all [] = tt
    all (f ∷ fs) = (field_low f.1, all fs)

-- ---- proper fields are plain

-- the greatest number of a field has 64 bits
abbrev is_short : Field → Bool
is_short (within l m n) = nat_lt m (2 ^ 64)
is_short other = true

abbrev pub are_short : Fields → Bool
are_short [] = true
are_short (f ∷ fs) = is_short f.1 && are_short fs

short : (n : ℕ) → n < 2 ^ 16 → n < 2 ^ 64
short n h = omega arith

rows_plain : (rs : List Row) → AllByRecursion IsProperRow rs → ArePlain (items_of (map row_data rs))
rows_plain [] h = tt
rows_plain (r ∷ rs) h =
    let f = h.0 in (
      (short _ f.region, (short _ f.zone, (tt, (short _ f.port.1, (tt, (tt, tt)))))),
      rows_plain rs h.1,
    )

field_plain : (f : Field) → is_short f ≡ true → IsProperField f → IsPlain (field_data f)
field_plain (within l m n) s h = let below : m < 2 ^ 64 = ltb-true m (2 ^ 64) s in let most = h.1 in
    omega (arith, below, most)
field_plain (device_name n) s h = tt
field_plain (address a) s h = tt
field_plain (weight w) s h = tt
field_plain (rows rs) s h = rows_plain rs h

pub fields_plain : (fs : Fields) → are_short fs ≡ true → AreProper fs
    → EachMember (λ k d. IsPlain d) (members fs)
fields_plain fs s h = each_member (λ k d. IsPlain d) fs (all fs s h)
  where
    all : (fs : Fields) → are_short fs ≡ true → AreProper fs
        → AllByRecursion (λ f. IsPlain (field_data f.1)) fs
    all [] s h = tt
    all (f ∷ fs) s h = let both = and_parts _ _ s in (field_plain f.1 both.0 h.0, all fs both.1 h.1)

-- ---- fields stand in the object that they make

-- this is the key of none of the fields
abbrev pub IsNoKey : List ℕ → Fields → Type 0
IsNoKey k fs = AllByRecursion (λ f. f.0 ≡ k → ⊥) fs

abbrev pub AreApart : Fields → Type 0
AreApart [] = ⊤
AreApart (f ∷ fs) = IsNoKey f.0 fs × AreApart fs

pub still_there : (k : List ℕ) (v : Data) (ms : Members) (fs : Fields) → IsNoKey k fs
    → HasFields (object ms) fs → HasFields (object (put k v ms)) fs
still_there k v ms [] apart h = tt
still_there k v ms (f ∷ fs) apart h = (
  subst (λ (found : Option Data). StandsInMessage found f.1) (sym (get_member-put_other f.0 k v ms
      apart.0))
      h.0,
  still_there k v ms fs apart.1 h.1,
)

pub all_there : (fs : Fields) → AreApart fs → AreProper fs → HasFields (object (members fs)) fs
all_there [] apart h = tt
all_there (f ∷ fs) apart h = (
  stands (get f.0 (object (members (f ∷ fs)))) f.1
      (get_member-put f.0 (field_data f.1) (members fs)) h.0,
  still_there f.0 (field_data f.1) (members fs) fs apart.0 (all_there fs apart.1 h.1),
)

-- fields stand in each object that has the same under their keys
pub there_too : (d e : Data) (fs : Fields) → AllByRecursion (λ f. get f.0 e ≡ get f.0 d) fs
    → HasFields d fs → HasFields e fs
there_too d e [] same h = tt
there_too d e (f ∷ fs) same h = (
  subst (λ (found : Option Data). StandsInMessage found f.1) (sym same.0) h.0,
  there_too d e fs same.1 h.1,
)
