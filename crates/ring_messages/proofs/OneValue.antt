-- One text is of one address and of one weight, and one value under a key is one part.
use Rattle.std.proofs.Common.{◌≡◌, ℕ, List, Bool, false, true≢false, Option, Some, bytes_eq, sym}
use Rattle.std.proofs.Common.{◌∙◌}
use Rattle.std.proofs.lemmas.Slice.Eq.{bytes_eq-Decides}
use Rattle.serde_json.specs.Data.{Data, number, unsigned, string}
use Rattle.ring_words.specs.Texts.{hundredths_text, address_text}
use Rattle.ring_words.proofs.Spelled.{one_weight, one_address}
use Rattle.ring_messages.specs.Reads.{IsNumber, IsName}
use Rattle.ring_messages.specs.Inner.Says.{IsAddress, IsWeight}

abbrev number_at : ℕ → Option Data
number_at n = Some (number (unsigned n))

abbrev text_at : List ℕ → Option Data
text_at t = Some (string t)

number_injective : (a b : ℕ) → number_at a ≡ number_at b → a ≡ b
number_injective a b e = cc

pub same_text_at : (a b : List ℕ) → text_at a ≡ text_at b → a ≡ b
same_text_at a b e = cc

-- two words that differ don't both stand under a key
pub apart : (a b : List ℕ) → bytes_eq a b ≡ false → text_at a ≡ text_at b → ⊥
apart a b no_match e = true≢false (sym ((bytes_eq-Decides a b).1 (same_text_at a b e)) ∙ no_match)

pub same_number_read : (f : Option Data) (l m a l' m' b : ℕ) → IsNumber f l m a → IsNumber f l' m' b
    → a ≡ b
same_number_read f l m a l' m' b h k = number_injective a b (sym h.is ∙ k.is)

pub same_name : (allows : List ℕ → Bool) (f : Option Data) (a b : List ℕ) → IsName allows f a
    → IsName allows f b → a ≡ b
same_name allows f a b h k = same_text_at a b (sym h.is ∙ k.is)

pub same_weight : (f : Option Data) (a b : ℕ) → IsWeight f a → IsWeight f b → a ≡ b
same_weight f a b h k =
    one_weight a b h.valid k.valid
    (same_text_at (hundredths_text a) (hundredths_text b) (sym h.is ∙ k.is))

pub same_address : (f : Option Data) (a b : ℕ) → IsAddress f a → IsAddress f b → a ≡ b
same_address f a b h k =
    one_address a b h.valid k.valid
    (same_text_at (address_text a) (address_text b) (sym h.is ∙ k.is))
