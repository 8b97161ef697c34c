-- Texts that are published of a ring, each under the version that the ring had.
use Rattle.std.specs.Prelude.{ℕ, Bool, nat_lt, if◌then◌else◌, is_some, List, ◌∷◌, ◌++◌, filter}
use Rattle.ring_model.specs.Ring.{RingRecord, published_at}

-- whether a text is published under the ring's version of now
abbrev pub is_published : RingRecord → Bool
is_published ring = is_some (published_at ring ring.version)

-- the texts of earlier versions, this one, and those of later versions
abbrev pub among : ℕ → List ℕ → List (ℕ × List ℕ) → List (ℕ × List ℕ)
among version text published = filter (λ entry. nat_lt entry.0 version) published ++
    (version, text) ∷ filter (λ entry. nat_lt version entry.0) published

-- the ring with this text under its version of now; where one is published already, the ring as it
-- is
abbrev pub with_published : RingRecord → List ℕ → RingRecord
with_published ring text = if is_published ring then ring else record ring {
  published =
      among ring.version text ring.published;
}
