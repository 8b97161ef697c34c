-- Rings by their names.
use Rattle.std.specs.Prelude.{◌≡◌, ℕ, Bool, true, List, ◌∷◌, ◌++◌, map, filter, find, nat_eq}
use Rattle.std.specs.Prelude.{Option, AllPairs}
use Rattle.std.specs.Option.{option_map}
use Rattle.std.specs.Ordering.{nat_cmp, is_lt}
use Rattle.std.specs.Cmp.Lexicographic.{pointwise, slice_cmp}
use Rattle.std.specs.declared.rc.Rc.{Rc}
use Rattle.std.specs.declared.alloc.Global.{Global}
use Rattle.ring_model.specs.Ring.{RingRecord}
use Rattle.ring_model.specs.declared.ring.Ring.{Ring}

-- whether a name comes before another, byte by byte
abbrev pub is_before : List ℕ → List ℕ → Bool
is_before a b = is_lt (slice_cmp nat_cmp a b)

-- Each name comes before all that stand behind it.
abbrev pub AreByName : List (List ℕ × RingRecord) → Type 0
AreByName rings = AllPairs (λ a b. is_before a.0 b.0 ≡ true) rings

-- the ring of a name
abbrev pub ring_at : List ℕ → List (List ℕ × RingRecord) → Option RingRecord
ring_at name rings = option_map (λ e. e.1) (find (λ e. pointwise nat_eq e.0 name) rings)

-- the rings with this one under this name, in place of the one that was there
abbrev pub with_ring : List (List ℕ × RingRecord) → List ℕ → RingRecord → List (List ℕ × RingRecord)
with_ring rings name ring = filter (λ e. is_before e.0 name) rings ++ (name, ring) ∷
    filter (λ e. is_before name e.0) rings

-- what is seen of shared rings
abbrev pub seen : List (List ℕ × Rc Ring Global) → List (List ℕ × RingRecord)
seen rings = map (λ e. (e.0, e.1.value)) rings
