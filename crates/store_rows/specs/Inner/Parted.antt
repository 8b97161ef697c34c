-- Rows of several rings, which stand by ring.
use Rattle.std.specs.Prelude.{◌≡◌, ℕ, Bool, cond, List, [], ◌∷◌, ⊤, map}
use Rattle.std.specs.List.{AllByRecursion}
use Rattle.store_model.specs.Contents.{device_of, moved_of, part_of, published_of, ring_of}
use Rattle.store_model.specs.Contents.{seat_of}
use Rattle.store_model.specs.declared.rows.RingRow.{RingRow}
use Rattle.store_rows.specs.RingRows.{NamedRings, device_entries, part_entries, published_entries}
use Rattle.store_rows.specs.RingRows.{ring_entries}
use Rattle.store_rows.specs.FirstRows.{moved_entries, seat_entries}
use Rattle.store_rows.specs.Stands.{AreRings}
use Rattle.store_rows.specs.declared.naming.RingTables.{RingTables}

-- The first of these is not under the name, where there is one.
abbrev pub BeginsElsewhere : {X : Type 0} → (X → List ℕ) → List ℕ → List X → Type 0
BeginsElsewhere name_of name [] = ⊤
BeginsElsewhere name_of name (x ∷ xs) = name_of x ≡ name → ⊥

-- All in front are under the name, and the first behind them is not.
pub record ArePartedAt {X : Type 0} (name_of : X → List ℕ) (name : List ℕ) (front behind : List X)
    : Type 0 where
  pub front_named : AllByRecursion (λ x. name_of x ≡ name) front
  pub behind_other : BeginsElsewhere name_of name behind

-- The rows in the tables beside `ring` are those of these rings, in a store of schema 1 or of
-- schema 2.
pub record SayRest (is_first : Bool) (tables : RingTables) (rings : NamedRings) : Type 0 where
  pub devices : map device_of tables.devices.now ≡ device_entries rings
  pub published : map published_of tables.published.now ≡ published_entries rings
  pub seats : map seat_of tables.seats.now ≡ cond is_first (seat_entries rings) []
  pub moved : map moved_of tables.moved.now ≡ cond is_first (moved_entries rings) []
  pub parts : map part_of tables.parts.now ≡ cond is_first [] (part_entries rings)

-- All rows are those of these rings.
pub record SayTables (is_first : Bool) (rows : List RingRow) (tables : RingTables)
    (rings : NamedRings) : Type 0 where
  pub held : AreRings rings
  pub rings_are : map ring_of rows ≡ ring_entries rings
  pub rest : SayRest is_first tables rings
