-- The keys of the tables' rows, and what each row says besides.
use Rattle.std.specs.Prelude.{ℕ, ℤ, List}
use Rattle.std.specs.declared.cmp.Ordering.{Ordering}
use Rattle.std.specs.Ordering.{nat_cmp, int_cmp, ordering_then}
use Rattle.std.specs.Cmp.Lexicographic.{slice_cmp}

-- ---- keys and their orders

abbrev pub name_cmp : List ℕ → List ℕ → Ordering
name_cmp = slice_cmp nat_cmp

-- A name and a number, as a ring and the id of a device.
abbrev pub NameNumber : Type 0
NameNumber = List ℕ × ℤ

-- By name, and then by number.
abbrev pub name_number_cmp : NameNumber → NameNumber → Ordering
name_number_cmp x y = ordering_then (name_cmp x.0 y.0) (int_cmp x.1 y.1)

-- Two numbers, as a partition and a replica.
abbrev pub numbers_cmp : ℤ × ℤ → ℤ × ℤ → Ordering
numbers_cmp x y = ordering_then (int_cmp x.0 y.0) (int_cmp x.1 y.1)

-- A ring, and a partition and a replica of it.
abbrev pub SeatKey : Type 0
SeatKey = List ℕ × (ℤ × ℤ)

-- By ring, then by partition, then by replica.
abbrev pub seat_cmp : SeatKey → SeatKey → Ordering
seat_cmp x y = ordering_then (name_cmp x.0 y.0) (numbers_cmp x.1 y.1)

-- ---- what the rows say

-- The schema of the store and the greatest hour.
pub record Meta : Type 0 where
  pub schema : ℤ
  pub hour : ℤ

-- What a ring has besides its name.
pub record Ring : Type 0 where
  pub power : ℤ
  pub replicas : ℤ
  pub min_hours : ℤ
  pub next_id : ℤ
  pub version : ℤ

-- What a device has besides its ring and its id.
pub record Device : Type 0 where
  pub region : ℤ
  pub zone : ℤ
  pub address : List ℕ
  pub port : ℤ
  pub name : List ℕ
  pub weight : ℤ
  pub removed : ℤ

-- What a decided request has besides its caller and number.
pub record Request : Type 0 where
  pub place : ℤ
  pub hour : ℤ
  pub command : List ℕ
  pub reply : List ℕ

-- The devices of a partition, in two bytes each, and the hour of its last move.
pub record Part : Type 0 where
  pub devices : List ℕ
  pub hour : ℤ
