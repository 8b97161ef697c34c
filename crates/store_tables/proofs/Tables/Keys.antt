-- The columns of a key, compared one after another, are the order of the keys.
use Rattle.std.proofs.Common.{◌≡◌, ◌&&◌, Equal, ℕ, ℤ, List, true}
use Rattle.std.specs.Ordering.{int_cmp, is_ge, eq_by_cmp, ordering_then}
use Rattle.sqlite_value.specs.declared.keys.Collation.TheVariants.{Binary}
use Rattle.sqlite_value.specs.declared.value.Value.TheVariants.{Int, Text}
use Rattle.sqlite_value.specs.Order.{value_cmp}
use Rattle.sqlite_value.proofs.OrderLemmas.{value_cmp-Int, value_cmp-Text}
use Rattle.sqlite_sql.specs.Ops.{binary, is_true}
use Rattle.sqlite_sql.specs.declared.ops.BinaryOp.TheVariants.{Compare}
use Rattle.sqlite_sql.specs.declared.ops.CompareOp.TheVariants.{Ge}
use Rattle.sqlite_schema.specs.Rules.{equal}
use Rattle.store_model.specs.Entries.{name_cmp, NameNumber, name_number_cmp, SeatKey, seat_cmp}
use Rattle.store_tables.proofs.Plain.Values.{all_three, alone, both_equal, equal_ints, equal_texts}
use Rattle.store_tables.proofs.Plain.Values.{no_less_ints}
use Rattle.store_tables.proofs.Ties.{first_of, then_equal, then_equals}

pub same_number : (k k′ : ℤ) → (equal Binary (Int k) (Int k′) && true) ≡ eq_by_cmp int_cmp k k′
same_number k k′ = rw (equal_ints k k′) (alone _)

pub from_number : (k k′ : ℤ) → (is_true (binary (Compare Ge Binary) (Int k) (Int k′)) && true)
    ≡ is_ge (int_cmp k k′)
from_number k k′ = rw (no_less_ints k k′) (alone _)

pub same_name : (k k′ : List ℕ) → (equal Binary (Text k) (Text k′) && true)
    ≡ eq_by_cmp name_cmp k k′
same_name k k′ = rw (equal_texts k k′) (alone _)

pub same_name_number : (k k′ : NameNumber) → (equal Binary (Text k.0) (Text k′.0)
    && (equal Binary (Int k.1) (Int k′.1) && true)) ≡ eq_by_cmp name_number_cmp k k′
same_name_number k k′ = rw (equal_texts k.0 k′.0, equal_ints k.1 k′.1)
    (both_equal (name_cmp k.0 k′.0) (int_cmp k.1 k′.1))

pub same_seat : (k k′ : SeatKey) → (equal Binary (Text k.0) (Text k′.0)
    && (equal Binary (Int k.1.0) (Int k′.1.0) && (equal Binary (Int k.1.1) (Int k′.1.1) && true)))
    ≡ eq_by_cmp seat_cmp k k′
same_seat k k′ = rw (
  equal_texts k.0 k′.0,
  equal_ints k.1.0 k′.1.0,
  equal_ints k.1.1 k′.1.1,
) (all_three (name_cmp k.0 k′.0) (int_cmp k.1.0 k′.1.0) (int_cmp k.1.1 k′.1.1))

pub number_order : (k k′ : ℤ) → ordering_then (value_cmp (Int k) (Int k′)) Equal ≡ int_cmp k k′
number_order k k′ = rw (value_cmp-Int k k′) (first_of (int_cmp k k′))

pub name_order : (k k′ : List ℕ) → ordering_then (value_cmp (Text k) (Text k′)) Equal
    ≡ name_cmp k k′
name_order k k′ = rw (value_cmp-Text k k′) (first_of (name_cmp k k′))

pub name_number_order : (k k′ : NameNumber) → ordering_then (value_cmp (Text k.0) (Text k′.0))
    (ordering_then (value_cmp (Int k.1) (Int k′.1)) Equal) ≡ name_number_cmp k k′
name_number_order k k′ = rw (value_cmp-Text k.0 k′.0, value_cmp-Int k.1 k′.1)
    (then_equal (name_cmp k.0 k′.0) (int_cmp k.1 k′.1))

pub seat_order : (k k′ : SeatKey) → ordering_then (value_cmp (Text k.0) (Text k′.0))
    (ordering_then (value_cmp (Int k.1.0) (Int k′.1.0))
    (ordering_then (value_cmp (Int k.1.1) (Int k′.1.1)) Equal)) ≡ seat_cmp k k′
seat_order k k′ = rw (
  value_cmp-Text k.0 k′.0,
  value_cmp-Int k.1.0 k′.1.0,
  value_cmp-Int k.1.1 k′.1.1,
) (then_equals (name_cmp k.0 k′.0) (int_cmp k.1.0 k′.1.0) (int_cmp k.1.1 k′.1.1))
