-- What is known of the rows of each table.
use Rattle.std.proofs.Common.{ℕ, zero, suc, refl}
use Rattle.std.specs.Cmp.{int_cmp_total}
use Rattle.std.specs.FinMap.{int_cmp-IsAntisymmetric}
use Rattle.std.proofs.lemmas.Bool.{and_parts}
use Rattle.sqlite_rules.proofs.ListLemmas.{has_got}
use Rattle.store_model.proofs.Keys.{name_total, name_exact, name_number_total, name_number_exact}
use Rattle.store_model.proofs.Keys.{seat_total, seat_exact}
use Rattle.store_tables.specs.Tables.{schema_of_first, store_schema}
use Rattle.store_tables.specs.Entries.{meta_rows, ring_rows, device_rows, seat_rows, moved_rows}
use Rattle.store_tables.specs.Entries.{published_rows, request_rows, part_rows}
use Rattle.store_tables.proofs.Plain.Shapes.{present}
use Rattle.store_tables.proofs.Plain.Facts.{Facts}
use Rattle.store_tables.proofs.Tables.Keys.{same_number, same_name, same_name_number, same_seat}

-- so many, and n more
abbrev pub more : ℕ → ℕ → ℕ
more zero n = n
more (suc k) n = suc (more k n)

-- ---- whichever tables are made after it

pub meta_at : (n : ℕ) → Facts (schema_of_first (more 1 n)) meta_rows
meta_at n = record {
  total = int_cmp_total;
  exact = int_cmp-IsAntisymmetric;
  listed = has_got (schema_of_first (more 1 n)).tables 0 _ refl;
  based = λ db. refl;
  reads = λ id k v. refl;
  whole = λ x. refl;
  agrees = λ id k v id′ k′ v′. same_number k k′;
  unique = λ db x h. present _ (and_parts _ _ h).0;
}

pub ring_at : (n : ℕ) → Facts (schema_of_first (more 2 n)) ring_rows
ring_at n = record {
  total = name_total;
  exact = name_exact;
  listed = has_got (schema_of_first (more 2 n)).tables 1 _ refl;
  based = λ db. refl;
  reads = λ id k v. refl;
  whole = λ x. refl;
  agrees = λ id k v id′ k′ v′. same_name k k′;
  unique = λ db x h. present _ (and_parts _ _ h).0;
}

pub device_at : (n : ℕ) → Facts (schema_of_first (more 3 n)) device_rows
device_at n = record {
  total = name_number_total;
  exact = name_number_exact;
  listed = has_got (schema_of_first (more 3 n)).tables 2 _ refl;
  based = λ db. refl;
  reads = λ id k v. refl;
  whole = λ x. refl;
  agrees = λ id k v id′ k′ v′. same_name_number k k′;
  unique = λ db x h. present _ (and_parts _ _ h).0;
}

pub seat_at : (n : ℕ) → Facts (schema_of_first (more 4 n)) seat_rows
seat_at n = record {
  total = seat_total;
  exact = seat_exact;
  listed = has_got (schema_of_first (more 4 n)).tables 3 _ refl;
  based = λ db. refl;
  reads = λ id k v. refl;
  whole = λ x. refl;
  agrees = λ id k v id′ k′ v′. same_seat k k′;
  unique = λ db x h. present _ (and_parts _ _ h).0;
}

pub moved_at : (n : ℕ) → Facts (schema_of_first (more 5 n)) moved_rows
moved_at n = record {
  total = name_number_total;
  exact = name_number_exact;
  listed = has_got (schema_of_first (more 5 n)).tables 4 _ refl;
  based = λ db. refl;
  reads = λ id k v. refl;
  whole = λ x. refl;
  agrees = λ id k v id′ k′ v′. same_name_number k k′;
  unique = λ db x h. present _ (and_parts _ _ h).0;
}

pub published_at : (n : ℕ) → Facts (schema_of_first (more 6 n)) published_rows
published_at n = record {
  total = name_number_total;
  exact = name_number_exact;
  listed = has_got (schema_of_first (more 6 n)).tables 5 _ refl;
  based = λ db. refl;
  reads = λ id k v. refl;
  whole = λ x. refl;
  agrees = λ id k v id′ k′ v′. same_name_number k k′;
  unique = λ db x h. present _ (and_parts _ _ h).0;
}

pub request_at : (n : ℕ) → Facts (schema_of_first (more 7 n)) request_rows
request_at n = record {
  total = name_number_total;
  exact = name_number_exact;
  listed = has_got (schema_of_first (more 7 n)).tables 6 _ refl;
  based = λ db. refl;
  reads = λ id k v. refl;
  whole = λ x. refl;
  agrees = λ id k v id′ k′ v′. same_name_number k k′;
  unique = λ db x h. present _ (and_parts _ _ h).0;
}

pub part_at : (n : ℕ) → Facts (schema_of_first (more 8 n)) part_rows
part_at n = record {
  total = name_number_total;
  exact = name_number_exact;
  listed = has_got (schema_of_first (more 8 n)).tables 7 _ refl;
  based = λ db. refl;
  reads = λ id k v. refl;
  whole = λ x. refl;
  agrees = λ id k v id′ k′ v′. same_name_number k k′;
  unique = λ db x h. present _ (and_parts _ _ h).0;
}

-- and where all are
pub meta_facts : Facts store_schema meta_rows
meta_facts = meta_at 7

pub ring_facts : Facts store_schema ring_rows
ring_facts = ring_at 6

pub device_facts : Facts store_schema device_rows
device_facts = device_at 5

pub seat_facts : Facts store_schema seat_rows
seat_facts = seat_at 4

pub moved_facts : Facts store_schema moved_rows
moved_facts = moved_at 3

pub published_facts : Facts store_schema published_rows
published_facts = published_at 2

pub request_facts : Facts store_schema request_rows
request_facts = request_at 1

pub part_facts : Facts store_schema part_rows
part_facts = part_at 0
