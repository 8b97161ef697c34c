-- What the statements that list a table mean, and the one that finds a request.
use Rattle.std.proofs.Common.{ℕ, List, [], ◌∷◌, codes, refl}
use Rattle.sqlite_value.specs.Order.{Row}
use Rattle.sqlite_value.specs.declared.value.Value.TheVariants.{Int, Text}
use Rattle.sqlite_value.specs.declared.keys.Collation.TheVariants.{Binary}
use Rattle.sqlite_sql.specs.declared.ops.BinaryOp.TheVariants.{Compare}
use Rattle.sqlite_sql.specs.declared.ops.CompareOp.TheVariants.{Eq}
use Rattle.sqlite.specs.Term.{Term, col, op2}
use Rattle.sqlite.specs.Command.TheVariants.{Select}
use Rattle.sqlite.specs.Listing.{understood}
use Rattle.sqlite_tied.specs.Compute.{everything}
use Rattle.store_model.specs.Entries.{NameNumber}
use Rattle.store_tables.specs.Tables.{schema_of_first, store_schema}
use Rattle.store_tables.specs.Entries.{meta_rows, ring_rows, device_rows, seat_rows, moved_rows}
use Rattle.store_tables.specs.Entries.{published_rows, request_rows, part_rows}
use Rattle.store_tables.specs.Inner.Texts.{list_meta, list_ring, list_device, list_seat}
use Rattle.store_tables.specs.Inner.Texts.{list_moved, list_published, list_request, list_part}
use Rattle.store_tables.specs.Inner.Texts.{pick_request}
use Rattle.store_tables.specs.Inner.Told.{told}
use Rattle.store_tables.proofs.Plain.Queries.{ListText, Means, PickText, program_of, lists, of_table}
use Rattle.store_tables.proofs.Tables.Keys.{number_order, name_order, name_number_order}
use Rattle.store_tables.proofs.Tables.Keys.{same_name_number, seat_order}
use Rattle.store_tables.proofs.Tables.Facts.{device_at, meta_at, more, moved_at, part_at}
use Rattle.store_tables.proofs.Tables.Facts.{published_at, request_at, request_facts, ring_at, seat_at}

meta_means : (n : ℕ) → Means (schema_of_first (more 1 n)) list_meta
    (lists (schema_of_first (more 1 n)) meta_rows (meta_at n))
unfolding understood everything
meta_means n = record { is = refl; unlisted = refl; plain = (refl, refl) }

pub meta_lists : (n : ℕ) → ListText (schema_of_first (more 1 n)) meta_rows (meta_at n) list_meta
meta_lists n = record {
  means = meta_means n;
  ordered_as = λ id k v id′ k′ v′. number_order k k′;
  shows = λ id k v. refl;
}

ring_means : (n : ℕ) → Means (schema_of_first (more 2 n)) list_ring
    (lists (schema_of_first (more 2 n)) ring_rows (ring_at n))
unfolding understood everything
ring_means n = record { is = refl; unlisted = refl; plain = (refl, refl) }

pub ring_lists : (n : ℕ) → ListText (schema_of_first (more 2 n)) ring_rows (ring_at n) list_ring
ring_lists n = record {
  means = ring_means n;
  ordered_as = λ id k v id′ k′ v′. name_order k k′;
  shows = λ id k v. refl;
}

device_means : (n : ℕ) → Means (schema_of_first (more 3 n)) list_device
    (lists (schema_of_first (more 3 n)) device_rows (device_at n))
unfolding understood everything
device_means n = record { is = refl; unlisted = refl; plain = (refl, refl) }

pub device_lists : (n : ℕ) → ListText (schema_of_first (more 3 n)) device_rows (device_at n) list_device
device_lists n = record {
  means = device_means n;
  ordered_as = λ id k v id′ k′ v′. name_number_order k k′;
  shows = λ id k v. refl;
}

seat_means : (n : ℕ) → Means (schema_of_first (more 4 n)) list_seat
    (lists (schema_of_first (more 4 n)) seat_rows (seat_at n))
unfolding understood everything
seat_means n = record { is = refl; unlisted = refl; plain = (refl, refl) }

pub seat_lists : (n : ℕ) → ListText (schema_of_first (more 4 n)) seat_rows (seat_at n) list_seat
seat_lists n = record {
  means = seat_means n;
  ordered_as = λ id k v id′ k′ v′. seat_order k k′;
  shows = λ id k v. refl;
}

moved_means : (n : ℕ) → Means (schema_of_first (more 5 n)) list_moved
    (lists (schema_of_first (more 5 n)) moved_rows (moved_at n))
unfolding understood everything
moved_means n = record { is = refl; unlisted = refl; plain = (refl, refl) }

pub moved_lists : (n : ℕ) → ListText (schema_of_first (more 5 n)) moved_rows (moved_at n) list_moved
moved_lists n = record {
  means = moved_means n;
  ordered_as = λ id k v id′ k′ v′. name_number_order k k′;
  shows = λ id k v. refl;
}

published_means : (n : ℕ) → Means (schema_of_first (more 6 n)) list_published
    (lists (schema_of_first (more 6 n)) published_rows (published_at n))
unfolding understood everything
published_means n = record { is = refl; unlisted = refl; plain = (refl, refl) }

pub published_lists : (n : ℕ) → ListText (schema_of_first (more 6 n)) published_rows (published_at n) list_published
published_lists n = record {
  means = published_means n;
  ordered_as = λ id k v id′ k′ v′. name_number_order k k′;
  shows = λ id k v. refl;
}

request_means : (n : ℕ) → Means (schema_of_first (more 7 n)) list_request
    (lists (schema_of_first (more 7 n)) request_rows (request_at n))
unfolding understood everything
request_means n = record { is = refl; unlisted = refl; plain = (refl, refl) }

pub request_lists : (n : ℕ) → ListText (schema_of_first (more 7 n)) request_rows (request_at n) list_request
request_lists n = record {
  means = request_means n;
  ordered_as = λ id k v id′ k′ v′. name_number_order k k′;
  shows = λ id k v. refl;
}

part_means : (n : ℕ) → Means (schema_of_first (more 8 n)) list_part
    (lists (schema_of_first (more 8 n)) part_rows (part_at n))
unfolding understood everything
part_means n = record { is = refl; unlisted = refl; plain = (refl, refl) }

pub part_lists : (n : ℕ) → ListText (schema_of_first (more 8 n)) part_rows (part_at n) list_part
part_lists n = record {
  means = part_means n;
  ordered_as = λ id k v id′ k′ v′. name_number_order k k′;
  shows = λ id k v. refl;
}

-- a row with this name and number
abbrev pub test : List Term
test = op2 (Compare Eq Binary) (col 1 1) (col 0 0) ∷ op2 (Compare Eq Binary) (col 1 2) (col 0 1) ∷
    []

abbrev pub key_params : NameNumber → Row
key_params key = Text key.0 ∷ Int key.1 ∷ []

abbrev told_columns : List Term
told_columns = col 1 3 ∷ col 1 4 ∷ col 1 5 ∷ col 1 6 ∷ []

abbrev told_names : List (List ℕ)
told_names = codes "place" ∷ codes "hour" ∷ codes "command" ∷ codes "reply" ∷ []

pick_means : Means store_schema pick_request
    (Select (program_of (of_table request_rows.plain.tree test told_columns [])) told_names)
unfolding understood everything
pick_means = record { is = refl; unlisted = refl; plain = (refl, refl) }

pub request_picks : PickText store_schema request_rows request_facts pick_request key_params told
request_picks = record {
  test = test;
  project = told_columns;
  names = told_names;
  means = pick_means;
  by_key = λ id k key v. same_name_number k key;
  tells = λ id k key v. refl;
}
