-- What the statements that write mean.
use Rattle.std.proofs.Common.{◌≡◌, ◌==◌, ℤ, inl, inr, length, List, [], ◌∷◌, true, refl}
use Rattle.std.specs.Ordering.{eq_by_cmp}
use Rattle.std.proofs.lemmas.Bool.{cases_Bool}
use Rattle.sqlite_value.specs.Order.{Row}
use Rattle.sqlite_value.specs.Keys.{first_key}
use Rattle.sqlite_value.specs.declared.keys.Collation.TheVariants.{Binary}
use Rattle.sqlite_sql.specs.declared.ops.BinaryOp.TheVariants.{Compare}
use Rattle.sqlite_sql.specs.declared.ops.CompareOp.TheVariants.{Eq}
use Rattle.sqlite.specs.Term.{Term, col, op2}
use Rattle.sqlite.specs.Command.TheVariants.{Delete, Insert, InsertOr, Update}
use Rattle.sqlite_schema.specs.declared.command.Conflict.TheVariants.{Replace}
use Rattle.sqlite.specs.Listing.{understood}
use Rattle.sqlite_tied.specs.Compute.{everything}
use Rattle.store_model.specs.Entries.{NameNumber, Device}
use Rattle.store_tables.specs.Tables.{store_schema}
use Rattle.store_tables.specs.Entries.{meta_rows, ring_rows, device_rows, seat_rows, moved_rows}
use Rattle.store_tables.specs.Entries.{published_rows, request_rows, part_rows}
use Rattle.store_tables.specs.Inner.Rows.{table_row}
use Rattle.store_tables.specs.Inner.Texts.{add_part, clear_moved, clear_seat, drop_device}
use Rattle.store_tables.specs.Inner.Texts.{put_device, put_meta, put_published, put_request}
use Rattle.store_tables.specs.Inner.Texts.{put_ring, set_meta, set_part, set_ring}
use Rattle.store_tables.proofs.Plain.Adds.{AddText, given_row}
use Rattle.store_tables.proofs.Plain.Drops.{DropText}
use Rattle.store_tables.proofs.Plain.Puts.{Clashes, PutText}
use Rattle.store_tables.proofs.Plain.Queries.{Means, program_of, of_table, passes}
use Rattle.store_tables.proofs.Plain.Updates.{SetText}
use Rattle.store_tables.proofs.Plain.Values.{equal_ints}
use Rattle.store_tables.proofs.Tables.Keys.{same_name, same_name_number, same_number}
use Rattle.store_tables.proofs.Tables.Facts.{device_facts, moved_facts, seat_facts}
use Rattle.store_tables.proofs.Tables.Lists.{key_params, test}
use Rattle.store_tables.proofs.Ties.{or_false}

-- a row of which the first column is the parameter
abbrev first : List Term
first = op2 (Compare Eq Binary) (col 1 1) (col 0 0) ∷ []

put_meta_means : Means store_schema put_meta (InsertOr 0 Replace (given_row meta_rows.plain) [])
unfolding understood everything
put_meta_means = record { is = refl; unlisted = refl; plain = (refl, refl) }

meta_clash : Clashes store_schema meta_rows
unfolding first_key
meta_clash id new k key v value free = rw (equal_ints id new, free, same_number k key) (or_false _)

pub meta_puts : PutText store_schema meta_rows put_meta
meta_puts = record {
  at = 0;
  placed = refl;
  quiet = λ _. refl;
  means = put_meta_means;
  one = λ key value. refl;
  clash = meta_clash;
}

abbrev meta_set : List Term
meta_set = col 1 0 ∷ col 1 0 ∷ col 1 1 ∷ col 0 1 ∷ col 0 2 ∷ []

set_meta_means : Means store_schema set_meta
    (Update 0 (program_of (of_table meta_rows.plain.tree first meta_set [])))
unfolding understood everything
set_meta_means = record { is = refl; unlisted = refl; plain = (refl, refl) }

pub meta_sets : SetText store_schema meta_rows set_meta
meta_sets = record {
  at = 0;
  test = first;
  project = meta_set;
  placed = refl;
  still = λ olds news. elim (cases_Bool (length news == 0)) [
    | inl none ↦ rw none refl
    | inr some ↦ rw some refl
  ];
  means = set_meta_means;
  by_key = λ id k key v value. same_number k key;
  numbers = λ key value r. refl;
  over = λ id k key v value. refl;
}

put_ring_means : Means store_schema put_ring (InsertOr 1 Replace (given_row ring_rows.plain) [])
unfolding understood everything
put_ring_means = record { is = refl; unlisted = refl; plain = (refl, refl) }

ring_clash : Clashes store_schema ring_rows
unfolding first_key
ring_clash id new k key v value free = rw (equal_ints id new, free, same_name k key) (or_false _)

pub ring_puts : PutText store_schema ring_rows put_ring
ring_puts = record {
  at = 1;
  placed = refl;
  quiet = λ _. refl;
  means = put_ring_means;
  one = λ key value. refl;
  clash = ring_clash;
}

abbrev ring_set : List Term
ring_set = col 1 0 ∷ col 1 0 ∷ col 1 1 ∷ col 0 1 ∷ col 0 2 ∷ col 0 3 ∷ col 0 4 ∷ col 0 5 ∷ []

set_ring_means : Means store_schema set_ring
    (Update 1 (program_of (of_table ring_rows.plain.tree first ring_set [])))
unfolding understood everything
set_ring_means = record { is = refl; unlisted = refl; plain = (refl, refl) }

pub ring_sets : SetText store_schema ring_rows set_ring
ring_sets = record {
  at = 1;
  test = first;
  project = ring_set;
  placed = refl;
  still = λ olds news. elim (cases_Bool (length news == 0)) [
    | inl none ↦ rw none refl
    | inr some ↦ rw some refl
  ];
  means = set_ring_means;
  by_key = λ id k key v value. same_name k key;
  numbers = λ key value r. refl;
  over = λ id k key v value. refl;
}

put_device_means : Means store_schema put_device (Insert 2 (given_row device_rows.plain))
unfolding understood everything
put_device_means = record { is = refl; unlisted = refl; plain = (refl, refl) }

pub device_adds : AddText store_schema device_rows put_device
device_adds = record {
  at = 2;
  placed = refl;
  means = put_device_means;
  one = λ key value. refl;
}

drop_device_means : Means store_schema drop_device
    (Delete 2 (program_of (of_table device_rows.plain.tree test (col 1 0 ∷ []) [])))
unfolding understood everything
drop_device_means = record { is = refl; unlisted = refl; plain = (refl, refl) }

pub device_drops : DropText store_schema device_rows device_facts drop_device
device_drops = record {
  at = 2;
  test = test;
  placed = refl;
  quiet = λ _. refl;
  means = drop_device_means;
  numbers = λ params r. refl;
}

pub by_key : (id : ℤ) (k key : NameNumber) (v : Device)
    → passes device_drops.test (key_params key) (table_row device_rows id k v)
    ≡ eq_by_cmp device_rows.cmp k key
unfolding device_drops
by_key id k key v = same_name_number k key

clear_seat_means : Means store_schema clear_seat
    (Delete 3 (program_of (of_table seat_rows.plain.tree [] (col 1 0 ∷ []) [])))
unfolding understood everything
clear_seat_means = record { is = refl; unlisted = refl; plain = (refl, refl) }

pub seat_clears : DropText store_schema seat_rows seat_facts clear_seat
seat_clears = record {
  at = 3;
  test = [];
  placed = refl;
  quiet = λ _. refl;
  means = clear_seat_means;
  numbers = λ params r. refl;
}

pub all_seats_pass : (r : Row) → passes seat_clears.test [] r ≡ true
unfolding seat_clears
all_seats_pass r = refl

clear_moved_means : Means store_schema clear_moved
    (Delete 4 (program_of (of_table moved_rows.plain.tree [] (col 1 0 ∷ []) [])))
unfolding understood everything
clear_moved_means = record { is = refl; unlisted = refl; plain = (refl, refl) }

pub moved_clears : DropText store_schema moved_rows moved_facts clear_moved
moved_clears = record {
  at = 4;
  test = [];
  placed = refl;
  quiet = λ _. refl;
  means = clear_moved_means;
  numbers = λ params r. refl;
}

pub all_moved_pass : (r : Row) → passes moved_clears.test [] r ≡ true
unfolding moved_clears
all_moved_pass r = refl

put_published_means : Means store_schema put_published
    (InsertOr 5 Replace (given_row published_rows.plain) [])
unfolding understood everything
put_published_means = record { is = refl; unlisted = refl; plain = (refl, refl) }

published_clash : Clashes store_schema published_rows
unfolding first_key
published_clash id new k key v value free =
    rw (equal_ints id new, free, same_name_number k key) (or_false _)

pub published_puts : PutText store_schema published_rows put_published
published_puts = record {
  at = 5;
  placed = refl;
  quiet = λ _. refl;
  means = put_published_means;
  one = λ key value. refl;
  clash = published_clash;
}

put_request_means : Means store_schema put_request (Insert 6 (given_row request_rows.plain))
unfolding understood everything
put_request_means = record { is = refl; unlisted = refl; plain = (refl, refl) }

pub request_adds : AddText store_schema request_rows put_request
request_adds = record {
  at = 6;
  placed = refl;
  means = put_request_means;
  one = λ key value. refl;
}

add_part_means : Means store_schema add_part (Insert 7 (given_row part_rows.plain))
unfolding understood everything
add_part_means = record { is = refl; unlisted = refl; plain = (refl, refl) }

pub part_adds : AddText store_schema part_rows add_part
part_adds = record {
  at = 7;
  placed = refl;
  means = add_part_means;
  one = λ key value. refl;
}

abbrev part_set : List Term
part_set = col 1 0 ∷ col 1 0 ∷ col 1 1 ∷ col 1 2 ∷ col 0 2 ∷ col 0 3 ∷ []

set_part_means : Means store_schema set_part
    (Update 7 (program_of (of_table part_rows.plain.tree test part_set [])))
unfolding understood everything
set_part_means = record { is = refl; unlisted = refl; plain = (refl, refl) }

pub part_sets : SetText store_schema part_rows set_part
part_sets = record {
  at = 7;
  test = test;
  project = part_set;
  placed = refl;
  still = λ olds news. elim (cases_Bool (length news == 0)) [
    | inl none ↦ rw none refl
    | inr some ↦ rw some refl
  ];
  means = set_part_means;
  by_key = λ id k key v value. same_name_number k key;
  numbers = λ key value r. refl;
  over = λ id k key v value. refl;
}
