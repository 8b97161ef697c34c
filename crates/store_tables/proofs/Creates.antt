-- What the texts that make the tables mean, and what is then there.
use Rattle.std.proofs.Common.{◌≡◌, ◌∙◌, ℕ, zero, suc, ◌+◌, ◌<◌, List, [], ◌∷◌, ◌++◌, Some, Ok, map}
use Rattle.std.proofs.Common.{take, get_or, slice_get, nat_lt, cond, inl, inr, refl, ap, sym, arith}
use Rattle.std.specs.FinMap.{empty}
use Rattle.std.specs.List.{AllByRecursion, range_with_len}
use Rattle.std.proofs.lemmas.Bool.{cases_Bool, lt-ltb, ltb-true, ltb-false}
use Rattle.std.proofs.lemmas.List.{get_or-map, map_more}
use Rattle.std.proofs.lemmas.List.FromFn.{get_or-range_with_len}
use Rattle.std.proofs.lemmas.Option.{get_or_from_slice_get, slice_get-get_or}
use Rattle.sqlite_rules.specs.Lists.{Has}
use Rattle.sqlite_rules.proofs.ListLemmas.{all_has, has_got}
use Rattle.sqlite_tied.specs.Compute.{everything}
use Rattle.sqlite.specs.Effect.{Database}
use Rattle.sqlite.specs.Listing.{understood}
use Rattle.sqlite.specs.Table.{Table}
use Rattle.sqlite.specs.State.{State, Executes}
use Rattle.store_tables.specs.Plain.{Plain, table_of}
use Rattle.store_tables.specs.Tables.{all_tables, part, schema_of_first, store_schema}
use Rattle.store_tables.specs.Entries.{Layout, map_of, meta_rows, ring_rows, device_rows, seat_rows}
use Rattle.store_tables.specs.Entries.{moved_rows, published_rows, request_rows, part_rows}
use Rattle.store_tables.specs.Store.{HasMadeTables, begun_contents}
use Rattle.store_tables.specs.Inner.Texts.{create_text}
use Rattle.store_tables.proofs.Plain.Creates.{CreateText, IsMade, creates_table, made_ordered}
use Rattle.store_tables.proofs.Plain.Facts.{Facts}
use Rattle.store_tables.proofs.Plain.Maps.{no_entries}
use Rattle.store_tables.proofs.Tables.Facts.{meta_facts, ring_facts, device_facts, seat_facts}
use Rattle.store_tables.proofs.Tables.Facts.{moved_facts, published_facts, request_facts}
use Rattle.store_tables.proofs.Tables.Facts.{part_facts}

-- the table that is made after the first so many
abbrev next_table : ℕ → Plain
next_table made = get_or all_tables made part

-- its text makes it
abbrev MakesNext : ℕ → Type 0
MakesNext made = CreateText (schema_of_first made) (schema_of_first (made + 1)) (create_text made)
    (record (table_of (next_table made)) { tree = 0 }) (next_table made).tree

makes_meta : MakesNext 0
unfolding understood everything
makes_meta = record {
  is = refl;
  whole = refl;
  defined = refl;
  plain = (refl, refl);
  made = refl;
  unlacking = refl;
  next = refl;
}

makes_ring : MakesNext 1
unfolding understood everything
makes_ring = record {
  is = refl;
  whole = refl;
  defined = refl;
  plain = (refl, refl);
  made = refl;
  unlacking = refl;
  next = refl;
}

makes_device : MakesNext 2
unfolding understood everything
makes_device = record {
  is = refl;
  whole = refl;
  defined = refl;
  plain = (refl, refl);
  made = refl;
  unlacking = refl;
  next = refl;
}

makes_seat : MakesNext 3
unfolding understood everything
makes_seat = record {
  is = refl;
  whole = refl;
  defined = refl;
  plain = (refl, refl);
  made = refl;
  unlacking = refl;
  next = refl;
}

makes_moved : MakesNext 4
unfolding understood everything
makes_moved = record {
  is = refl;
  whole = refl;
  defined = refl;
  plain = (refl, refl);
  made = refl;
  unlacking = refl;
  next = refl;
}

makes_published : MakesNext 5
unfolding understood everything
makes_published = record {
  is = refl;
  whole = refl;
  defined = refl;
  plain = (refl, refl);
  made = refl;
  unlacking = refl;
  next = refl;
}

makes_request : MakesNext 6
unfolding understood everything
makes_request = record {
  is = refl;
  whole = refl;
  defined = refl;
  plain = (refl, refl);
  made = refl;
  unlacking = refl;
  next = refl;
}

makes_part : MakesNext 7
unfolding understood everything
makes_part = record {
  is = refl;
  whole = refl;
  defined = refl;
  plain = (refl, refl);
  made = refl;
  unlacking = refl;
  next = refl;
}

all_make : AllByRecursion MakesNext (range_with_len 0 8)
all_make = (
  makes_meta,
  (
    makes_ring,
    (
      makes_device,
      (
        makes_seat,
        (
          makes_moved,
          (
            makes_published,
            (
              makes_request,
              (makes_part, tt),
            ),
          ),
        ),
      ),
    ),
  ),
)

makes_next : (made : ℕ) → made < 8 → MakesNext made
makes_next made low =
    let all = range_with_len 0 8 in
    let same : 0 + made ≡ made = omega arith in
    all_has MakesNext all made all_make (has_got all made made (slice_get-get_or all made 0 low
    ∙ ap Some (get_or-range_with_len 0 8 made 0 low ∙ same)))

-- one table more is made
one_more : (made : ℕ) → made < 8 → (schema_of_first (made + 1)).tables
    ≡ (schema_of_first made).tables ++ table_of (next_table made) ∷ []
one_more made low = map_more table_of all_tables made part low

-- what stands at a place is among the first so many, where these are more
has_taken : {X Y : Type 0} (f : X → Y) (xs : List X) (at n : ℕ) (y : Y)
    → slice_get (map f xs) at ≡ Some y → at < n → Has (map f (take n xs)) y
has_taken f [] at n y is low = cc
has_taken f (x ∷ xs) at zero y is low = absurd (omega (arith, low))
has_taken f (x ∷ xs) zero (suc n) y is low = inl (let here : f x ≡ y = cc in sym here)
has_taken f (x ∷ xs) (suc at) (suc n) y is low = inr (has_taken f xs at n y is (omega arith))

-- a table that was made before contains what it did, the one that is made is empty, and the
-- others stand for nothing
module _ (made : ℕ) (low : made < 8) (old new : Database) (it : IsMade old new
    (schema_of_first made) (schema_of_first (made + 1)) (next_table made).tree) where
  made_so : (at : ℕ) {K V : Type 0} (l : Layout K V) → Facts store_schema l
      → slice_get store_schema.tables at ≡ Some (table_of l.plain)
      → cond (nat_lt at (made + 1)) (map_of l (new.trees l.plain.tree)) empty
      ≡ cond (nat_lt at made) (map_of l (old.trees l.plain.tree)) empty
  made_so at l f placed = elim (cases_Bool (nat_lt at made)) [
    | inl before ↦ rw (before, lt-ltb at (made + 1) (omega (arith, ltb-true at made before)))
        (ap (map_of l) (all_has _ (schema_of_first made).tables (table_of l.plain) it.others
        (has_taken table_of all_tables at made (table_of l.plain) placed
        (ltb-true at made before))))
    | inr late ↦ elim (cases_Bool (nat_lt at (made + 1))) [
      | inl now ↦
          let same : made ≡ at = omega (arith, ltb-true at (made + 1) now, ltb-false at made late)
          in
          let table : table_of (next_table made) ≡ table_of l.plain =
          sym (get_or-map table_of all_tables made part (table_of part) low)
          ∙ ap (λ n. get_or (map table_of all_tables) n (table_of part)) same
          ∙ get_or_from_slice_get (map table_of all_tables) at (table_of l.plain)
          (table_of part) placed in
          rw (now, late) (ap (map_of l) (ap (λ (t : Table). new.trees t.tree) (sym table)
          ∙ it.empty) ∙ no_entries f.total f.exact)
      | inr later ↦ rw (late, later) refl
    ]
  ]

  contents_kept : begun_contents (made + 1) new.trees ≡ begun_contents made old.trees
  contents_kept = λ j. record {
    meta = made_so 0 meta_rows meta_facts refl j;
    rings = made_so 1 ring_rows ring_facts refl j;
    devices = made_so 2 device_rows device_facts refl j;
    seats = made_so 3 seat_rows seat_facts refl j;
    moved = made_so 4 moved_rows moved_facts refl j;
    published = made_so 5 published_rows published_facts refl j;
    requests = made_so 6 request_rows request_facts refl j;
    parts = made_so 7 part_rows part_facts refl j;
  }

-- a text that makes a table keeps what the tables before it contain, and the new one is empty
pub creates_next : (made : ℕ) → made < 8 → (old new : State) (count : ℕ)
    → HasMadeTables made old.now → Executes (create_text made) [] old new (Ok count)
    → HasMadeTables (made + 1) new.now × (begun_contents (made + 1) new.now.trees
    ≡ begun_contents made old.now.trees)
creates_next made low old new count is h =
    let it = creates_table (schema_of_first made) (schema_of_first (made + 1)) (create_text made) _
    (next_table made).tree (makes_next made low) old new count is.schema h in (
      record {
        schema = it.schema_is;
        sound = it.sound;
        ordered = made_ordered old.now new.now (schema_of_first made) (schema_of_first (made + 1))
            (table_of (next_table made)) is.ordered (one_more made low) it;
      },
      contents_kept made low old.now new.now it,
    )
