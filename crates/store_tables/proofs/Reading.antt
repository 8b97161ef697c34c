-- From what a query shows to what a reading call promises.
use Rattle.std.proofs.Common.{◌≡◌, ◌∙◌, ◌++◌, ◌∷◌, ℕ, List, [], Some, Ok, Err, Result, IfOk, ap, arith, map, refl}
use Rattle.std.proofs.Common.{inl, inr, subst, suc, sym, zero}
use Rattle.std.proofs.lemmas.Bool.{cases_Bool, lt-ltb, ltb-true}
use Rattle.std.proofs.lemmas.List.{map-append}
use Rattle.std.specs.FinMap.{FinMap, empty, entries, len-empty, len-entries}
use Rattle.std.specs.declared.cmp.Ordering.{Ordering}
use Rattle.std.specs.Prelude.{◌+◌, ◌-◌, ◌<◌, ◌≤◌, All, IfErr, IsErr, None, OnOk, cond, false, nat_lt}
use Rattle.std.proofs.lemmas.Result.{IfErr-weaker}
use Rattle.sqlite_value.specs.Order.{Row}
use Rattle.sqlite.specs.declared.error.Error.{Error}
use Rattle.sqlite.specs.Listing.{understood}
use Rattle.sqlite.specs.Effect.{Database, Reads, ReadsFirst}
use Rattle.sqlite.specs.Given.{Advances, FailsToAdvance, HasBegun, HasGiven}
use Rattle.sqlite.specs.Held.{Held, state}
use Rattle.sqlite.specs.State.{State, HasCleanDisk, Begins, FailsToQuery, IsUnchanged, Shown, Survives}
use Rattle.sqlite.specs.State.{CommitsShowing}
use Rattle.sqlite.proofs.Callers.{IsPlain, begins_as, begun_plain, command_of, reads_as}
use Rattle.sqlite.proofs.Callers.{given_begin, unchanged_then}
use Rattle.sqlite.proofs.StateLemmas.{survives_then}
use Rattle.sqlite_trees.specs.declared.store.Store.{Ghosts}
use Rattle.sqlite_trees.specs.Tree.{Trees}
use Rattle.store_tables.specs.Tables.{schema_of_first, store_schema}
use Rattle.store_model.specs.Contents.{Contents}
use Rattle.store_tables.specs.Contents.{contents_of}
use Rattle.store_tables.specs.Entries.{Layout, map_of}
use Rattle.store_tables.specs.Inner.Shown.{Lists, shown_as}
use Rattle.store_tables.specs.Store.{HasMadeTables, ReadsContents, ReadsTables}
use Rattle.store_tables.specs.Store.{SeesStore, SeesTables, begun_contents}
use Rattle.store_tables.specs.Failing.{FailsForCause, is_no_text}
use Rattle.store_tables.proofs.Failing.{fails_late, query_fails, query_reads}
use Rattle.store_tables.proofs.TextRows.{of_last}
use Rattle.store_tables.proofs.Living.{lives_in}
use Rattle.store_tables.proofs.Plain.Facts.{Facts, Lives}
use Rattle.store_tables.proofs.Tables.Facts.{more}
use Rattle.store_tables.proofs.Plain.Queries.{ListText, lists_all, lists_first, nothing_left}
use Rattle.store_tables.proofs.Plain.Unchanged.{shown_unchanged, commits_nothing}

always : {A E P : Type 0} (r : Result A E) → P → OnOk r P
always (Ok x) p = p
always (Err e) p = tt

-- a reading that failed
pub reads_none : {A : Type 0} (c : Contents) (old new : State) → Survives old new (λ _. ⊥)
    → (result : Result A Error) (IsSo : Contents → A → Type 0) (e : Error) → result ≡ Err e
    → ReadsContents c old new result IsSo
reads_none c old new quiet result IsSo e failed = rw failed (record {
  answer = λ clean. tt;
  same = λ clean. tt;
  survives = quiet;
})

-- and one that is known to have failed
pub reads_failed : {A : Type 0} (c : Contents) (old new : State) → Survives old new (λ _. ⊥)
    → (result : Result A Error) (IsSo : Contents → A → Type 0) → IsErr result
    → ReadsContents c old new result IsSo
reads_failed c old new quiet (Ok x) IsSo failed = absurd (let no = failed in cc)
reads_failed c old new quiet (Err e) IsSo failed = record {
  answer = λ clean. tt;
  same = λ clean. tt;
  survives = quiet;
}

module _ (sql : List ℕ) (plain : IsPlain (understood store_schema sql)) (params : Row)
    (old new : State) (sees : SeesStore old) (survives : Survives old new (CommitsShowing sql params
    old)) where
  pub reading_kept : Survives old new (λ _. ⊥)
  reading_kept = commits_nothing store_schema sql params old new
      (λ clean. (lives_in old.now (sees clean)).schema_is) plain survives

  -- the query was answered, and `shown` are its rows
  pub reads_shown : {A : Type 0} (result : Result A Error) (IsSo : Contents → A
      → Type 0) (shown : List Row) → (HasCleanDisk new → Shown sql params old new shown)
      → (HasCleanDisk new → IfOk result (IsSo (contents_of old.now.trees)))
      → ReadsTables old new result IsSo
  reads_shown result IsSo shown ok answer = record {
    answer = answer;
    same = λ clean. always result (shown_unchanged store_schema sql params old new shown
        (lives_in old.now (sees (omega (arith, survives.clean, clean)))).schema_is plain
        (ok clean));
    survives = reading_kept;
  }

  -- the query failed
  pub reads_nothing : {A : Type 0} (result : Result A Error) (IsSo : Contents → A
      → Type 0) (e : Error) → result ≡ Err e → ReadsTables old new result IsSo
  reads_nothing result IsSo = reads_none _ old new reading_kept result IsSo

-- ---- a table that is listed whole

reads_all : (it : _) (db : Database) (rows : List Row) → IsPlain it
    → Reads (command_of it) db [] rows → IfOk it (λ k. Reads k.command db [] rows)
reads_all (Ok it) db rows plain h = h
reads_all (Err e) db rows plain h = absurd plain

command_reads : (it : _) (db : Database) (rows : List Row) → IsPlain it
    → IfOk it (λ k. Reads k.command db [] rows) → Reads (command_of it) db [] rows
command_reads (Ok it) db rows plain h = h
command_reads (Err e) db rows plain h = absurd plain

reads_front : (it : _) (db : Database) (rows : List Row) → IsPlain it
    → ReadsFirst (command_of it) db [] rows → IfOk it (λ k. ReadsFirst k.command db [] rows)
reads_front (Ok it) db rows plain h = h
reads_front (Err e) db rows plain h = absurd plain

command_begins : (it : _) (db : Database) (rows : List Row) → IsPlain it
    → IfOk it (λ k. ReadsFirst k.command db [] rows) → ReadsFirst (command_of it) db [] rows
command_begins (Ok it) db rows plain h = h
command_begins (Err e) db rows plain h = absurd plain

begun_lives : (made : ℕ) (db : Database) → HasMadeTables made db → Lives (schema_of_first made) db
begun_lives made db it = record { schema_is = it.schema; sound = it.sound; ordered = it.ordered }

-- what a text that lists the table of a layout reads where the first so many tables are made
pub lists_so : {K V : Type 0} (made : ℕ) (l : Layout K V) (f : Facts (schema_of_first made) l)
    (sql : List ℕ) (text : ListText (schema_of_first made) l f sql)
    (listed : Contents → List (K × V))
    → ((trees : Trees) → listed (begun_contents made trees)
    ≡ entries (map_of l (trees l.plain.tree)))
    → Lists made sql l listed
lists_so made l f sql text listed is = record {
  plain = text.means.plain;
  of_tables = text.means.unlisted;
  shows = λ db rows begun h. lists_all (schema_of_first made) l f sql text db rows
      (begun_lives made db begun) (command_reads _ db rows text.means.plain h)
      ∙ sym (is db.trees);
  begins = λ db rows begun h.
      let found = lists_first (schema_of_first made) l f sql text db rows
      (begun_lives made db begun) (command_begins _ db rows text.means.plain h) in
      (found.0, found.1 ∙ sym (is db.trees));
}

pub more_is : (k n : ℕ) → more k n ≡ k + n
more_is zero n = omega arith
more_is (suc k) n = omega (arith, more_is k n)

-- and so it is wherever so many tables are made
pub lists_past : {K V : Type 0} (k : ℕ) (sql : List ℕ) (l : Layout K V)
    (listed : Contents → List (K × V)) → ((n : ℕ) → Lists (more k n) sql l listed)
    → (made : ℕ) → k ≤ made → Lists made sql l listed
lists_past k sql l listed each made low = subst (λ m. Lists m sql l listed)
    (more_is k (made - k) ∙ omega (arith, low)) (each (made - k))

-- a table that is made lists what it contains
pub is_listed : {K V : Type 0} {R : K → K → Ordering} (at made : ℕ) (m : FinMap R V) → at < made
    → entries (cond (nat_lt at made) m empty) ≡ entries m
is_listed at made m low = rw (lt-ltb at made low) refl

-- a table that is not made yet lists nothing
pub not_listed : {K V : Type 0} {R : K → K → Ordering} (at made : ℕ) (m : FinMap R V) → made ≤ at
    → entries (cond (nat_lt at made) m empty) ≡ []
not_listed {V = V} {R = R} at made m low = elim (cases_Bool (nat_lt at made)) [
  | inl before ↦ absurd (omega (arith, ltb-true at made before, low))
  | inr late ↦ rw late (nothing_left (entries (empty {X = V} {R = R}))
      (sym (len-entries (empty {X = V} {R = R})) ∙ len-empty R V))
]

module _ {K V : Type 0} (made : ℕ) (sql : List ℕ) (l : Layout K V)
    (listed : Contents → List (K × V)) (it : Lists made sql l listed) (old now : State)
    (begun : HasMadeTables made old.now) (same : now.now ≡ old.now) (given : List Row) where
  still : HasMadeTables made now.now
  still = subst (HasMadeTables made) (sym same) begun

  -- what the query showed to its end are the entries of the table
  all_listed : (new : State) → Shown sql [] now new given
      → map (shown_as l) given ≡ listed (begun_contents made old.now.trees)
  all_listed new h = it.shows now.now given still (reads_all _ now.now given it.plain
      (reads_as sql [] now new (schema_of_first made) still.schema _ refl it.plain it.of_tables given
      h))
      ∙ ap (λ (d : Database). listed (begun_contents made d.trees)) same

  -- and what it showed so far are the first of them
  first_listed : Begins sql [] now given → (rest : List (K × V))
      × (map (shown_as l) given ++ rest ≡ listed (begun_contents made old.now.trees))
  first_listed h =
      let found = it.begins now.now given still (reads_front _ now.now given it.plain
      (begins_as sql [] now now (schema_of_first made) still.schema _ refl it.plain it.of_tables
      given h)) in
      (found.0, found.1 ∙ ap (λ (d : Database). listed (begun_contents made d.trees)) same)

-- ---- rows that are read as a query gives them

-- its beginning commits nothing
pub listing_kept : (made : ℕ) (sql : List ℕ) (old new : State) → SeesTables made old
    → IsPlain (understood (schema_of_first made) sql)
    → Survives old new (CommitsShowing sql [] old) → Survives old new (λ _. ⊥)
listing_kept made sql old new sees plain = commits_nothing (schema_of_first made) sql [] old new
    (λ clean. (sees clean).begun.schema) plain

abbrev the_answer : {A : Type 0} → A → Result A Error
the_answer x = Ok x

-- a table that is not there has no row, and nothing is asked for it
pub listing_none : {A X : Type 0} (c : Contents) (s : State) (made : ℕ) (rows_of : A → List X)
    (listed : Contents → List X) (rows : A) → SeesTables made s → rows_of rows ≡ []
    → listed c ≡ [] → ReadsContents c s s (the_answer rows) (λ c rows. rows_of rows ≡ listed c)
listing_none c s made rows_of listed rows sees none missing = record {
  answer = λ clean. none ∙ sym missing;
  same = λ clean. let is_open = (sees clean).is_open in (
    record {
      was_open = is_open;
      is_open = is_open;
      now_is = refl;
      committed_is = refl;
      mode = refl;
    },
    record { changes = refl; last_rowid = refl },
    refl,
  );
  survives = record {
    clean = omega arith;
    shield = λ h. h;
    counts = omega arith;
    limit = refl;
    closes = λ clean h. inl h;
    crash = λ clean db h. inl h;
  };
}

module _ {S : Type 0} (g : Ghosts S) {K V : Type 0} (made : ℕ) (l : Layout K V)
    (listed : Contents → List (K × V)) (old : Held S) where
  -- the rows that a statement gave so far which lists the table: they are read, and nothing changed
  pub record HasListed (now : Held S) (read : List (K × V)) : Type 0 where
    pub sql : List ℕ
    pub is : Lists made sql l listed
    pub given : List Row
    pub gave : HasGiven g sql [] now given
    pub same : IsUnchanged (state g old) (state g now)
    pub read_as : read ≡ map (shown_as l) given

  -- none is, at its beginning
  pub listing_begins : (sql : List ℕ) → Lists made sql l listed → (now : Held S)
      → HasMadeTables made (state g old).now → HasBegun g sql [] old now → HasListed now []
  listing_begins sql is now begun started =
      let it = begun_plain g sql [] old now (subst (λ s. IsPlain (understood s sql))
      (sym begun.schema) is.plain) started in
      record { sql = sql; is = is; given = []; gave = it.0; same = it.1; read_as = refl }

  -- one more is
  pub listing_goes_on : (now new : Held S) (read all : List (K × V)) (row : Row) (x : K × V)
      → HasListed now read → Advances g now new (Some row)
      → IsUnchanged (state g now) (state g new) → shown_as l row ≡ x → all ≡ read ++ x ∷ []
      → HasListed new all
  listing_goes_on now new read all row x it moved same is next = record {
    sql = it.sql;
    is = it.is;
    given = it.given ++ row ∷ [];
    gave = moved it.sql [] it.given it.gave;
    same = unchanged_then _ _ _ it.same same;
    read_as = next ∙ ap (λ xs. xs ++ x ∷ []) it.read_as
        ∙ ap (λ y. map (shown_as l) it.given ++ y ∷ []) (sym is)
        ∙ sym (map-append (shown_as l) it.given (row ∷ []));
  }

-- what is known of them
module _ {S : Type 0} (g : Ghosts S) {K V : Type 0} (made : ℕ) (l : Layout K V)
    (listed : Contents → List (K × V)) (old : Held S) (sees : SeesTables made (state g old))
    (now new : Held S) (was : Survives (state g old) (state g now) (λ _. ⊥))
    (moved : Survives (state g now) (state g new) (λ _. ⊥)) (read : List (K × V))
    (so_far : HasCleanDisk (state g now) → HasListed g made l listed old now read) where
  early : HasCleanDisk (state g new) → HasCleanDisk (state g now)
  early clean = omega (arith, moved.clean, clean)

  first_clean : HasCleanDisk (state g new) → HasCleanDisk (state g old)
  first_clean clean = omega (arith, was.clean, moved.clean, clean)

  both : Survives (state g old) (state g new) (λ _. ⊥)
  both = survives_then (state g old) (state g now) (state g new) (λ _. ⊥) (λ _. ⊥) (λ _. ⊥)
      (λ clean db none. absurd none) (λ clean db none. absurd none) was moved

  -- at its end they are the entries of the table
  pub listing_ends : {A : Type 0} (rows_of : A → List (K × V)) (rows : A)
      → rows_of rows ≡ read → (HasCleanDisk (state g new) → Advances g now new None)
      → (HasCleanDisk (state g new) → IsUnchanged (state g now) (state g new))
      → ReadsContents (begun_contents made (state g old).now.trees) (state g old) (state g new)
      (the_answer rows) (λ c rows. rows_of rows ≡ listed c)
  listing_ends rows_of rows same ended kept = record {
    answer = λ clean.
        let it = so_far (early clean) in
        same ∙ it.read_as ∙ all_listed made it.sql l listed it.is (state g old) (state g now)
        (sees (first_clean clean)).begun it.same.0.now_is it.given (state g new)
        (ended clean it.sql [] it.given it.gave);
    same = λ clean. unchanged_then _ _ _ (so_far (early clean)).same (kept clean);
    survives = both;
  }

  fails_to_show : {A : Type 0} (result : Result A Error)
      → (HasCleanDisk (state g new) → IfErr result (FailsToAdvance g now new))
      → (clean : HasCleanDisk (state g new))
      → IfErr result (FailsToQuery (so_far (early clean)).sql [] (state g now) (state g new))
  fails_to_show result err clean =
      let it = so_far (early clean) in
      IfErr-weaker result _ _ (λ e told. told it.sql [] it.given it.gave) (err clean)

  -- a failure has its cause
  pub listing_fails : {A : Type 0} (result : Result A Error)
      → (HasCleanDisk (state g new) → IfErr result (FailsToAdvance g now new))
      → FailsForCause (state g old) (state g new) result
  listing_fails result err = fails_late (state g old) (state g now) (state g new) (λ _. ⊥) (λ _. ⊥)
      result was moved (λ clean. query_fails _ [] (state g now) (state g new) result
      (λ _. fails_to_show result err clean) clean)

  -- and is not told of a text
  pub listing_reads : {A : Type 0} (result : Result A Error)
      → (HasCleanDisk (state g new) → IfErr result (FailsToAdvance g now new))
      → HasCleanDisk (state g new) → IfErr result (λ e. is_no_text e ≡ false)
  listing_reads result err clean = query_reads _ [] (state g now) (state g new) result
      (λ _. fails_to_show result err clean) clean

  -- a row that is given is that of an entry
  pub listing_gives : (P : K × V → Type 0) (row : Row) → Advances g now new (Some row)
      → HasCleanDisk (state g new) → IsUnchanged (state g now) (state g new)
      → All P (listed (begun_contents made (state g old).now.trees)) → P (shown_as l row)
  listing_gives P row moved_on clean kept all =
      let it = so_far (early clean) in
      let gave = moved_on it.sql [] it.given it.gave in
      let same = unchanged_then _ _ _ it.same kept in
      let first = first_listed made it.sql l listed it.is (state g old) (state g new)
      (sees (first_clean clean)).begun same.0.now_is (it.given ++ row ∷ [])
      (given_begin g it.sql [] new (it.given ++ row ∷ []) gave) in
      of_last P (shown_as l) it.given row first.0 _ first.1 all
