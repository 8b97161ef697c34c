-- Queries of one table: all its rows in order, and the rows of a key.
use Rattle.std.proofs.Common.{◌≡◌, inl, inr, ℕ, ℤ, pos, negsuc, Bool, false, if◌then◌else◌, List}
use Rattle.std.proofs.Common.{[], ◌∷◌, ◌++◌, map, filter, length, slice_get, option_map, Some, None, refl}
use Rattle.std.proofs.Common.{sym, ap, subst, subst₂, ◌∙◌, arith}
use Rattle.std.specs.List.{flat_map, list_all, range_with_len}
use Rattle.std.specs.List.Sorted.{IsPermutation, IsSorted}
use Rattle.std.specs.Ordering.{eq_by_cmp}
use Rattle.std.specs.FinMap.{get, find, get-from_entries, entries}
use Rattle.std.proofs.lemmas.Bool.{cases_Bool}
use Rattle.std.proofs.lemmas.List.{map-append}
use Rattle.std.proofs.lemmas.Cmp.{eq_by_cmp_equiv}
use Rattle.std.proofs.lemmas.List.Sorted.{IsPermutation-map, IsPermutation-sym, length_permutation}
use Rattle.sqlite_value.specs.declared.value.Value.TheVariants.{Null, Int}
use Rattle.sqlite_value.specs.Order.{Row}
use Rattle.sqlite_trees.specs.Tree.{Trees}
use Rattle.sqlite_trees.proofs.ListLemmas.{map-map}
use Rattle.sqlite_rules.specs.Lists.{Has}
use Rattle.sqlite_rules.proofs.ListLemmas.{has_filtered, has_kept}
use Rattle.sqlite_rules.proofs.ProbeLemmas.{has_mapped, mapped_has}
use Rattle.sqlite_sql.specs.Query.{IsAnswer, Output, output, output_cmp}
use Rattle.sqlite_sql.specs.Term.{Env, Term, holds}
use Rattle.sqlite.specs.Term.{col, lit}
use Rattle.sqlite.specs.Query.{Query, inner, end}
use Rattle.sqlite_schema.specs.declared.command.Command.{Command}
use Rattle.sqlite_schema.specs.declared.program.Program.{Program}
use Rattle.sqlite.specs.Command.TheVariants.{Select}
use Rattle.sqlite.specs.Effect.{Database, Reads, ReadsFirst}
use Rattle.sqlite.specs.Listing.{understood, reads_listing}
use Rattle.sqlite.specs.Program.{overlay}
use Rattle.sqlite.specs.State.{State, Shown}
use Rattle.sqlite.proofs.Callers.{IsPlain, command_of, reads_as}
use Rattle.sqlite_schema.specs.declared.schema.Schema.{Schema}
use Rattle.sqlite_value.specs.declared.keys.Collation.TheVariants.{Binary}
use Rattle.sqlite_value.specs.declared.keys.Key.{Key}
use Rattle.sqlite_value.specs.Keys.{ascending}
use Rattle.store_tables.specs.Plain.{PlainColumn}
use Rattle.store_tables.specs.Entries.{Layout, map_of}
use Rattle.store_tables.specs.Inner.Rows.{table_row}
use Rattle.store_model.proofs.Keys.{tied}
use Rattle.store_tables.proofs.Plain.Maps.{found_at, missing_at}
use Rattle.store_model.proofs.Permuted.{entries_are, keys_stay}
use Rattle.store_tables.proofs.Plain.Ordered.{moved, rises, rows_distinct}
use Rattle.store_tables.proofs.Plain.Facts.{Facts, AreRows, Lives, rows_in, key_is, entry_is}

-- a query of one table without LIMIT
abbrev pub of_table : ℕ → List Term → List Term → List (Term × Key) → Query
of_table tree filter project order = record {
  from = inner tree end;
  filter = filter;
  group = None;
  project = project;
  distinct = false;
  collations = [];
  order = order;
  limit = lit (Int (negsuc 0));
  offset = lit (Int (pos 0));
}

-- a query as a program
abbrev pub program_of : Query → Program
program_of q = record { lets = []; body = q }

-- the text is this command, reads no listing of the schema, and has no parameters of its own
pub record Means (schema : Schema) (sql : List ℕ) (command : Command) : Type 0 where
  pub is : command_of (understood schema sql) ≡ command
  pub unlisted : reads_listing schema sql ≡ false
  pub plain : IsPlain (understood schema sql)

pub each : {A B : Type 0} (f : A → B) (xs : List A) → flat_map (λ x. f x ∷ []) xs ≡ map f xs
each f [] = refl
each f (x ∷ xs) = ap (λ ys. f x ∷ ys) (each f xs)

pub picked : {A B : Type 0} (p : A → Bool) (f : A → B) (xs : List A)
    → flat_map (λ x. if p x then f x ∷ [] else []) xs ≡ map f (filter p xs)
picked p f [] = refl
picked p f (x ∷ xs) = elim (cases_Bool (p x)) [
  | inl passes ↦ rw passes (ap (λ ys. f x ∷ ys) (picked p f xs))
  | inr fails ↦ rw fails (picked p f xs)
]

pub nothing_left : {A : Type 0} (xs : List A) → length xs ≡ 0 → xs ≡ []
nothing_left [] h = refl
nothing_left (x ∷ xs) h = absurd (omega arith)

-- the parameters, and a row
abbrev pub env_of : Row → Row → Env
env_of params r = params ∷ r ∷ []

-- ---- the rows that pass a test

abbrev pub passes : List Term → Row → Row → Bool
passes test params r = list_all (holds (env_of params r)) test

-- an answer with no order is what the query shows of the rows that pass
pub answer_picks : (tree : ℕ) (test project : List Term) (db : Trees) (params : Row)
    (shown : List Row) → IsAnswer (of_table tree test project []) db params shown
    → IsPermutation (map (λ r. (output (of_table tree test project []) (env_of params r)).1)
    (filter (passes test params) (db tree))) shown
answer_picks tree test project db params shown a =
    let q = of_table tree test project [] in
    let rows = filter (passes test params) (db tree) in
    let staged : a.staged ≡ map (env_of params) rows = a.grouped ∙ picked (passes test params)
    (env_of params) (db tree) in
    let all : map (λ (x : Output). x.1) a.kept ≡ map (λ r. (output q (env_of params r)).1) rows =
    ap (map (λ (x : Output). x.1)) (a.distinct ∙ ap (map (output q)) staged ∙ map-map (output q)
    (env_of params) rows)
    ∙ map-map (λ (x : Output). x.1) (λ r. output q (env_of params r)) rows in
    subst₂ (λ xs ys. IsPermutation xs ys) all (sym a.shown) (IsPermutation-map (λ (x : Output). x.1)
    a.kept a.ordered a.same)

module _ (schema : Schema) {K V : Type 0} (l : Layout K V) (f : Facts schema l) where
  -- the text shows what is told of the entry with a key
  pub record PickText (sql : List ℕ) (params : K → Row) (told : Row → V) : Type 0 where
    pub test : List Term
    pub project : List Term
    pub names : List (List ℕ)
    pub means : Means schema sql (Select (program_of (of_table l.plain.tree test project [])) names)
    pub by_key : (id : ℤ) (k key : K) (v : V) → passes test (params key) (table_row l id k v)
        ≡ eq_by_cmp l.cmp k key
    pub tells : (id : ℤ) (k key : K) (v : V)
        → told (output (of_table l.plain.tree test project [])
        (env_of (params key) (table_row l id k v))).1 ≡ v

  module _ (test : List Term) (params : K → Row) (by_key : (id : ℤ) (k key : K) (v : V) →
      passes test (params key) (table_row l id k v) ≡ eq_by_cmp l.cmp k key) where
    pub row_by_key : (rows : List Row) → AreRows l rows → (key : K) (r : Row) → Has rows r
        → passes test (params key) r ≡ eq_by_cmp l.cmp (l.entry r).0 key
    row_by_key rows are key r h =
        let t = are.typed r h in
        ap (passes test (params key)) t.3 ∙ by_key t.0 t.1 key t.2 ∙ ap (λ k. eq_by_cmp l.cmp k key)
        (sym (key_is schema l f r t))

  module _ (sql : List ℕ) (params : K → Row) (told : Row → V) (text : PickText sql params told)
    where
      abbrev out : K → Row → Row
      out key r = (output (of_table l.plain.tree text.test text.project [])
          (env_of (params key) r)).1

      answer_is : (rows : List Row) (are : AreRows l rows) (key : K) (shown : List Row)
          → IsPermutation (map (out key) (filter (passes text.test (params key)) rows)) shown
          → option_map told (slice_get shown 0) ≡ get (map_of l rows) key
      answer_is rows are key [] same =
          let picks = passes text.test (params key) in
          let none : map (out key) (filter picks rows) ≡ [] =
          nothing_left _ (sym (length_permutation (map (out key) (filter picks rows)) [] same)) in
          sym (get-from_entries f.total (map l.entry rows) key ∙ missing_at f.total f.exact l.entry
          rows key (λ x h.
          elim (cases_Bool (picks x)) [
            | inl passed ↦ absurd (subst (λ xs. Has xs (out key x)) none
                (mapped_has (out key) (filter picks rows) x (has_kept picks rows x h passed)))
            | inr fails ↦ (eq_by_cmp_equiv f.total).symm key (l.entry x).0 ∙ sym
                (row_by_key text.test params text.by_key rows are key x h) ∙ fails
          ]))
      answer_is rows are key (s ∷ more) same =
          let picks = passes text.test (params key) in
          let back = moved (s ∷ more) (map (out key) (filter picks rows)) s
          (IsPermutation-sym _ _ same) (inl refl) in
          let r = has_mapped (out key) (filter picks rows) s back in
          let was = has_filtered picks rows r.0 r.1 in
          let t = are.typed r.0 was.0 in
          let is : (l.entry r.0).0 ≡ key =
          f.exact _ _ (tied _ (sym (row_by_key text.test params text.by_key rows are key r.0
          was.0) ∙ was.1)) in
          let tells : told (out key r.0) ≡ (l.entry r.0).1 =
          ap (λ x. told (out key x)) t.3 ∙ text.tells t.0 t.1 key t.2 ∙ sym (ap (λ (e : K × V). e.1)
          (entry_is schema l f r.0 t)) in
          ap Some (ap told r.2 ∙ tells)
          ∙ sym (get-from_entries f.total (map l.entry rows) key ∙ subst
          (λ k. find l.cmp k (map l.entry rows) ≡ Some (l.entry r.0).1) is
          (found_at f.total f.exact l.entry rows r.0 are.apart was.0))

      -- the first row that is shown is that of the key, and there is none where the map has none
      pub shows_one : (old new : State) (key : K) (rows : List Row) → Lives schema old.now
          → Shown sql (params key) old new rows
          → option_map told (slice_get rows 0) ≡ get (map_of l (old.now.trees l.plain.tree)) key
      shows_one old new key rows lives h =
          let read = reads_as sql (params key) old new schema lives.schema_is _ text.means.is
          text.means.plain text.means.unlisted rows h in
          answer_is (old.now.trees l.plain.tree) (rows_in schema l f old.now lives) key rows
          (subst (λ all. IsPermutation (map (out key) (filter (passes text.test (params key)) all))
          rows) (f.based old.now.trees) (answer_picks l.plain.tree text.test text.project
          (overlay old.now.trees []) (params key) rows (read.answer Null)))

  -- ---- all rows in the order of their keys

  -- all columns of all rows, ordered by the key
  abbrev pub q : Query
  q = of_table l.plain.tree [] (map (col 1) (range_with_len 1 (length l.plain.fields)))
      (map (λ at. (col 1 at, ascending Binary)) l.key)

  abbrev pub lists : Command
  lists = Select (program_of q) (map (λ (c : PlainColumn). c.name)
      l.plain.fields)

  -- the text shows them
  pub record ListText (sql : List ℕ) : Type 0 where
    pub means : Means schema sql lists
    pub ordered_as : (id : ℤ) (k : K) (v : V) (id′ : ℤ) (k′ : K) (v′ : V)
        → output_cmp q (output q (env_of [] (table_row l id k v)))
        (output q (env_of [] (table_row l id′ k′ v′))) ≡ l.cmp k k′
    pub shows : (id : ℤ) (k : K) (v : V)
        → l.entry (Null ∷ (output q (env_of [] (table_row l id k v))).1) ≡ (k, v)

  module _ (sql : List ℕ) (text : ListText sql) where
    abbrev shown_of : Row → Output
    shown_of r = output q (env_of [] r)

    abbrev entry : Output → K × V
    entry x = l.entry (Null ∷ x.1)

    module _ (rows : List Row) (are : AreRows l rows) (ordered : List Output)
        (same : IsPermutation (map shown_of rows) ordered) where
      is_out : (x : Output) → Has ordered x → (r : Row) × Has rows r × (x ≡ shown_of r)
      is_out x h = has_mapped shown_of rows x (moved ordered (map shown_of rows) x
          (IsPermutation-sym (map shown_of rows) ordered same) h)

      alike : (x y : Output) → Has ordered x → Has ordered y → output_cmp q x y
          ≡ l.cmp (entry x).0 (entry y).0
      alike x y h k =
          let r = is_out x h in
          let s = is_out y k in
          let tr = are.typed r.0 r.1 in
          let ts = are.typed s.0 s.1 in
          let xs : x ≡ shown_of (table_row l tr.0 tr.1 tr.2) = r.2 ∙ ap shown_of tr.3 in
          let ys : y ≡ shown_of (table_row l ts.0 ts.1 ts.2) = s.2 ∙ ap shown_of ts.3 in
          let kx : tr.1 ≡ (entry (shown_of (table_row l tr.0 tr.1 tr.2))).0 =
          sym (ap (λ (e : K × V). e.0) (text.shows tr.0 tr.1 tr.2)) in
          let ky : ts.1 ≡ (entry (shown_of (table_row l ts.0 ts.1 ts.2))).0 =
          sym (ap (λ (e : K × V). e.0) (text.shows ts.0 ts.1 ts.2)) in
          subst₂ (λ (p q′ : Output). output_cmp q p q′ ≡ l.cmp (entry p).0 (entry q′).0) (sym xs)
          (sym ys)
          (subst₂ (λ a b. output_cmp q (shown_of (table_row l tr.0 tr.1 tr.2))
          (shown_of (table_row l ts.0 ts.1 ts.2)) ≡ l.cmp a b) kx ky (text.ordered_as tr.0 tr.1 tr.2
          ts.0 ts.1 ts.2))

      entries_shown : (all : List Row) → ((r : Row) → Has all r → Has rows r)
          → map (λ r. entry (shown_of r)) all ≡ map l.entry all
      entries_shown [] sub = refl
      entries_shown (r ∷ all) sub =
          let t = are.typed r (sub r (inl refl)) in
          let here : entry (shown_of r) ≡ l.entry r = ap (λ x. entry (shown_of x)) t.3 ∙ text.shows
          t.0 t.1 t.2 ∙ sym (entry_is schema l f r t) in
          let more = entries_shown all (λ x h. sub x (inr h)) in
          λ j. here j ∷ more j

      entries_of : IsSorted (output_cmp q) ordered → map entry ordered ≡ entries (map_of l rows)
      entries_of sorted =
          let es = map l.entry rows in
          let fs = map entry ordered in
          let apart = rows_distinct f.total f.exact l.entry rows are.shaped.0 are.apart in
          let whole : map entry (map shown_of rows) ≡ es =
          map-map entry shown_of rows ∙ entries_shown rows (λ r h. h) in
          let permuted : IsPermutation es fs = subst (λ xs. IsPermutation xs fs) whole
          (IsPermutation-map entry (map shown_of rows) ordered same) in
          let up = rises f.total f.exact (output_cmp q) entry ordered alike sorted
          (keys_stay f.total f.exact es fs permuted apart) in
          sym (entries_are f.total f.exact es fs permuted apart up)

    -- the rows are the entries of the map, in the order of the keys
    pub lists_all : (db : Database) (rows : List Row) → Lives schema db
        → Reads (command_of (understood schema sql)) db [] rows
        → map (λ r. l.entry (Null ∷ r)) rows ≡ entries (map_of l (db.trees l.plain.tree))
    lists_all db rows lives h =
        let a = (subst (λ k. Reads k db [] rows) text.means.is h).answer Null in
        let all = overlay db.trees [] l.plain.tree in
        let base = f.based db.trees in
        let are : AreRows l all = subst (AreRows l) (sym base) (rows_in schema l f db lives) in
        let staged : a.staged ≡ map (env_of []) all = a.grouped ∙ each (env_of []) all in
        let kept : a.kept ≡ map shown_of all = a.distinct ∙ ap (map (output q)) staged ∙ map-map
        (output q) (env_of []) all in
        let same : IsPermutation (map shown_of all) a.ordered =
        subst (λ k. IsPermutation k a.ordered) kept a.same in
        ap (map (λ r. l.entry (Null ∷ r))) a.shown ∙ map-map (λ r. l.entry (Null ∷ r))
        (λ (x : Output). x.1) a.ordered
        ∙ entries_of all are a.ordered same a.sorted ∙ ap (λ rows. entries (map_of l rows)) base

    -- the first rows are the first entries
    pub lists_first : (db : Database) (rows : List Row) → Lives schema db
        → ReadsFirst (command_of (understood schema sql)) db [] rows
        → (rest : List (K × V)) × (map (λ r. l.entry (Null ∷ r)) rows ++ rest
        ≡ entries (map_of l (db.trees l.plain.tree)))
    lists_first db rows lives h =
        let first = subst (λ k. ReadsFirst k db [] rows) text.means.is h in
        let tail = first.1.0 in
        let whole : Reads lists db [] (rows ++ tail) = record { typed = first.0; answer = first.1.1 } in (
          map (λ r. l.entry (Null ∷ r)) tail,
          sym (map-append (λ r. l.entry (Null ∷ r)) rows tail)
              ∙ lists_all db (rows ++ tail) lives (subst (λ k. Reads k db [] (rows ++ tail))
              (sym text.means.is) whole),
        )
