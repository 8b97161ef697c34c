-- What an UPDATE of the row of a key makes of the map of a table.
use Rattle.std.proofs.Common.{◌≡◌, inl, inr, ℕ, ◌<◌, ℤ, true, List, [], ◌∷◌, map, filter, drop}
use Rattle.std.proofs.Common.{length, slice_get, Some, None, Option, Ok, Result, refl, sym, ap}
use Rattle.std.proofs.Common.{subst, ◌∙◌, arith, unwrap_or}
use Rattle.std.specs.List.Sorted.{IsPermutation}
use Rattle.std.specs.Ordering.{eq_by_cmp}
use Rattle.std.specs.FinMap.{insert}
use Rattle.std.proofs.lemmas.List.Sorted.{IsPermutation-sym}
use Rattle.sqlite_value.specs.declared.value.Value.TheVariants.{Null}
use Rattle.sqlite_value.specs.Order.{Row}
use Rattle.sqlite_trees.specs.Tree.{Trees, rowid, put_row}
use Rattle.sqlite_trees.specs.View.{IsShaped}
use Rattle.sqlite_trees.specs.declared.store.Shape.TheVariants as shape
use Rattle.sqlite_trees.proofs.TreeLemmas.{IsShaped-put_row}
use Rattle.sqlite_rules.specs.declared.error.Rowids.TheVariants.{Given}
use Rattle.sqlite_rules.specs.Cast.{cast_row}
use Rattle.sqlite_rules.specs.Lists.{Has}
use Rattle.sqlite_rules.specs.Calls.{ids_of}
use Rattle.sqlite_rules.specs.Action.{works}
use Rattle.sqlite_rules.specs.Edit.{edit_of, taken_by, numbered, without_all, put_all, are_fresh}
use Rattle.sqlite_rules.specs.Edit.{have_rowids, id_in}
use Rattle.sqlite_trees.proofs.ListLemmas.{map-map}
use Rattle.std.proofs.lemmas.List.{length-map}
use Rattle.sqlite_rules.proofs.ListLemmas.{has_filtered, has_kept}
use Rattle.sqlite_rules.proofs.ProbeLemmas.{has_mapped, mapped_has}
use Rattle.sqlite_rules.proofs.TableLemmas.{put_all_has, put_all_keeps, put_all_adds}
use Rattle.sqlite_schema.specs.declared.schema.Keys.TheVariants.{Enforced}
use Rattle.sqlite_schema.specs.declared.schema.Schema.{Schema}
use Rattle.sqlite_schema.specs.declared.program.Program.{Program}
use Rattle.sqlite_schema.specs.declared.command.Command.TheVariants.{Update}
use Rattle.sqlite_sql.specs.Query.{IsAnswer, output}
use Rattle.sqlite_sql.specs.Term.{Term}
use Rattle.sqlite.specs.declared.error.Error.{Error}
use Rattle.sqlite.specs.Effect.{Database, Answers}
use Rattle.sqlite.specs.Rows.{Written}
use Rattle.sqlite.specs.Does.{Does}
use Rattle.sqlite.specs.Listing.{understood}
use Rattle.sqlite.specs.Program.{overlay}
use Rattle.sqlite.specs.State.{State, Executes, mode_of}
use Rattle.sqlite.proofs.Callers.{IsPlain, command_of, statement_of, runs_as, one_step}
use Rattle.std.proofs.lemmas.Bool.{and_parts}
use Rattle.store_tables.specs.Plain.{Plain, table_of}
use Rattle.store_tables.specs.Entries.{Layout, map_of}
use Rattle.store_tables.specs.Inner.Rows.{table_row}
use Rattle.store_tables.proofs.Plain.Values.{left_shaped}
use Rattle.store_model.proofs.Keys.{tied}
use Rattle.store_tables.proofs.Plain.Maps.{left_out, left_in, Puts, put_is}
use Rattle.store_tables.proofs.Plain.Ordered.{moved}
use Rattle.store_tables.proofs.Plain.Writes.{AreShaped, Spares, spared, went, same_value, concluded}
use Rattle.store_tables.proofs.Plain.Writes.{still_shaped}
use Rattle.store_tables.proofs.Plain.Facts.{Facts, Lives, AreRows, Turns, rows_in, key_is, stands}
use Rattle.store_tables.proofs.Plain.Queries.{Means, program_of, of_table, env_of, passes}
use Rattle.store_tables.proofs.Plain.Queries.{answer_picks, nothing_left}

-- rowids that are given stay
given_stay : (rows news : List Row) → numbered Given rows news ≡ news
given_stay rows [] = refl
given_stay rows (n ∷ news) = ap (λ more. n ∷ more) (given_stay (put_row n rows) news)

put_shaped : (news rows : List Row) → have_rowids news ≡ true → IsShaped shape.Table rows
    → IsShaped shape.Table (put_all rows news)
put_shaped [] rows keyed h = h
put_shaped (n ∷ news) rows keyed h =
    let parts = and_parts _ _ keyed in
    put_shaped news (put_row n rows) parts.1 (IsShaped-put_row n rows parts.0 h)

module _ (schema : Schema) (p : Plain) where
  -- no foreign key acts where rows are written over
  abbrev pub IsStill : Type 0
  IsStill = (olds news : List Row) → works schema Enforced 0 p.tree olds news ≡ []

  -- the rows that were found stand as they are written
  abbrev pub written : List Row → List Row
  written found = map (λ s. cast_row (table_of p) (drop 1 s)) found

  pub record Updated (old : Trees) (found : List Row) (new : Trees) : Type 0 where
    pub rows : new p.tree ≡ put_all (without_all (old p.tree) (ids_of found)) (written found)
    pub fresh : are_fresh (without_all (old p.tree) (ids_of found)) (written found) ≡ true
    pub keyed : have_rowids (written found) ≡ true
    pub tables : Spares schema p old new

  pub updates : (at : ℕ) (sql : List ℕ) (params : Row) (q : Program) (old new : State) (count : ℕ)
      → slice_get schema.tables at ≡ Some (table_of p) → IsStill
      → command_of (understood schema sql) ≡ Update at q → IsPlain (understood schema sql)
      → old.now.schema ≡ schema → Executes sql params old new (Ok count)
      → (found : List Row)
      × (new.now.schema ≡ schema)
      × Rattle.sqlite.specs.Effect.IsDatabase new.now
      × Answers (record { schema = schema; trees = old.now.trees }) q params found
      × (count ≡ length found)
      × Updated old.now.trees found new.now.trees
  updates at sql params q old new count placed still is plain has h =
      let command = Update at q in
      let text = statement_of sql (understood schema sql) in
      let w = runs_as sql params old new schema has command is plain count h in
      let does = subst (λ s. Does old.step_limit (mode_of old) params (record old.now {
        schema =
            s;
      }) text None command (Ok (w.tally, new.now))) has w.changed in
      let done = went (rw placed at does) in
      let end = concluded schema p old.step_limit params (mode_of old) done.0 w.tally new.now done.2
      in
      let now = end.0 in
      let found = went done.1 in
      let step = went found.2 in
      let last : ◌≡◌ {A = Result Written (Option Error)} (Ok done.0) (Ok _) = step.2 in
      let edit = edit_of old.now.trees (table_of p) (ids_of found.0) Given 1 found.0 in
      let it = one_step schema Enforced old.now.trees step.0 edit
      (still (taken_by old.now.trees edit) edit.news) step.1 in
      let trees : new.now.trees ≡ step.0 = ap (λ (d : Database). d.trees) now ∙ ap
      (λ (x : Written). x.trees) (same_value last) in
      let left = without_all (old.now.trees p.tree) (ids_of found.0) in
      let news : edit.news ≡ written found.0 = given_stay left (written found.0) in
      let many : length done.0.rows ≡ length found.0 = ap (λ (x : Written). length x.rows)
      (same_value last) ∙ ap (λ (rows : List Row). length rows) news ∙ length-map found.0 _ in (
        found.0,
        ap (λ (d : Database). d.schema) now,
        w.sound,
        found.1,
        w.counted ∙ ap (λ (rows : Option ℕ). unwrap_or rows 0) end.1 ∙ many,
        record {
          rows = ap (λ (t : Trees). t p.tree) trees ∙ it.rows ∙ ap (put_all left) news;
          fresh = ap (are_fresh left) (sym news) ∙ it.fresh;
          keyed = ap have_rowids (sym news) ∙ it.keyed;
          tables = subst (Spares schema p old.now.trees) (sym trees)
              (spared schema p old.now.trees step.0 it.tables);
        },
      )

  pub updated_shaped : (old new : Trees) (found : List Row) → AreShaped schema old
      → IsShaped shape.Table (old p.tree) → Updated old found new → AreShaped schema new
  updated_shaped old new found shaped here it = still_shaped schema p old new shaped it.tables
      (subst (IsShaped shape.Table) (sym it.rows) (put_shaped (written found)
      (without_all (old p.tree) (ids_of found)) it.keyed
      (left_shaped (old p.tree) (ids_of found) here)))

-- the text sets the value of the row of a key
pub record SetText (schema : Schema) {K V : Type 0} (l : Layout K V) (sql : List ℕ) : Type 0 where
  pub at : ℕ
  pub test : List Term
  pub project : List Term
  pub placed : slice_get schema.tables at ≡ Some (table_of l.plain)
  pub still : IsStill schema l.plain
  pub means : Means schema sql (Update at (program_of (of_table l.plain.tree test project [])))
  pub by_key : (id : ℤ) (k key : K) (v value : V)
      → passes test (l.values key value) (table_row l id k v) ≡ eq_by_cmp l.cmp k key
  pub numbers : (key : K) (value : V) (r : Row)
      → rowid (output (of_table l.plain.tree test project []) (env_of (l.values key value) r)).1
      ≡ rowid r
  pub over : (id : ℤ) (k key : K) (v value : V)
      → drop 1 (output (of_table l.plain.tree test project [])
      (env_of (l.values key value) (table_row l id k v))).1 ≡ table_row l id k value

module _ (schema : Schema) {K V : Type 0} (l : Layout K V) (f : Facts schema l) (sql : List ℕ)
    (text : SetText schema l sql) where
  abbrev out : K → V → Row → Row
  out key value r = (output (of_table l.plain.tree text.test text.project [])
      (env_of (l.values key value) r)).1

  -- what was found, where one row was: that row, with the value
  pub record FindsRow (rows found : List Row) (key : K) (value : V) : Type 0 where
    pub sound : (x : Row) → Has found x → (r : Row) × Has rows r
        × (passes text.test (l.values key value) r ≡ true) × (x ≡ out key value r)
    pub complete : (r : Row) → Has rows r → passes text.test (l.values key value) r ≡ true
        → Has found (out key value r)

  finds : (db : Trees) (found : List Row) (key : K) (value : V)
      → IsAnswer (of_table l.plain.tree text.test text.project []) db (l.values key value) found
      → FindsRow (db l.plain.tree) found key value
  finds db found key value a =
      let rows = db l.plain.tree in
      let picks = passes text.test (l.values key value) in
      let same : IsPermutation (map (out key value) (filter picks rows)) found =
      answer_picks l.plain.tree text.test text.project db (l.values key value) found a in
      record {
        sound = λ x h.
            let r = has_mapped (out key value) (filter picks rows) x
            (moved found (map (out key value) (filter picks rows)) x
            (IsPermutation-sym (map (out key value) (filter picks rows)) found same) h) in
            let was = has_filtered picks rows r.0 r.1 in
            (r.0, was.0, was.1, r.2);
        complete = λ r h passed.
            moved (map (out key value) (filter picks rows)) found (out key value r) same
            (mapped_has (out key value) (filter picks rows) r (has_kept picks rows r h passed));
      }

  -- the row that is written over one of the key
  abbrev over : K → V → Row → Row
  over key value r = cast_row (table_of l.plain) (drop 1 (out key value r))

  passed_key : (rows : List Row) (key : K) (value : V) (r : Row) → AreRows l rows → Has rows r
      → passes text.test (l.values key value) r ≡ eq_by_cmp l.cmp (l.entry r).0 key
  passed_key rows key value r are here =
      let t = are.typed r here in
      ap (passes text.test (l.values key value)) t.3 ∙ text.by_key t.0 t.1 key t.2 value ∙ ap
      (λ k. eq_by_cmp l.cmp k key) (sym (key_is schema l f r t))

  -- it has the key, and the value
  over_is : (rows : List Row) (key : K) (value : V) (r : Row) → AreRows l rows → Has rows r
      → passes text.test (l.values key value) r ≡ true → l.entry (over key value r) ≡ (key, value)
  over_is rows key value r are here passed =
      let t = are.typed r here in
      let own : (l.entry r).0 ≡ key = f.exact _ _ (tied _ (sym (passed_key rows key value r are
      here) ∙ passed)) in
      let is_row : over key value r ≡ table_row l t.0 t.1 value = ap (over key value) t.3 ∙
      ap (cast_row (table_of l.plain)) (text.over t.0 t.1 key t.2 value) ∙ stands schema l f t.0 t.1
      value in
      ap l.entry is_row ∙ f.reads t.0 t.1 value ∙ ap (λ (k : K). (k, value))
      (sym (key_is schema l f r t) ∙ own)

  -- the row of a key, with another value
  row_put : (old new found : List Row) (key : K) (value : V) (r : Row) → AreRows l old
      → FindsRow old found key value → Has old r
      → passes text.test (l.values key value) r ≡ true
      → are_fresh (without_all old (ids_of found)) (written schema l.plain found) ≡ true
      → new ≡ put_all (without_all old (ids_of found)) (written schema l.plain found)
      → Puts f.total f.exact l.entry old new (over key value r)
  row_put old new found key value r are finds here passed fresh is =
      let left = without_all old (ids_of found) in
      let news = written schema l.plain found in
      let stand : Row → Row = λ s. cast_row (table_of l.plain) (drop 1 s) in
      let row = over key value r in
      let test = passes text.test (l.values key value) in
      let by = λ (x : Row) (h : Has old x). passed_key old key value x are h in
      let own : (l.entry r).0 ≡ key = f.exact _ _ (tied _ (sym (by r here) ∙ passed)) in
      let row_key : (l.entry row).0 ≡ key = ap (λ (e : K × V). e.0) (over_is old key value r are
      here passed) in
      let tie : (x : Row) → Has old x → test x ≡ eq_by_cmp l.cmp (l.entry x).0 (l.entry row).0 =
      λ x h. by x h ∙ ap (eq_by_cmp l.cmp (l.entry x).0) (sym row_key) in
      let one : (x : Row) → Has old x → test x ≡ true → x ≡ r = λ x h k.
      are.apart x r h here (f.exact _ _ (tied _ (sym (by x h) ∙ k)) ∙ sym own) in
      let bare : Row → Row = λ x. rowid x ∷ [] in
      let bares = map bare found in
      let same_ids : ids_of bares ≡ ids_of found = map-map (λ (x : Row). id_in (rowid x)) bare
      found in
      let sound : (x : Row) → Has bares x → (y : Row) × Has old y × (test y ≡ true) ×
      (x ≡ rowid y ∷ []) = λ x h.
      let m = has_mapped bare found x h in
      let s = finds.sound m.0 m.1 in
      (s.0, s.1, s.2, m.2 ∙ ap bare s.3 ∙ ap (λ v. v ∷ []) (text.numbers key value s.0)) in
      let complete : (y : Row) → Has old y → test y ≡ true → Has bares (rowid y ∷ []) = λ y h k.
      subst (λ v. Has bares (v ∷ [])) (text.numbers key value y)
      (mapped_has bare found (out key value y) (finds.complete y h k)) in
      let bare_left = without_all old (ids_of bares) in
      let into : left ≡ bare_left = ap (without_all old) (sym same_ids) in
      subst (λ rows. Puts f.total f.exact l.entry old rows row) (sym is) (record {
        there = put_all_adds news left row fresh
            (mapped_has stand found (out key value r) (finds.complete r here passed));
        others = λ x h. elim (put_all_has news left x h) [
          | inl new ↦
              let m = has_mapped stand found x new in
              let s = finds.sound m.0 m.1 in
              inl (m.2 ∙ ap stand s.3 ∙ ap (over key value) (one s.0 s.1 s.2))
          | inr was ↦
              let r = left_out old bares are.shaped.0 are.shaped.1 test sound complete x
              (subst (λ rows. Has rows x) into was) in
              inr (r.0, sym (tie x r.0) ∙ r.1)
        ];
        kept = λ x h other. put_all_keeps news left x fresh (subst (λ rows. Has rows x) (sym into)
            (left_in old bares are.shaped.0 are.shaped.1 test sound complete x h
            (tie x h ∙ other)));
      })

  first_of : (found : List Row) → 0 < length found → (x : Row) × Has found x
  first_of [] some = absurd (omega (arith, some))
  first_of (x ∷ found) some = (x, inl refl)

  pub sets_row : (key : K) (value : V) (old new : State) (count : ℕ) → Lives schema old.now
      → Executes sql (l.values key value) old new (Ok count)
      → (count ≡ 0 → Turns schema l old.now new.now (map_of l (old.now.trees l.plain.tree)))
      × (0 < count → Turns schema l old.now new.now
      (insert (map_of l (old.now.trees l.plain.tree)) key value))
  sets_row key value old new count lives h =
      let rows = old.now.trees l.plain.tree in
      let after = new.now.trees l.plain.tree in
      let done = updates schema l.plain text.at sql (l.values key value) _ old new count text.placed
      text.still text.means.is text.means.plain lives.schema_is h in
      let found = done.0 in
      let it = done.5 in
      let are = rows_in schema l f old.now lives in
      let all = subst (λ rows. FindsRow rows found key value) (f.based old.now.trees)
      (finds (overlay old.now.trees []) found key value (done.3.answer Null)) in
      let now : Lives schema new.now = record {
        schema_is = done.1;
        sound = done.2;
        ordered = updated_shaped schema l.plain old.now.trees new.now.trees found lives.ordered
            are.shaped it;
      } in (
        λ none.
            let nothing = nothing_left found (sym done.4 ∙ none) in
            record {
              lives = now;
              others = it.tables;
              map = ap (map_of l) (it.rows ∙ ap (λ fs. put_all (without_all rows (ids_of fs))
                  (written schema l.plain fs)) nothing);
            },
        λ some.
            let x = first_of found (subst (λ n. 0 < n) done.4 some) in
            let r = all.sound x.0 x.1 in
            let put = row_put rows after found key value r.0 are all r.1 r.2 it.fresh it.rows in
            record {
              lives = now;
              others = it.tables;
              map = put_is f.total f.exact l.entry rows after (over key value r.0) are.apart put ∙
                  ap (λ (e : K × V). insert (map_of l rows) e.0 e.1) (over_is rows key value r.0
                  are r.1 r.2);
            },
      )
