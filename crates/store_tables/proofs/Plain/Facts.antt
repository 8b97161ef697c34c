-- What has to be known of a table for the lemmas on its rows.
use Rattle.std.proofs.Common.{◌≡◌, ◌&&◌, inl, inr, ℕ, ℤ, pos, true, false, List, [], ◌∷◌, None}
use Rattle.std.proofs.Common.{Some, Ordering}
use Rattle.std.proofs.Common.{Less, Equal, Greater, refl, sym, ap, subst, subst₂, ◌∙◌, true≢false}
use Rattle.std.specs.List.{list_all}
use Rattle.std.specs.Cmp.{IsTotalOrder}
use Rattle.std.specs.FinMap.{FinMap, IsAntisymmetric}
use Rattle.std.specs.Ordering.{is_eq, is_ne, eq_by_cmp}
use Rattle.std.proofs.lemmas.Bool.{and_parts, and_from, cases_Bool}
use Rattle.std.proofs.lemmas.Cmp.{tied_itself}
use Rattle.sqlite_value.specs.declared.value.Value.TheVariants.{Int, Null}
use Rattle.sqlite_value.specs.Order.{Row, column, value_cmp}
use Rattle.sqlite_value.specs.declared.keys.Collation.TheVariants.{Binary}
use Rattle.sqlite_value.specs.Keys.{first_key, plain}
use Rattle.sqlite_trees.specs.Tree.{Trees, rowid}
use Rattle.sqlite_trees.specs.View.{IsShaped}
use Rattle.sqlite_trees.specs.declared.store.Shape.TheVariants.{Table}
use Rattle.sqlite_sql.specs.Ops.{binary, is_true, from_truth}
use Rattle.sqlite_schema.specs.declared.schema.Schema.{Schema}
use Rattle.sqlite_schema.specs.declared.schema.Constraint.TheVariants.{Datatype, NotNull, Unique}
use Rattle.sqlite_schema.specs.Rules.{passes, agree, equal, differ, clashes}
use Rattle.sqlite_rules.specs.Lists.{Has}
use Rattle.sqlite_rules.specs.declared.error.Rowids.TheVariants.{Chosen}
use Rattle.sqlite_rules.specs.Cast.{cast_all, cast_row}
use Rattle.sqlite_rules.specs.Edit.{id_in, next_rowid, with_rowid}
use Rattle.sqlite_schema.specs.declared.command.Conflict.TheVariants.{Replace}
use Rattle.sqlite.specs.Rows.{mended, mended_from}
use Rattle.sqlite_rules.proofs.ListLemmas.{all_has, some_from}
use Rattle.sqlite_rules.proofs.RuleLemmas.{keeps_at}
use Rattle.sqlite_rules.proofs.PlaceLemmas.{tied_same}
use Rattle.sqlite_catalog.specs.Listing.{IsSound}
use Rattle.sqlite.specs.Effect.{Database, IsDatabase}
use Rattle.sqlite.specs.Program.{overlay}
use Rattle.store_tables.specs.Plain.{table_of}
use Rattle.store_tables.specs.Entries.{Layout, map_of}
use Rattle.store_tables.specs.Inner.Rows.{table_row}
use Rattle.store_tables.proofs.Plain.Shapes.{cast_cells, cells, mended_cells, shape_of}
use Rattle.store_tables.proofs.Plain.Values.{cast_int, cast_null}
use Rattle.store_tables.proofs.Plain.Writes.{AreShaped, Spares}

-- the row is one of the layout, of this entry
abbrev pub IsRow : {K V : Type 0} → Layout K V → Row → Type 0
IsRow {K} {V} l r = (id : ℤ) × (k : K) × (v : V) × (r ≡ table_row l id k v)

pub record Facts (schema : Schema) {K V : Type 0} (l : Layout K V) : Type 0 where
  pub total : IsTotalOrder l.cmp
  pub exact : IsAntisymmetric l.cmp
  pub listed : Has schema.tables (table_of l.plain)
  pub based : (db : Trees) → overlay db [] l.plain.tree ≡ db l.plain.tree
  pub reads : (id : ℤ) (k : K) (v : V) → l.entry (table_row l id k v) ≡ (k, v)
  pub whole : (x : Row) → l.values (l.entry x).0 (l.entry x).1 ≡ cells l.plain.fields 1 x
  pub agrees : (id : ℤ) (k : K) (v : V) (id′ : ℤ) (k′ : K) (v′ : V)
      → list_all (λ at. equal Binary (column (table_row l id k v) at) (column (table_row l id′ k′ v′) at))
      l.key ≡ eq_by_cmp l.cmp k k′
  pub unique : (db : Trees) (x : Row) → passes Unique schema db (table_of l.plain) x ≡ true
      → clashes plain l.key (db l.plain.tree) x ≡ false

-- the rows are of the layout, with rowids that rise, and no two have one key
pub record AreRows {K V : Type 0} (l : Layout K V) (rows : List Row) : Type 0 where
  pub shaped : IsShaped Table rows
  pub typed : (x : Row) → Has rows x → IsRow l x
  pub apart : (a b : Row) → Has rows a → Has rows b → (l.entry a).0 ≡ (l.entry b).0 → a ≡ b

-- the database has this schema, obeys it, and its rowids rise
pub record Lives (schema : Schema) (db : Database) : Type 0 where
  pub schema_is : db.schema ≡ schema
  pub sound : IsDatabase db
  pub ordered : AreShaped schema db.trees

-- this table now stands for this map, and the others are as they were
pub record Turns (schema : Schema) {K V : Type 0} (l : Layout K V) (old new : Database)
    (now : FinMap l.cmp V) : Type 0 where
  pub lives : Lives schema new
  pub others : Spares schema l.plain old.trees new.trees
  pub map : map_of l (new.trees l.plain.tree) ≡ now

unequal : (o : Ordering) → is_true (from_truth (Some (is_ne o))) ≡ false → o ≡ Equal
unequal Less h = absurd (true≢false h)
unequal Equal h = refl
unequal Greater h = absurd (true≢false h)

-- rows with one key have one rowid
same_rowid : (m n : ℤ) → differ (Int m) (Int n) ≡ false → value_cmp (Int m) (Int n) ≡ Equal
unfolding binary
same_rowid m n h = unequal _ h

-- keys agree column by column
agree_each : (key : List ℕ) (a b : Row)
    → agree plain key a key b ≡ list_all (λ at. equal Binary (column a at) (column b at)) key
unfolding first_key
agree_each [] a b = refl
agree_each (at ∷ key) a b = ap (λ rest. equal Binary (column a at) (column b at) && rest)
    (agree_each key a b)

module _ (schema : Schema) {K V : Type 0} (l : Layout K V) (f : Facts schema l) where
  pub key_is : (x : Row) (t : IsRow l x) → (l.entry x).0 ≡ t.1
  key_is x t = ap (λ r. (l.entry r).0) t.3 ∙ ap (λ (e : K × V). e.0) (f.reads t.0 t.1 t.2)

  pub entry_is : (x : Row) (t : IsRow l x) → l.entry x ≡ (t.1, t.2)
  entry_is x t = ap l.entry t.3 ∙ f.reads t.0 t.1 t.2

  pub number_is : (x : Row) (t : IsRow l x) → rowid x ≡ Int t.0
  number_is x t = ap rowid t.3

  values_are : (k : K) (v : V) → l.values k v ≡ cells l.plain.fields 1 (table_row l (pos 0) k v)
  values_are k v = ap (λ (e : K × V). l.values e.0 e.1) (sym (f.reads (pos 0) k v))
      ∙ f.whole (table_row l (pos 0) k v)

  cast_values : (k : K) (v : V) → cast_all (table_of l.plain).columns (l.values k v) ≡ l.values k v
  cast_values k v = ap (cast_all (table_of l.plain).columns) (values_are k v)
      ∙ cast_cells l.plain.fields 1 (table_row l (pos 0) k v) ∙ sym (values_are k v)

  -- a row of the layout stands as it is written
  pub stands : (id : ℤ) (k : K) (v : V) → cast_row (table_of l.plain) (table_row l id k v)
      ≡ table_row l id k v
  stands id k v = λ j. cast_int id j ∷ cast_values k v j

  -- the columns of an entry, written with no rowid, are its row under the next one
  pub next_row : (rows : List Row) (k : K) (v : V)
      → with_rowid Chosen rows (cast_row (table_of l.plain) (Null ∷ l.values k v))
      ≡ table_row l (next_rowid rows) k v
  next_row rows k v =
      let cast : cast_row (table_of l.plain) (Null ∷ l.values k v) ≡ Null ∷ l.values k v =
      λ j. cast_null j ∷ cast_values k v j in
      ap (with_rowid Chosen rows) cast

  -- REPLACE has nothing to mend
  pub mended_row : (k : K) (v : V)
      → mended Replace (table_of l.plain) (Null ∷ l.values k v) ≡ Null ∷ l.values k v
  mended_row k v =
      let from = ap (mended_from None 0 (table_of l.plain).columns) (values_are k v)
      ∙ mended_cells l.plain.fields 0 1 (table_row l (pos 0) k v) ∙ sym (values_are k v) in
      λ j. Null ∷ from j

  from_sound : (db : Trees) → IsSound schema db → IsShaped Table (db l.plain.tree)
      → AreRows l (db l.plain.tree)
  from_sound db sound shaped =
      let rows = db l.plain.tree in
      let table = table_of l.plain in
      let typed : (x : Row) → Has rows x → IsRow l x = λ x h. (
        id_in (column x 0),
        (l.entry x).0,
        (l.entry x).1,
        shape_of l.plain.fields x (all_has _ rows x shaped.1 h)
            (and_parts _ _ (keeps_at Datatype schema db table x (sound.obeys.rules Datatype)
            f.listed h)).0
            (keeps_at NotNull schema db table x (sound.obeys.rules NotNull) f.listed h)
            ∙ ap (λ values. Int (id_in (column x 0)) ∷ values) (sym (f.whole x)),
      ) in
      record {
        shaped = shaped;
        typed = typed;
        apart = λ a b h k same.
            let ta = typed a h in
            let tb = typed b k in
            let none = f.unique db b (keeps_at Unique schema db table b (sound.obeys.rules Unique)
            f.listed k) in
            let keys_same : ta.1 ≡ tb.1 = sym (key_is a ta) ∙ same ∙ key_is b tb in
            let keys : eq_by_cmp l.cmp ta.1 tb.1 ≡ true = ap (λ k. eq_by_cmp l.cmp k tb.1) keys_same
            ∙ ap is_eq (tied_itself f.total tb.1) in
            let both : agree plain l.key a l.key b ≡ true =
            subst₂ (λ x y. agree plain l.key x l.key y ≡ true) (sym ta.3) (sym tb.3)
            (agree_each l.key (table_row l ta.0 ta.1 ta.2) (table_row l tb.0 tb.1 tb.2)
            ∙ f.agrees ta.0 ta.1 ta.2 tb.0 tb.1 tb.2 ∙ keys) in
            elim (cases_Bool (differ (rowid a) (rowid b))) [
              | inl apart ↦ absurd (true≢false (sym (some_from _ rows a h (and_from _ _ both apart))
                  ∙ none))
              | inr one ↦ tied_same rows a b shaped.0 h k (subst₂ (λ x y. value_cmp x y ≡ Equal)
                  (sym (number_is a ta)) (sym (number_is b tb))
                  (same_rowid ta.0 tb.0 (subst₂ (λ x y. differ x y ≡ false) (number_is a ta)
                  (number_is b tb) one)))
            ];
      }

  pub rows_in : (db : Database) → Lives schema db → AreRows l (db.trees l.plain.tree)
  rows_in db lives =
      from_sound db.trees (subst (λ s. IsSound s db.trees) lives.schema_is lives.sound)
      (lives.ordered (table_of l.plain) f.listed)
