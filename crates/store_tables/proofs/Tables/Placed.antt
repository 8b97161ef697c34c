-- What the statement that reads decided requests by their places means, and what it shows.
use Rattle.std.proofs.Common.{◌≡◌, ◌∙◌, inl, inr, ℕ, ℤ, pos, Bool, true, false, cond, List, [], ◌∷◌}
use Rattle.std.proofs.Common.{None, map, take, refl, sym, ap, subst, subst₂}
use Rattle.std.specs.Prelude.{filter}
use Rattle.std.specs.List.Sorted.{IsPermutation}
use Rattle.std.specs.Ordering.{int_cmp}
use Rattle.std.specs.FinMap.{entries, from_entries}
use Rattle.std.proofs.lemmas.List.{take-map}
use Rattle.std.proofs.lemmas.List.Sorted.{IsPermutation-map, IsPermutation-sym, IsPermutation-trans}
use Rattle.sqlite_value.specs.declared.value.Value.TheVariants.{Int, Null}
use Rattle.sqlite_value.specs.Order.{Row}
use Rattle.sqlite_value.specs.Keys.{ascending}
use Rattle.sqlite_value.specs.declared.keys.Collation.TheVariants.{Binary}
use Rattle.sqlite_trees.proofs.ListLemmas.{map-map}
use Rattle.sqlite_rules.specs.Lists.{Has}
use Rattle.sqlite_rules.proofs.ListLemmas.{has_filtered}
use Rattle.sqlite_rules.proofs.ProbeLemmas.{has_mapped}
use Rattle.sqlite_sql.specs.declared.ops.BinaryOp.TheVariants.{Compare}
use Rattle.sqlite_sql.specs.declared.ops.CompareOp.TheVariants.{Ge}
use Rattle.sqlite_sql.specs.Query.{Output, output, output_cmp}
use Rattle.sqlite.specs.Term.{Term, col, lit, op2}
use Rattle.sqlite.specs.Query.{Query, inner, end}
use Rattle.sqlite.specs.Command.TheVariants.{Select}
use Rattle.sqlite.specs.Effect.{Database, Reads}
use Rattle.sqlite.specs.Listing.{understood}
use Rattle.sqlite.specs.Program.{overlay}
use Rattle.sqlite.specs.State.{State, Shown}
use Rattle.sqlite.proofs.Callers.{reads_as}
use Rattle.sqlite_tied.specs.Compute.{everything}
use Rattle.store_model.specs.Entries.{NameNumber, Request}
use Rattle.store_model.specs.Pages.{IsPage, stands_from}
use Rattle.store_model.proofs.Permuted.{made_passed}
use Rattle.store_tables.specs.Contents.{contents_of}
use Rattle.store_tables.specs.Entries.{Layout, map_of, request_rows}
use Rattle.store_tables.specs.Inner.Rows.{table_row}
use Rattle.store_tables.specs.Plain.{PlainColumn}
use Rattle.store_tables.specs.Inner.Shown.{shown_as}
use Rattle.store_tables.specs.Inner.Texts.{page_request}
use Rattle.store_tables.specs.Store.{IsStore}
use Rattle.store_tables.specs.Tables.{store_schema}
use Rattle.store_tables.proofs.Living.{lives_in}
use Rattle.store_tables.proofs.Plain.Facts.{AreRows, Lives, entry_is, rows_in}
use Rattle.store_tables.proofs.Plain.Ordered.{moved, rows_distinct, sorted_as}
use Rattle.store_tables.proofs.Plain.Queries.{Means, env_of, passes, picked, program_of}
use Rattle.store_tables.proofs.Tables.Facts.{request_facts}
use Rattle.store_tables.proofs.Tables.Keys.{from_number, number_order}

-- ---- what the text means

abbrev test : List Term
test = op2 (Compare Ge Binary) (col 1 3) (col 0 0) ∷ []

abbrev columns : List Term
columns = col 1 1 ∷ col 1 2 ∷ col 1 3 ∷ col 1 4 ∷ col 1 5 ∷ col 1 6 ∷ []

-- all columns of the rows from a place on, by their places, and so many of them
abbrev q : Query
q = record {
  from = inner request_rows.plain.tree end;
  filter = test;
  group = None;
  project = columns;
  distinct = false;
  collations = [];
  order = (col 1 3, ascending Binary) ∷ [];
  limit = col 0 1;
  offset = lit (Int (pos 0));
}

abbrev names : List (List ℕ)
names = map (λ (c : PlainColumn). c.name) request_rows.plain.fields

pub page_means : Means store_schema page_request (Select (program_of q) names)
unfolding understood everything
page_means = record { is = refl; unlisted = refl; plain = (refl, refl) }

-- the place and the limit, as the statement is given them
abbrev pub page_params : ℤ → ℕ → Row
page_params place most = Int place ∷ Int (pos most) ∷ []

-- ---- what it shows

abbrev Named : Type 0
Named = NameNumber × Request

abbrev l : Layout NameNumber Request
l = request_rows

-- where one of two lists is longer by what passes, so is the other
chosen_more : {A B : Type 0} (f : A → B) (p r : Bool) (x : A) (y : B) (xs : List A) (ys : List B)
    → p ≡ r → f x ≡ y → map f xs ≡ ys → map f (cond p (x ∷ xs) xs) ≡ cond r (y ∷ ys) ys
chosen_more f true true x y xs ys same here more = λ j. here j ∷ more j
chosen_more f false false x y xs ys same here more = more
chosen_more f true false x y xs ys same here more = cc
chosen_more f false true x y xs ys same here more = cc

module _ (place : ℤ) (most : ℕ) where
  abbrev params : Row
  params = page_params place most

  abbrev picks : Row → Bool
  picks r = passes test params r

  abbrev stands : Named → Bool
  stands e = stands_from place e

  abbrev shown_of : Row → Output
  shown_of r = output q (env_of params r)

  abbrev entry : Output → Named
  entry x = shown_as l x.1

  -- a row is picked where its request stands there
  picks_row : (id : ℤ) (k : NameNumber) (v : Request) → picks (table_row l id k v) ≡ stands (k, v)
  picks_row id k v = from_number v.place place

  shows_row : (id : ℤ) (k : NameNumber) (v : Request) → entry (shown_of (table_row l id k v))
      ≡ (k, v)
  shows_row id k v = refl

  ordered_as : (id : ℤ) (k : NameNumber) (v : Request) (id′ : ℤ) (k′ : NameNumber) (v′ : Request)
      → output_cmp q (shown_of (table_row l id k v)) (shown_of (table_row l id′ k′ v′))
      ≡ int_cmp v.place v′.place
  ordered_as id k v id′ k′ v′ = number_order v.place v′.place

  module _ (rows : List Row) (are : AreRows l rows) where
    picks_entry : (r : Row) → Has rows r → picks r ≡ stands (l.entry r)
    picks_entry r h =
        let t = are.typed r h in
        ap picks t.3 ∙ picks_row t.0 t.1 t.2
        ∙ ap stands (sym (entry_is store_schema l request_facts r t))

    entry_shown : (r : Row) → Has rows r → entry (shown_of r) ≡ l.entry r
    entry_shown r h =
        let t = are.typed r h in
        ap (λ x. entry (shown_of x)) t.3 ∙ shows_row t.0 t.1 t.2
        ∙ sym (entry_is store_schema l request_facts r t)

    -- the rows that are picked are those of the entries that stand there
    chosen : (all : List Row) → ((r : Row) → Has all r → Has rows r)
        → map (λ r. entry (shown_of r)) (filter picks all) ≡ filter stands (map l.entry all)
    chosen [] sub = refl
    chosen (r ∷ all) sub = chosen_more (λ x. entry (shown_of x)) (picks r) (stands (l.entry r)) r
        (l.entry r) (filter picks all) (filter stands (map l.entry all))
        (picks_entry r (sub r (inl refl))) (entry_shown r (sub r (inl refl)))
        (chosen all (λ x h. sub x (inr h)))

    module _ (ordered : List Output)
        (same : IsPermutation (map shown_of (filter picks rows)) ordered) where
      is_out : (x : Output) → Has ordered x → (r : Row) × Has rows r × (x ≡ shown_of r)
      is_out x h =
          let r = has_mapped shown_of (filter picks rows) x (moved ordered
          (map shown_of (filter picks rows)) x (IsPermutation-sym (map shown_of (filter picks rows))
          ordered same) h) in
          (r.0, (has_filtered picks rows r.0 r.1).0, r.2)

      alike : (x y : Output) → Has ordered x → Has ordered y → output_cmp q x y
          ≡ int_cmp (entry x).1.place (entry y).1.place
      alike x y h k =
          let r = is_out x h in
          let s = is_out y k in
          let tr = are.typed r.0 r.1 in
          let ts = are.typed s.0 s.1 in
          let xs : x ≡ shown_of (table_row l tr.0 tr.1 tr.2) = r.2 ∙ ap shown_of tr.3 in
          let ys : y ≡ shown_of (table_row l ts.0 ts.1 ts.2) = s.2 ∙ ap shown_of ts.3 in
          subst₂ (λ (a b : Output). output_cmp q a b ≡ int_cmp (entry a).1.place (entry b).1.place)
          (sym xs) (sym ys) (ordered_as tr.0 tr.1 tr.2 ts.0 ts.1 ts.2)

  -- a page of the requests
  shows_page : (db : Database) (rows : List Row) → Lives store_schema db
      → Reads (Select (program_of q) names) db params rows
      → IsPage place most (entries (map_of l (db.trees l.plain.tree))) (map (shown_as l) rows)
  shows_page db rows lives h =
      let a = h.answer Null in
      let all = overlay db.trees [] l.plain.tree in
      let base = request_facts.based db.trees in
      let are : AreRows l all = subst (AreRows l) (sym base)
      (rows_in store_schema l request_facts db lives) in
      let kept : List Row = filter picks all in
      let es : List Named = map l.entry all in
      let fs : List Named = map entry a.ordered in
      let staged : a.staged ≡ map (env_of params) kept = a.grouped ∙ picked picks (env_of params) all
      in
      let outs : a.kept ≡ map shown_of kept = a.distinct ∙ ap (map (output q)) staged ∙ map-map
      (output q) (env_of params) kept in
      let same : IsPermutation (map shown_of kept) a.ordered =
      subst (λ k. IsPermutation k a.ordered) outs a.same in
      let whole : map entry (map shown_of kept) ≡ filter stands es =
      map-map entry shown_of kept ∙ chosen all are all (λ r h. h) in
      let permuted : IsPermutation (filter stands es) fs = subst (λ xs. IsPermutation xs fs) whole
      (IsPermutation-map entry (map shown_of kept) a.ordered same) in
      let apart = rows_distinct request_facts.total request_facts.exact l.entry all are.shaped.0
      are.apart in
      let of_map : IsPermutation (filter stands (entries (from_entries {R = l.cmp} es)))
      (filter stands es) = IsPermutation-sym _ _ (made_passed request_facts.total
      request_facts.exact stands es apart) in
      record {
        ordered = fs;
        each = subst (λ rs. IsPermutation (filter stands (entries (map_of l rs))) fs) base
            (IsPermutation-trans _ _ _ of_map permuted);
        rise = sorted_as (output_cmp q) (λ (e : Named). e.1.place) entry a.ordered
            (alike all are a.ordered same) a.sorted;
        first = ap (map (shown_as l)) a.shown
            ∙ sym (take-map (shown_as l) most (map (λ (x : Output). x.1) a.ordered))
            ∙ ap (take most) (map-map (shown_as l) (λ (x : Output). x.1) a.ordered);
      }

-- the same of a connection to which the rows were shown
pub shows_requests : (old new : State) (place : ℤ) (most : ℕ) (rows : List Row) → IsStore old.now
    → Shown page_request (page_params place most) old new rows
    → IsPage place most (entries (contents_of old.now.trees).requests) (map (shown_as l) rows)
shows_requests old new place most rows is h =
    let lives = lives_in old.now is in
    shows_page place most old.now rows lives (reads_as page_request (page_params place most) old new
    store_schema lives.schema_is _ page_means.is page_means.plain page_means.unlisted rows h)
