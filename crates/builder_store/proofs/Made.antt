-- What is written for rings where no row is stands for them alone.
use Rattle.std.proofs.Common.{◌≡◌, ◌∙◌, ◌∷◌, List, [], ap, refl, sym, ℕ}
use Rattle.std.specs.Prelude.{pos}
use Rattle.std.specs.FinMap.{FinMap, empty, from_entries, insert}
use Rattle.std.specs.Ordering.{int_cmp}
use Rattle.sqlite_trees.specs.Tree.{Trees}
use Rattle.store_model.specs.Changes.{with_change, changed_all, prepared}
use Rattle.store_model.specs.Contents.{Contents}
use Rattle.store_model.specs.Entries.{Meta}
use Rattle.store_model.specs.declared.change.RowChange.{RowChange}
use Rattle.store_model.specs.declared.change.RowChange.TheVariants.{AddDevice, DropDevice}
use Rattle.store_model.specs.declared.change.RowChange.TheVariants.{PutPart, AddPart, PutPublished}
use Rattle.store_model.specs.declared.change.RowChange.TheVariants.{PutRing}
use Rattle.store_rows.specs.Differences.{IsChange}
use Rattle.store_rows.specs.Judging.{meta_now}
use Rattle.store_rows.specs.RingRows.{NamedRings}
use Rattle.store_model.specs.declared.rows.MetaRow.{MetaRow}
use Rattle.store_tables.specs.Store.{IsStoreWith, begun_contents}
use Rattle.store_rows.specs.Stands.{IsHoldable, contents_for, meta_value}
use Rattle.builder_store.specs.Making.{rings_alone}
use Rattle.builder_store.specs.Opening.{Stands, no_contents}
use Rattle.builder_store.proofs.Settled.{declared_in}

-- changes of rows leave the row on the whole store
meta_stays : (c : Contents) (m : FinMap int_cmp Meta) (changes : List RowChange)
    → changed_all (record c { meta = m }) changes ≡ record (changed_all c changes) { meta = m }
meta_stays c m [] = refl
meta_stays c m (DropDevice key ∷ rest) = meta_stays (with_change c (DropDevice key)) m rest
meta_stays c m (PutRing row ∷ rest) = meta_stays (with_change c (PutRing row)) m rest
meta_stays c m (AddDevice row ∷ rest) = meta_stays (with_change c (AddDevice row)) m rest
meta_stays c m (PutPart row ∷ rest) = meta_stays (with_change c (PutPart row)) m rest
meta_stays c m (AddPart row ∷ rest) = meta_stays (with_change c (AddPart row)) m rest
meta_stays c m (PutPublished row ∷ rest) = meta_stays (with_change c (PutPublished row)) m rest

-- the contents without the rows of schema 1
abbrev first_gone : Contents → Contents
first_gone c = record c { seats = empty; moved = empty }

-- the row on the whole store where the book goes on from this hour
abbrev alone_meta : ℕ → FinMap int_cmp Meta
alone_meta hour = from_entries ((pos 1, meta_value 2 hour) ∷ [])

-- written where no row is, the change from no rings to these stands for them
pub prepared_alone : (rings : NamedRings) (changes : List RowChange) → IsChange [] rings changes
    → (hour : ℕ) → prepared no_contents changes (meta_now hour) ≡ contents_for
    (rings_alone rings hour)
prepared_alone rings changes is hour =
    let d : Contents = changed_all no_contents changes in
    let none : d.meta ≡ empty = ap (λ (c : Contents). c.meta) (meta_stays no_contents empty changes) in
    let there : record d { meta = alone_meta hour } ≡ contents_for (rings_alone rings hour) =
    sym (meta_stays no_contents (alone_meta hour) changes)
    ∙ is.applied (rings_alone [] hour) refl in
    ap (λ (m : FinMap int_cmp Meta). record (first_gone d) {
      meta = insert m (pos 1) (meta_value 2 hour);
    }) none ∙ ap first_gone there

-- and trees that contain what is written stand for the rings and the hour
pub made_stands : (db before : Trees) (rings : NamedRings) (hour : ℕ)
    (changes shown : List RowChange) (meta : MetaRow) → shown ≡ changes → meta ≡ meta_now hour
    → (prepared no_contents changes (meta_now hour) ≡ contents_for (rings_alone rings hour))
    × IsHoldable (rings_alone rings hour)
    → IsStoreWith (prepared (begun_contents 0 before) shown meta) db
    → Stands db (rings_alone rings hour)
made_stands db before rings hour changes shown meta same is planned holds = record {
  declared = declared_in _ db holds;
  holdable = planned.1;
  contents = holds.contents ∙ ap (λ xs. prepared no_contents xs meta) same ∙ ap
      (prepared no_contents changes) is ∙ planned.0;
}
