-- In files that were opened the rowids of each table rise.
use Rattle.std.proofs.Common.{inl, inr, List, [], ◌∷◌, filter, subst, sym}
use Rattle.std.proofs.Math.Logic.{∥∥₁_elim}
use Rattle.std.specs.List.{AllZip}
use Rattle.sqlite_trees.specs.Tree.{Trees}
use Rattle.sqlite_trees.specs.Objects.{catalog_tree, IsListed}
use Rattle.sqlite_trees.specs.Props.{IsOrdered-prop}
use Rattle.sqlite_trees.specs.View.{IsOrdered, IsShaped}
use Rattle.sqlite_trees.specs.declared.store.Shape.TheVariants as shape
use Rattle.sqlite_schema.specs.declared.schema.Schema.{Schema}
use Rattle.sqlite_schema.specs.declared.schema.Table.{Table}
use Rattle.sqlite_rules.specs.Lists.{Has}
use Rattle.sqlite_rules.proofs.ListLemmas.{all_has}
use Rattle.sqlite_catalog.specs.Listing.{IsSound, IsTableRow, is_table_row}
use Rattle.sqlite_catalog.proofs.LayoutLemmas.{laid_out}
use Rattle.sqlite_wal.specs.Recovery.{Image}
use Rattle.sqlite_pool.specs.File.{version_in, in_use}
use Rattle.sqlite_store.specs.Listed.{catalog_rows, is_listed}
use Rattle.sqlite_store.specs.Listing.{all_reals, all_shapes, file_trees}
use Rattle.sqlite_store.proofs.ListingLemmas.{all_ordered}
use Rattle.sqlite.specs.Files.{AreFoundIn}

-- nothing lists no table
no_table : (tables : List Table) → AllZip IsTableRow [] tables → (t : Table) → Has tables t → ⊥
no_table [] all t h = h
no_table (u ∷ tables) all t h = all

pub tables_rise : (image : Image) (schema : Schema) (db : Trees) → AreFoundIn image db
    → IsSound schema db → (t : Table) → Has schema.tables t → IsShaped shape.Table (db t.tree)
tables_rise image schema db (inl found) sound t h =
    let size = found.0 in
    let pages = found.1 in
    let wanted = found.2 in
    let trees = file_trees size wanted pages in
    let ordered : IsOrdered (all_shapes wanted) trees = ∥∥₁_elim found.4 (IsOrdered-prop _ _)
    (λ ours. all_ordered ours.file.db (version_in pages)) in
    let listed : IsListed (trees catalog_tree) (all_shapes wanted) (all_reals wanted) =
    rw (catalog_rows size wanted (in_use size pages)) (is_listed wanted) in
    let here : IsSound schema trees = subst (IsSound schema) found.5 sound in
    let laid = laid_out listed (subst (λ s. IsShaped s (trees catalog_tree)) listed.itself.0
    (ordered catalog_tree)) here.lists.listed in
    subst (λ d. IsShaped shape.Table (d t.tree)) (sym found.5)
    (subst (λ s. IsShaped s (trees t.tree)) (all_has _ schema.tables t laid.tables h)
    (ordered t.tree))
tables_rise image schema db (inr none) sound t h =
    absurd (no_table schema.tables (subst (λ rows. AllZip IsTableRow (filter is_table_row rows)
    schema.tables) none.1.1 sound.lists.listed.tables) t h)
