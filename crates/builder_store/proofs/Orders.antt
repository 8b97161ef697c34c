-- What the laws of a store say of the tables.
use Rattle.std.proofs.Common.{subst, Result, Ok, Err, IfOk}
use Rattle.sqlite_trees.specs.Objects.{catalog_tree, IsListed}
use Rattle.sqlite_trees.specs.View.{View, IsOrdered, IsShaped}
use Rattle.sqlite_trees.specs.declared.store.Shape.TheVariants as shape
use Rattle.sqlite_schema.specs.declared.schema.Table.{Table}
use Rattle.sqlite_schema.specs.declared.schema.Schema.{Schema}
use Rattle.sqlite_rules.specs.Lists.{Has}
use Rattle.sqlite_rules.proofs.ListLemmas.{all_has}
use Rattle.sqlite_catalog.specs.Listing.{IsSound}
use Rattle.sqlite_catalog.proofs.LayoutLemmas.{laid_out, objects_rise}

pub tables_ordered : (v : View) (schema : Schema) → IsSound schema v.trees
    → IsListed (v.trees catalog_tree) v.shape v.reals → IsOrdered v.shape v.trees
    → (t : Table) → Has schema.tables t → IsShaped shape.Table (v.trees t.tree)
tables_ordered v schema sound listed ordered t h =
    let laid = laid_out listed (objects_rise v listed ordered) sound.lists.listed in
    subst (λ s. IsShaped s (v.trees t.tree)) (all_has _ schema.tables t laid.tables h)
    (ordered t.tree)

pub if_ok_three : {X E : Type 0} (r : Result X E) (P Q R S : X → Type 0) → ((x : X) → P x → Q x
    → R x → S x) → IfOk r P → IfOk r Q → IfOk r R → IfOk r S
if_ok_three (Ok x) P Q R S f p q r = f x p q r
if_ok_three (Err e) P Q R S f p q r = tt
