-- What a CREATE TABLE makes, whatever the table.
use Rattle.std.proofs.Common.{◌≡◌, ◌⊎◌, None, inl, inr, List, ℕ, [], ◌∷◌, ◌++◌, Ok, false, sym, ap}
use Rattle.std.proofs.Common.{subst, ◌∙◌}
use Rattle.sqlite.specs.Table.{Table}
use Rattle.sqlite.specs.Compile.{table_defined_by}
use Rattle.sqlite.specs.Command.TheVariants.{CreateTable}
use Rattle.sqlite.specs.Listing.{understood}
use Rattle.sqlite.specs.Change.{created, next_tree, KeepsRows}
use Rattle.sqlite.proofs.Callers.{IsPlain, command_of, statement_of, runs_as}
use Rattle.sqlite_schema.specs.declared.schema.Schema.{Schema}
use Rattle.sqlite.specs.Effect.{Database, IsDatabase}
use Rattle.sqlite.specs.Does.{Tally, lacks_sequence}
use Rattle.sqlite.specs.State.{State, Writes, Executes}
use Rattle.sqlite_trees.specs.View.{IsShaped}
use Rattle.sqlite_trees.specs.declared.store.Shape.TheVariants as shape
use Rattle.sqlite_rules.specs.Lists.{Has}
use Rattle.sqlite_rules.proofs.ListLemmas.{all_has}
use Rattle.store_tables.proofs.Plain.Writes.{went, same_value, AreShaped}

-- the text makes this table, and the schema is then the second one
pub record CreateText (schema after : Schema) (text : List ℕ) (table : Table) (tree : ℕ) : Type 0
  where
    pub is : command_of (understood schema text) ≡ CreateTable
    pub whole : statement_of text (understood schema text) ≡ text
    pub defined : table_defined_by text ≡ Ok table
    pub plain : IsPlain (understood schema text)
    pub made : created schema table ≡ after
    pub unlacking : lacks_sequence after ≡ false
    pub next : next_tree schema ≡ tree

-- the tables are made, and the new one is empty
pub record IsMade (old new : Database) (before after : Schema) (tree : ℕ) : Type 0 where
  pub schema_is : new.schema ≡ after
  pub empty : new.trees tree ≡ []
  pub others : KeepsRows before.tables old.trees new.trees
  pub sound : IsDatabase new

pub creates_table : (schema after : Schema) (text : List ℕ) (table : Table) (tree : ℕ)
    → CreateText schema after text table tree → (old new : State) (count : ℕ)
    → old.now.schema ≡ schema → Executes text [] old new (Ok count)
    → IsMade old.now new.now schema after tree
creates_table schema after text table tree t old new count has h =
    let w = subst (λ t. Writes old new None CreateTable t [] count) t.whole (runs_as text [] old new
    schema has CreateTable t.is t.plain count h) in
    let all = went w.changed in
    let first = went all.1 in
    let made = first.1 in
    let both : Ok made.table ≡ Ok table = sym made.defined ∙ t.defined in
    let same : made.table ≡ table = cc in
    let schema_is : first.0.schema ≡ after = made.is ∙ ap (λ s. created s made.table) has ∙ ap
    (created schema) same ∙ t.made in
    let lacks : lacks_sequence first.0.schema ≡ false = ap lacks_sequence schema_is ∙ t.unlacking in
    let now : new.now ≡ first.0 = ap (λ (p : Tally × Database). p.1) (same_value all.2) ∙ same_value
    (rw lacks at first.2) in
    record {
      schema_is = ap (λ (d : Database). d.schema) now ∙ schema_is;
      empty = ap (λ (d : Database). d.trees tree) now ∙ subst (λ t. first.0.trees t ≡ [])
          (ap next_tree has ∙ t.next) made.empty;
      others = subst (λ (d : Database). KeepsRows schema.tables old.now.trees d.trees) (sym now)
          (subst (λ s. KeepsRows s.tables old.now.trees first.0.trees) has made.others);
      sound = w.sound;
    }

last_or_before : (tables : List Table) (table t : Table) → Has (tables ++ table ∷ []) t
    → Has tables t ⊎ (t ≡ table)
last_or_before [] table t (inl same) = inr same
last_or_before [] table t (inr more) = elim more [ ]
last_or_before (x ∷ tables) table t (inl same) = inl (inl same)
last_or_before (x ∷ tables) table t (inr more) = elim (last_or_before tables table t more)
    [ inl before ↦ inl (inr before) | inr last ↦ inr last ]

-- rowids rise in the tables that were there, and in the new one
pub made_ordered : (old new : Database) (before after : Schema) (table : Table)
    → AreShaped before old.trees → after.tables ≡ before.tables ++ table ∷ []
    → IsMade old new before after table.tree → AreShaped after new.trees
made_ordered old new before after table ordered more it t h =
    elim (last_or_before before.tables table t (subst (λ ts. Has ts t) more h)) [
      | inl was ↦ subst (IsShaped shape.Table) (sym (all_has _ before.tables t it.others was))
          (ordered t was)
      | inr same ↦ subst (λ (x : Table). IsShaped shape.Table (new.trees x.tree)) (sym same)
          (subst (IsShaped shape.Table) (sym it.empty) (tt, tt))
    ]
