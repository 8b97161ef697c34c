-- The tables of a store are plain ones.
use Rattle.std.proofs.Common.{◌≡◌, ◌≤◌, ℕ, List, [], ◌∷◌, map, take, length, refl, Bool, true}
use Rattle.std.proofs.Common.{false, sym, ◌∙◌}
use Rattle.std.specs.List.{AllByRecursion}
use Rattle.std.proofs.lemmas.List.{length-map, length-take-le}
use Rattle.std.proofs.lemmas.List.Elements.{All-from_recursion}
use Rattle.sqlite.specs.declared.types.Value.TheVariants.{Null}
use Rattle.sqlite_schema.specs.declared.schema.Column.{Column}
use Rattle.store_tables.specs.Inner.Matching.{IsPlainSchema, IsPlainTable}
use Rattle.store_tables.specs.Plain.{Plain, PlainColumn, column_of, table_of}
use Rattle.store_tables.specs.Tables.{all_tables, schema_of, schema_of_first}

columns_plain : (fs : List PlainColumn) → AllByRecursion (λ (c : Column). c.default ≡ Null)
    (map column_of fs)
columns_plain [] = tt
columns_plain (f ∷ fs) = (refl, columns_plain fs)

plain_table : (p : Plain) → IsPlainTable (table_of p)
plain_table p = record {
  defaults = All-from_recursion (λ (c : Column). c.default ≡ Null) (map column_of p.fields)
      (columns_plain p.fields);
  key = refl;
  checks = refl;
  terms = refl;
}

each_plain : (ps : List Plain) → AllByRecursion IsPlainTable (map table_of ps)
each_plain [] = tt
each_plain (p ∷ ps) = (plain_table p, each_plain ps)

pub made_plain : (ps : List Plain) → IsPlainSchema (schema_of ps)
made_plain ps = record {
  tables = All-from_recursion IsPlainTable (map table_of ps) (each_plain ps);
  views = refl;
}

-- of the first so many tables there are so many
pub first_count : (made : ℕ) → made ≤ 8 → length (schema_of_first made).tables ≡ made
first_count made low = length-map (take made all_tables) table_of ∙ length-take-le made all_tables
    low

pub clash : (b : Bool) → b ≡ true → b ≡ false → ⊥
clash b is isnt = let never : true ≡ false = sym is ∙ isnt in cc
