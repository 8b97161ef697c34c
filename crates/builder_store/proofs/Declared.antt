-- How many tables are there is told by their declarations.
use Rattle.std.proofs.Common.{◌≡◌, ◌∙◌, ◌≤◌, ap, length, sym, ℕ}
use Rattle.store_tables.specs.Tables.{schema_of_first}
use Rattle.store_tables.proofs.PlainSchemas.{first_count}
use Rattle.sqlite_schema.specs.declared.schema.Schema.{Schema}

pub made_once : (made other : ℕ) → made ≤ 8 → other ≤ 8
    → schema_of_first made ≡ schema_of_first other → made ≡ other
made_once made other low less is = sym (first_count made low) ∙ ap (λ (s : Schema). length s.tables)
    is ∙ first_count other less
