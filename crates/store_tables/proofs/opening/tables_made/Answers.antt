use Rattle.std.proofs.Common.{◌≡◌, ◌∙◌, ap, arith, length, subst, sym, take}
use Rattle.sqlite.specs.Schema.{Schema}
use Rattle.store_tables.specs.Inner.Matching.{IsPlainSchema}
use Rattle.store_tables.specs.Tables.{all_tables, schema_of_first}
use Rattle.store_tables.proofs.PlainSchemas.{clash, first_count, made_plain}
use Rattle.store_tables.proofs.opening.tables_made.Goals as goal

pub returns-then-not-branch-clause-missing : goal.returns-then-not-branch-clause-missing
returns-then-not-branch-clause-missing g c = λ none made low is.
    let seen : c.schema-schema.result.now ≡ schema_of_first made = c.schema-schema.ensures.value ∙ is
    in
    let many : length c.as_slice-made.result.now ≡ made = ap length c.as_slice-made.ensures ∙ ap
    (λ (s : Schema). length s.tables) seen ∙ first_count made low in
    let other : c.schema.result.now ≡ schema_of_first made = c.schema.ensures.value ∙
    c.in_ok-first.ensures.schema ∙ ap schema_of_first many in
    absurd (clash _ (c.in_ok-are_same.ensures.plain (subst IsPlainSchema (sym seen)
    (made_plain (take made all_tables))) (seen ∙ sym other)) c.if-not-branch.true)

pub returns-then-made-gt-TABLE_COUNT-clause-missing :
    goal.returns-then-made-gt-TABLE_COUNT-clause-missing
returns-then-made-gt-TABLE_COUNT-clause-missing g c = λ none made low is.
    let seen : c.schema-schema.result.now ≡ schema_of_first made = c.schema-schema.ensures.value ∙ is
    in
    let many : length c.as_slice-made.result.now ≡ made = ap length c.as_slice-made.ensures ∙ ap
    (λ (s : Schema). length s.tables) seen ∙ first_count made low in
    absurd (omega (arith, many, low, c.if-made-gt-TABLE_COUNT.true))
