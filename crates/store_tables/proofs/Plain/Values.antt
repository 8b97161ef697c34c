-- Values of STRICT columns: how they are cast and compared.
use Rattle.std.proofs.Common.{◌≡◌, inl, inr, Some, ℕ, ℤ, Bool, true, false, cond, List, [], ◌∷◌}
use Rattle.std.proofs.Common.{refl, sym, ap, ◌∙◌, ◌&&◌, true≢false}
use Rattle.std.specs.Ordering.{is_eq, is_ge, nat_cmp, int_cmp, ordering_then}
use Rattle.std.specs.declared.cmp.Ordering.{Ordering}
use Rattle.std.specs.declared.cmp.Ordering.TheVariants.{Less, Equal, Greater}
use Rattle.std.specs.Cmp.Lexicographic.{slice_cmp}
use Rattle.std.proofs.lemmas.Bool.{cases_Bool}
use Rattle.sqlite_value.specs.declared.value.Value.{Value}
use Rattle.sqlite_value.specs.declared.value.Value.TheVariants.{Null, Int, Text}
use Rattle.sqlite_value.specs.declared.keys.Collation.TheVariants.{Binary}
use Rattle.sqlite_value.specs.Order.{Row, value_cmp}
use Rattle.sqlite_value.proofs.OrderLemmas.{value_cmp-Int, value_cmp-Text}
use Rattle.sqlite_trees.specs.Tree.{rowid, without_rowid}
use Rattle.sqlite_trees.specs.View.{IsShaped}
use Rattle.sqlite_trees.specs.declared.store.Shape.TheVariants.{Table}
use Rattle.sqlite_trees.proofs.TreeLemmas.{IsShaped-filter}
use Rattle.sqlite_sql.specs.Ops.{unary, binary, is_true, from_truth}
use Rattle.sqlite_sql.specs.declared.ops.BinaryOp.TheVariants.{Compare}
use Rattle.sqlite_sql.specs.declared.ops.CompareOp.TheVariants.{Ge}
use Rattle.sqlite_schema.specs.declared.schema.Kind.TheVariants.{Integer}
use Rattle.sqlite_schema.specs.Rules.{equal}
use Rattle.sqlite_rules.specs.declared.error.Rowids.TheVariants.{Chosen}
use Rattle.sqlite_rules.specs.Cast.{cast}
use Rattle.sqlite_rules.specs.Lists.{Has}
use Rattle.sqlite_rules.specs.Edit.{next_rowid, without_all}
use Rattle.sqlite_rules.proofs.ListLemmas.{some_from}
use Rattle.sqlite_rules.proofs.PlaceLemmas.{next_is_free}

either : (b : Bool) (x : Value) → cond b x x ≡ x
either true x = refl
either false x = refl

pub cast_null : cast Integer Null ≡ Null
unfolding unary
cast_null = either _ Null

pub cast_int : (n : ℤ) → cast Integer (Int n) ≡ Int n
unfolding unary
cast_int n = either _ (Int n)

truth_of : (b : Bool) → is_true (from_truth (Some b)) ≡ b
truth_of true = refl
truth_of false = refl

pub equal_ints : (m n : ℤ) → equal Binary (Int m) (Int n) ≡ is_eq (int_cmp m n)
unfolding binary
equal_ints m n = truth_of _ ∙ ap is_eq (value_cmp-Int m n)

pub no_less_ints : (m n : ℤ) → is_true (binary (Compare Ge Binary) (Int m) (Int n))
    ≡ is_ge (int_cmp m n)
unfolding binary
no_less_ints m n = truth_of _ ∙ ap is_ge (value_cmp-Int m n)

pub equal_texts : (s t : List ℕ) → equal Binary (Text s) (Text t) ≡ is_eq (slice_cmp nat_cmp s t)
unfolding binary
equal_texts s t = truth_of _ ∙ ap is_eq (value_cmp-Text s t)

pub both_equal : (a b : Ordering) → (is_eq a && (is_eq b && true)) ≡ is_eq (ordering_then a b)
both_equal Less b = refl
both_equal Greater b = refl
both_equal Equal Less = refl
both_equal Equal Equal = refl
both_equal Equal Greater = refl

pub all_three : (a b c : Ordering) → (is_eq a && (is_eq b && (is_eq c && true)))
    ≡ is_eq (ordering_then a (ordering_then b c))
all_three Less b c = refl
all_three Greater b c = refl
all_three Equal b c = both_equal b c

pub alone : (b : Bool) → (b && true) ≡ b
alone true = refl
alone false = refl

-- no row has the rowid that is chosen next
pub is_fresh : (rows : List Row) → IsShaped Table rows → (r : Row) → Has rows r
    → is_eq (value_cmp (rowid r) (Int (next_rowid rows))) ≡ false
is_fresh rows shaped r h = elim (cases_Bool (is_eq (value_cmp (rowid r) (Int (next_rowid rows))))) [
  | inl taken ↦ absurd (true≢false (sym (some_from _ rows r h taken) ∙ next_is_free Chosen rows []
      shaped.0 shaped.1))
  | inr free ↦ free
]

pub left_shaped : (rows : List Row) (ids : List ℤ) → IsShaped Table rows
    → IsShaped Table (without_all rows ids)
left_shaped rows [] h = h
left_shaped rows (id ∷ ids) h = left_shaped (without_rowid id rows) ids (IsShaped-filter Table _
    rows h)
