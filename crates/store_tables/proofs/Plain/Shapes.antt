-- What STRICT and NOT NULL say of a row: a rowid, and then a value of its own kind for each column.
use Rattle.std.proofs.Common.{◌≡◌, ℕ, ◌+◌, Bool, true, false, not, List, [], ◌∷◌, ◌++◌, map}
use Rattle.std.proofs.Common.{length, drop, None, refl, sym, ap, subst, ◌∙◌, true≢false, ◌&&◌}
use Rattle.std.proofs.Common.{if◌then◌else◌}
use Rattle.std.proofs.Common.{append_assoc, length-append}
use Rattle.std.proofs.lemmas.Bool.{and_parts}
use Rattle.sqlite_value.specs.declared.value.Value.{Value}
use Rattle.sqlite_value.specs.declared.value.Value.TheVariants.{Null, Int, Real, Text, Blob}
use Rattle.sqlite_value.specs.Order.{Row, column, bytes as bytes_of}
use Rattle.sqlite_trees.specs.Tree.{rowid}
use Rattle.sqlite_trees.specs.View.{is_int}
use Rattle.sqlite_sql.specs.Ops.{is_null}
use Rattle.sqlite_schema.specs.Rules.{is_of, are_typed, are_present}
use Rattle.sqlite_rules.specs.Edit.{id_in}
use Rattle.sqlite_rules.specs.Cast.{cast, cast_all}
use Rattle.sqlite.specs.Rows.{mended_from}
use Rattle.sqlite_schema.specs.Names.{is_key}
use Rattle.store_tables.specs.Plain.{ColumnKind, text, number, bytes, PlainColumn, column_of}
use Rattle.store_tables.specs.Plain.{kind_of}
use Rattle.store_tables.proofs.Plain.Values.{cast_int}

-- the value of a column of this kind, read back from what it holds
abbrev pub cell : ColumnKind → Value → Value
cell text v = Text (bytes_of v)
cell number v = Int (id_in v)
cell bytes v = Blob (bytes_of v)

-- the columns of a row from this place on, read so
abbrev pub cells : List PlainColumn → ℕ → Row → Row
cells [] at x = []
cells (f ∷ fs) at x = cell f.holds (column x at) ∷ cells fs (at + 1) x

cell_is : (h : ColumnKind) (v : Value) → is_of (column_of (record { name = []; holds = h })).kind v
    ≡ true → is_null v ≡ false → cell h v ≡ v
cell_is text (Text t) h k = refl
cell_is number (Int n) h k = refl
cell_is bytes (Blob b) h k = refl
cell_is h Null typed k = absurd (true≢false k)
cell_is text (Int n) h k = absurd (true≢false (sym h))
cell_is text (Real x) h k = absurd (true≢false (sym h))
cell_is text (Blob b) h k = absurd (true≢false (sym h))
cell_is number (Real x) h k = absurd (true≢false (sym h))
cell_is number (Text t) h k = absurd (true≢false (sym h))
cell_is number (Blob b) h k = absurd (true≢false (sym h))
cell_is bytes (Int n) h k = absurd (true≢false (sym h))
cell_is bytes (Real x) h k = absurd (true≢false (sym h))
cell_is bytes (Text t) h k = absurd (true≢false (sym h))

rowid_is : (v : Value) → is_int v ≡ true → Int (id_in v) ≡ v
rowid_is Null h = absurd (true≢false (sym h))
rowid_is (Int n) h = refl
rowid_is (Real x) h = absurd (true≢false (sym h))
rowid_is (Text t) h = absurd (true≢false (sym h))
rowid_is (Blob b) h = absurd (true≢false (sym h))

pub present : (b : Bool) → not b ≡ true → b ≡ false
present true h = absurd (true≢false (sym h))
present false h = refl

column_at : (front vs : Row) (v : Value) → column (front ++ v ∷ vs) (length front) ≡ v
column_at [] vs v = refl
column_at (x ∷ front) vs v = column_at front vs v

column_past : (front : Row) → column (front ++ []) (length front) ≡ Null
column_past [] = refl
column_past (x ∷ front) = column_past front

cells_are : (fs : List PlainColumn) (at : ℕ) (front vs : Row) → length front ≡ at + 1
    → are_typed None at (map column_of fs) vs ≡ true
    → are_present None at (map column_of fs) (front ++ vs) ≡ true
    → vs ≡ cells fs (at + 1) (front ++ vs)
cells_are [] at front [] long t p = refl
cells_are [] at front (v ∷ vs) long t p = absurd (true≢false (sym t))
cells_are (f ∷ fs) at front [] long t p =
    let here = (and_parts _ _ p).0 in
    absurd (true≢false (sym here ∙ ap (λ v. not (is_null v)) (ap (column (front ++ [])) (sym long) ∙
    column_past front)))
cells_are (f ∷ fs) at front (v ∷ vs) long t p =
    let ts = and_parts _ _ t in
    let ps = and_parts _ _ p in
    let seen : column (front ++ v ∷ vs) (at + 1) ≡ v = ap (column (front ++ v ∷ vs)) (sym long) ∙
    column_at front vs v in
    let here : is_null v ≡ false =
    present _ (ap (λ x. not (is_null x)) (sym seen) ∙ ps.0) in
    let one : v ≡ cell f.holds (column (front ++ v ∷ vs) (at + 1)) =
    sym (ap (cell f.holds) seen ∙ cell_is f.holds v ts.0 here) in
    let longer : length (front ++ v ∷ []) ≡ at + 1 + 1 = length-append front (v ∷ []) ∙ ap
    (λ n. n + 1) long in
    let row : front ++ v ∷ vs ≡ (front ++ v ∷ []) ++ vs = sym (append_assoc front (v ∷ []) vs) in
    let more = cells_are fs (at + 1) (front ++ v ∷ []) vs longer ts.1
    (subst (λ r. are_present None (at + 1) (map column_of fs) r ≡ true) row ps.1) in
    let rest = more ∙ ap (cells fs (at + 1 + 1)) (sym row) in
    λ j. one j ∷ rest j

-- a row of these columns is a rowid and their values
pub shape_of : (fs : List PlainColumn) (x : Row) → is_int (rowid x) ≡ true
    → are_typed None 0 (map column_of fs) (drop 1 x) ≡ true
    → are_present None 0 (map column_of fs) x ≡ true
    → x ≡ Int (id_in (column x 0)) ∷ cells fs 1 x
shape_of fs [] int t p = absurd (true≢false (sym int))
shape_of fs (i ∷ vs) int t p =
    let id = rowid_is i int in
    let more = cells_are fs 0 (i ∷ []) vs refl t p in
    λ j. sym id j ∷ more j

-- ---- such values stand as they are written

cast_cell : (h : ColumnKind) (v : Value) → cast (kind_of h) (cell h v) ≡ cell h v
cast_cell text v = refl
cast_cell number v = cast_int (id_in v)
cast_cell bytes v = refl

pub cast_cells : (fs : List PlainColumn) (at : ℕ) (x : Row)
    → cast_all (map column_of fs) (cells fs at x) ≡ cells fs at x
cast_cells [] at x = refl
cast_cells (f ∷ fs) at x = λ j. cast_cell f.holds (column x at) j ∷ cast_cells fs (at + 1) x j

mended_cell : (h : ColumnKind) (v : Value) (other : Bool)
    → (if true && is_null (cell h v) && other then Null else cell h v) ≡ cell h v
mended_cell text v other = refl
mended_cell number v other = refl
mended_cell bytes v other = refl

pub mended_cells : (fs : List PlainColumn) (key at : ℕ) (x : Row)
    → mended_from None key (map column_of fs) (cells fs at x) ≡ cells fs at x
mended_cells [] key at x = refl
mended_cells (f ∷ fs) key at x = λ j.
    mended_cell f.holds (column x at) (not (is_key None key)) j ∷ mended_cells fs (key + 1) (at + 1) x j
