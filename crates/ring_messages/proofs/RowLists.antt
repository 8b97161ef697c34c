-- Lists of rows, and the JSON that they are.
use Rattle.std.proofs.Common.{◌≡◌, ℕ, zero, suc, ◌<◌, ◌+◌, List, [], ◌∷◌, ◌++◌, map, length, take}
use Rattle.std.proofs.Common.{get_or, Option, Some, None, Err, Vec, Global, refl, sym, ap, ap₂, ◌∙◌}
use Rattle.std.proofs.Common.{subst, arith}
use Rattle.std.specs.List.{All, AllByRecursion, AllZip}
use Rattle.std.proofs.lemmas.List.{map-append, take_more}
use Rattle.std.proofs.lemmas.List.Elements.{recursion_from_All}
use Rattle.serde_json.specs.Data.{Data, null, boolean, number, unsigned, string, array, object}
use Rattle.serde_json.specs.Data.{Items, no_items, item}
use Rattle.serde_json.specs.Find.{as_array, at}
use Rattle.serde_json.specs.View.{items_of, view}
use Rattle.serde_json.specs.declared.value.Value.{Value}
use Rattle.ring_words.specs.Rows.{IsProperRow}
use Rattle.ring_words.specs.declared.device.Row.{Row}
use Rattle.ring_messages.specs.Fields.{row_data}
use Rattle.ring_words.specs.Spelling.{Reads}
use Rattle.ring_messages.specs.Inner.Says.{SaysRow, IsRows, ListsRow, ListsRows}
use Rattle.ring_words.specs.Inner.ReadsAs.{ReadsAs}
use Rattle.ring_words.specs.declared.spelling.SpellingFault.{SpellingFault}
use Rattle.ring_words.specs.declared.spelling.SpellingFault.TheVariants.{Bad, NoMemory}
use Rattle.ring_messages.proofs.OneValue.{same_number_read, same_name, same_weight, same_address}

abbrev row_of : ℕ → ℕ → ℕ → ℕ → List ℕ → ℕ → Row
row_of r z a p n w = record { region = r; zone = z; address = a; port = p; name = n; weight = w }

pub equal_rows : (r q : Row) → r.region ≡ q.region → r.zone ≡ q.zone → r.address ≡ q.address
    → r.port ≡ q.port → r.name ≡ q.name → r.weight ≡ q.weight → r ≡ q
equal_rows r q a b c d e f = ap (λ (x : ℕ). row_of x r.zone r.address r.port r.name r.weight) a
    ∙ ap (λ (x : ℕ). row_of q.region x r.address r.port r.name r.weight) b
    ∙ ap (λ (x : ℕ). row_of q.region q.zone x r.port r.name r.weight) c
    ∙ ap (λ (x : ℕ). row_of q.region q.zone q.address x r.name r.weight) d
    ∙ ap (λ (x : List ℕ). row_of q.region q.zone q.address q.port x r.weight) e
    ∙ ap (λ (x : ℕ). row_of q.region q.zone q.address q.port q.name x) f

-- the same words are of one row
pub same_row : (a b c d e f : Option Data) (r q : Row) → SaysRow a b c d e f r →
    SaysRow a b c d e f q
    → r ≡ q
same_row a b c d e f r q h k = equal_rows r q (same_number_read _ _ _ _ _ _ _ h.0 k.0)
    (same_number_read _ _ _ _ _ _ _ h.1.0 k.1.0) (same_address _ _ _ h.1.1.0 k.1.1.0)
    (same_number_read _ _ _ _ _ _ _ h.1.1.1.0 k.1.1.1.0) (same_name _ _ _ _ h.1.1.1.1.0 k.1.1.1.1.0)
    (same_weight _ _ _ h.1.1.1.1.1.0 k.1.1.1.1.1.0)

one_listed : (d : Data) (r q : Row) → ListsRow d r → ListsRow d q → r ≡ q
one_listed d r q h k = same_row _ _ _ _ _ _ r q h.row k.row

one_list : (lists : List Data) (rs qs : List Row) → AllZip ListsRow lists rs
    → AllZip ListsRow lists qs → rs ≡ qs
one_list [] [] [] h k = refl
one_list [] [] (q ∷ qs) h k = absurd k
one_list [] (r ∷ rs) qs h k = absurd h
one_list (d ∷ ds) [] qs h k = absurd h
one_list (d ∷ ds) (r ∷ rs) [] h k = absurd k
one_list (d ∷ ds) (r ∷ rs) (q ∷ qs) h k = ap₂ (λ (x : Row) (xs : List Row). x ∷ xs)
    (one_listed d r q h.0 k.0) (one_list ds rs qs h.1 k.1)

-- ---- which lists stand there

first_same : (d e : Data) (ds es : Items) → item d ds ≡ item e es → d ≡ e
first_same d e ds es h = cc

rest_same : (d e : Data) (ds es : Items) → item d ds ≡ item e es → ds ≡ es
rest_same d e ds es h = cc

pub same_lists : (xs ys : List Data) → items_of xs ≡ items_of ys → xs ≡ ys
same_lists [] [] h = refl
same_lists [] (y ∷ ys) h = cc
same_lists (x ∷ xs) [] h = cc
same_lists (x ∷ xs) (y ∷ ys) h = ap₂ (λ (z : Data) (zs : List Data). z ∷ zs) (first_same x y _ _ h)
    (same_lists xs ys (rest_same x y _ _ h))

array_same : (a b : Items) → Some (array a) ≡ Some (array b) → a ≡ b
array_same a b h = cc

pub same_rows : (found : Option Data) (rs qs : List Row) → ListsRows found rs → ListsRows found qs
    → rs ≡ qs
same_rows found rs qs h k =
    let lists : h.lists ≡ k.lists = same_lists h.lists k.lists (array_same _ _ (sym h.is ∙ k.is)) in
    one_list k.lists rs qs (subst (λ (ls : List Data). AllZip ListsRow ls rs) lists h.each) k.each

-- ---- a list that lists a row is the row's

none_some : {X : Type 0} (x : X) → None ≡ Some x → ⊥
none_some x e = cc

some_same : (a b : Data) → Some a ≡ Some b → a ≡ b
some_same a b e = cc

listed : (d : Data) (r : Row) → ListsRow d r → d ≡ row_data r
listed null r h = absurd (none_some _ h.row.0.is)
listed (boolean b) r h = absurd (none_some _ h.row.0.is)
listed (number n) r h = absurd (none_some _ h.row.0.is)
listed (string s) r h = absurd (none_some _ h.row.0.is)
listed (object ms) r h = absurd (none_some _ h.row.0.is)
listed (array no_items) r h = absurd (none_some _ h.row.0.is)
listed (array (item a no_items)) r h = absurd (none_some _ h.row.1.0.is)
listed (array (item a (item b no_items))) r h = absurd (none_some _ h.row.1.1.0.is)
listed (array (item a (item b (item c no_items)))) r h = absurd (none_some _ h.row.1.1.1.0.is)
listed (array (item a (item b (item c (item d no_items))))) r h =
    absurd (none_some _ h.row.1.1.1.1.0.is)
listed (array (item a (item b (item c (item d (item e no_items)))))) r h =
    absurd (none_some _ h.row.1.1.1.1.1.0.is)
listed (array (item a (item b (item c (item d (item e (item f (item g more)))))))) r h =
    absurd (none_some _ (sym h.end))
listed (array (item a (item b (item c (item d (item e (item f no_items))))))) r h =
    rw (
      some_same _ _ h.row.0.is,
      some_same _ _ h.row.1.0.is,
      some_same _ _ h.row.1.1.0.is,
      some_same _ _ h.row.1.1.1.0.is,
      some_same _ _ h.row.1.1.1.1.0.is,
      some_same _ _ h.row.1.1.1.1.1.0.is,
    ) refl

all_listed : (lists : List Data) (rows : List Row) → AllZip ListsRow lists rows
    → lists ≡ map row_data rows
all_listed [] [] h = refl
all_listed [] (r ∷ rs) h = absurd h
all_listed (d ∷ ds) [] h = absurd h
all_listed (d ∷ ds) (r ∷ rs) h = ap₂ (λ (x : Data) (xs : List Data). x ∷ xs) (listed d r h.0)
    (all_listed ds rs h.1)

pub rows_found : (found : Option Data) (rows : List Row) → ListsRows found rows
    → found ≡ Some (array (items_of (map row_data rows)))
rows_found found rows h = h.is
    ∙ ap (λ (ls : List Data). Some (array (items_of ls))) (all_listed h.lists rows h.each)

-- ---- proper rows and their lists

pub row_is : (r : Row) → IsProperRow r → SaysRow (Some (number (unsigned r.region)))
    (Some (number (unsigned r.zone))) (at 2 (row_data r)) (Some (number (unsigned r.port)))
    (Some (string r.name)) (at 5 (row_data r)) r
row_is r h = (
  record { is = refl; above = omega arith; below = omega (arith, h.region) },
  (
    record { is = refl; above = omega arith; below = omega (arith, h.zone) },
    (
      record { is = refl; valid = h.address },
      (
        record { is = refl; above = h.port.0; below = omega (arith, h.port.1) },
        (
          record { is = refl; valid = h.name },
          (record { is = refl; valid = h.weight }, tt),
        ),
      ),
    ),
  ),
)

each_is : (rows : List Row) → AllByRecursion IsProperRow rows
    → AllZip ListsRow (map row_data rows) rows
each_is [] h = tt
each_is (r ∷ rs) h = (record { row = row_is r h.0; end = refl }, each_is rs h.1)

pub row_proper : (a b c d e g : Option Data) (r : Row) → SaysRow a b c d e g r → IsProperRow r
row_proper a b c d e g r f = record {
  region = omega (arith, f.0.below);
  zone = omega (arith, f.1.0.below);
  address = f.1.1.0.valid;
  port = (f.1.1.1.0.above, omega (arith, f.1.1.1.0.below));
  name = f.1.1.1.1.0.valid;
  weight = f.1.1.1.1.1.0.valid;
}

each_proper : (lists : List Data) (rows : List Row) → AllZip ListsRow lists rows
    → AllByRecursion IsProperRow rows
each_proper [] [] h = tt
each_proper [] (r ∷ rs) h = absurd h
each_proper (d ∷ ds) [] h = absurd h
each_proper (d ∷ ds) (r ∷ rs) h = (row_proper _ _ _ _ _ _ r h.0.row, each_proper ds rs h.1)

pub rows_proper : (found : Option Data) (rows : List Row) → ListsRows found rows
    → AllByRecursion IsProperRow rows
rows_proper found rows h = each_proper h.lists rows h.each

pub rows_there : (found : Option Data) (rows : List Row) → IsRows found rows → ListsRows found rows
rows_there found rows h =
    record { lists = map row_data rows; is = h.is; each = each_is rows h.valid }

pub are_rows : (found : Option Data) (rows : List Row) → ListsRows found rows → IsRows found rows
are_rows found rows h = record { is = rows_found found rows h; valid = rows_proper found rows h }

-- ---- rows that were read so far

pub all_by_recursion : (rows : List Row) → All IsProperRow rows → AllByRecursion IsProperRow rows
all_by_recursion rows h = recursion_from_All IsProperRow rows h

abbrev pub views : List Value → List Data
views = map view

zip_push : (ds : List Data) (rs : List Row) (d : Data) (r : Row) → AllZip ListsRow ds rs
    → ListsRow d r → AllZip ListsRow (ds ++ d ∷ []) (rs ++ r ∷ [])
zip_push [] [] d r h k = (k, tt)
zip_push [] (s ∷ rs) d r h k = absurd h
zip_push (e ∷ ds) [] d r h k = absurd h
zip_push (e ∷ ds) (s ∷ rs) d r h k = (h.0, zip_push ds rs d r h.1 k)

pub one_more : (lists : List Value) (rows : List Row) (i : ℕ) (list : Value) (row : Row)
    → i < length lists → list ≡ get_or lists i list → AllZip ListsRow (views (take i lists)) rows
    → ListsRow (view list) row
    → AllZip ListsRow (views (take (i + 1) lists)) (rows ++ row ∷ [])
one_more lists rows i list row within is h k =
    let more : views (take (i + 1) lists) ≡ views (take i lists) ++ view list ∷ [] =
    ap views (take_more lists i list within)
    ∙ map-append view (take i lists) (get_or lists i list ∷ [])
    ∙ ap (λ (x : Value). views (take i lists) ++ view x ∷ []) (sym is) in
    subst (λ (ds : List Data). AllZip ListsRow ds (rows ++ row ∷ [])) (sym more)
    (zip_push (views (take i lists)) rows (view list) row h k)

row_at : (lists : List Value) (rows : List Row) (i : ℕ) (list : Value)
    → AllZip ListsRow (views lists) rows → i < length lists
    → (row : Row) × ListsRow (view (get_or lists i list)) row
row_at [] rows i list h lt = absurd (omega (arith, lt))
row_at (v ∷ vs) [] i list h lt = absurd h
row_at (v ∷ vs) (r ∷ rs) zero list h lt = (r, h.0)
row_at (v ∷ vs) (r ∷ rs) (suc i) list h lt = row_at vs rs i list h.1 (omega (arith, lt))

-- where a list is unreadable, so are the lists
pub list_fails : (lists : List Value) (i : ℕ) (list : Value) (e : SpellingFault) → i < length lists
    → list ≡ get_or lists i list → Reads (ListsRow (view list)) (Err e)
    → ReadsAs {X = Vec Row Global} (λ rows. rows.items) (AllZip ListsRow (views lists)) (Err e)
list_fails lists i list Bad within is h = λ rows all.
    let found = row_at lists rows i list all within in
    h found.0 (subst (λ (x : Value). ListsRow (view x) found.0) (sym is) found.1)
list_fails lists i list NoMemory within is h = tt

pub array_there : (d : Data) (ds : Items) → Some ds ≡ as_array d → d ≡ array ds
array_there null ds e = cc
array_there (boolean b) ds e = cc
array_there (number n) ds e = cc
array_there (string s) ds e = cc
array_there (array es) ds e = cc
array_there (object ms) ds e = cc

-- where the lists of an array are unreadable, so is the array
pub rows_fail : (found : Option Data) (value : Data) (lists : List Value) (e : SpellingFault)
    → found ≡ Some value → Some (items_of (views lists)) ≡ as_array value
    → ReadsAs {X = Vec Row Global} (λ rows. rows.items) (AllZip ListsRow (views lists)) (Err e)
    → Reads {X = List Row} (ListsRows found) (Err e)
rows_fail found value lists Bad there is fails = λ rows h.
    let same : h.lists ≡ views lists =
    same_lists h.lists (views lists)
    (array_same _ _ (sym h.is ∙ there ∙ ap Some (array_there value _ is))) in
    fails rows (subst (λ (ls : List Data). AllZip ListsRow ls rows) same h.each)
rows_fail found value lists NoMemory there is fails = tt
