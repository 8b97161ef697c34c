-- How a table is laid out: as lines of cells, each as wide as its column.
use Rattle.std.specs.Prelude.{ℕ, ◌-◌, ◌++◌, List, [], ◌∷◌, length, map, replicate}
use Rattle.std.specs.List.{zip, concat, join_with_byte}

-- a text at the left of its column, and spaces up to the column's width; a longer text stands as it
-- is
abbrev pub at_left : ℕ → List ℕ → List ℕ
at_left width text = text ++ replicate (width - length text) 32

-- a text at the right of its column
abbrev pub at_right : ℕ → List ℕ → List ℕ
at_right width text = replicate (width - length text) 32 ++ text

-- a text in a column without a width
abbrev pub as_it_is : List ℕ → List ℕ
as_it_is text = text

-- The columns of a table: how each sets a text.
abbrev pub Columns : Type 0
Columns = List (List ℕ → List ℕ)

-- texts as cells, one in each column, and a space between each two
abbrev pub cells : Columns → List (List ℕ) → List ℕ
cells columns texts = join_with_byte 32 (map (λ cell. cell.0 cell.1) (zip columns texts))

-- a row: its cells and a line feed
abbrev pub row : Columns → List (List ℕ) → List ℕ
row columns texts = cells columns texts ++ 10 ∷ []

-- a table: the titles of the columns as its first row, and then the other rows
abbrev pub table : Columns → List (List ℕ) → List (List (List ℕ)) → List ℕ
table columns titles rows = row columns titles ++ concat (map (row columns) rows)
