-- A table grows row by row.
use Rattle.std.proofs.Common.{◌≡◌, ℕ, ◌+◌, ◌<◌, List, [], ◌∷◌, ◌++◌, length, get_or, take, map, sym}
use Rattle.std.proofs.Common.{ap, ◌∙◌, append_assoc}
use Rattle.std.specs.List.{concat, join_with_byte}
use Rattle.std.proofs.lemmas.List.{take_more, map-append, append-nil}
use Rattle.std.proofs.lemmas.List.Folds.{concat-append}
use Rattle.ring_tables.specs.Layout.{Columns, row, table}

-- one more row at the end
pub table_more : (columns : Columns) (titles : List (List ℕ)) (rows : List (List (List ℕ)))
    (next : List (List ℕ)) → table columns titles (rows ++ next ∷ []) ≡ table columns titles rows ++
    row columns next
table_more columns titles rows next =
    let last : concat (map (row columns) (rows ++ next ∷ [])) ≡ concat (map (row columns) rows) ++
    row columns next =
    ap concat (map-append (row columns) rows (next ∷ [])) ∙ concat-append (map (row columns) rows)
    (row columns next ∷ []) ∙ ap (λ (text : List ℕ). concat (map (row columns) rows) ++
    text) (append-nil (row columns next)) in
    ap (λ (rest : List ℕ). row columns titles ++ rest) last ∙ sym (append_assoc (row columns titles)
    (concat (map (row columns) rows)) (row columns next))

-- the texts of the first elements, and of one more
pub texts_more : {X : Type 0} (texts : X → List (List ℕ)) (xs : List X) (i : ℕ) (x : X) →
    i < length xs → x ≡ get_or xs i x → map texts (take (i + 1) xs) ≡ map texts (take i xs) ++
    texts x ∷ []
texts_more {X = X} texts xs i x lt at = ap (map texts) (take_more xs i x lt) ∙ map-append texts
    (take i xs) (get_or xs i x ∷ []) ∙ ap (λ (y : X). map texts (take i xs) ++ texts y ∷
    []) (sym at)

-- the table after the row of one more element
pub next_row : {X : Type 0} (columns : Columns) (titles : List (List ℕ)) (texts : X → List (List ℕ))
    (xs : List X) (i : ℕ) (x : X) (before after text : List ℕ)
    → i < length xs → x ≡ get_or xs i x → before ≡ table columns titles (map texts (take i xs)) →
    text ≡ row columns (texts x) → after ≡ before ++ text
    → after ≡ table columns titles (map texts (take (i + 1) xs))
next_row columns titles texts xs i x before after text lt at so_far is grown =
    grown ∙ ap (λ (l : List ℕ). l ++ text) so_far ∙ ap (λ (l : List ℕ). table columns titles
    (map texts (take i xs)) ++ l) is
    ∙ sym (ap (table columns titles) (texts_more texts xs i x lt at) ∙ table_more columns titles
    (map texts (take i xs)) (texts x))

-- four cells that were added one by one, each with a space behind it
pub four : (t0 t1 t2 t3 t4 a b c d : List ℕ) → t1 ≡ t0 ++ (a ++ 32 ∷ [])
    → t2 ≡ t1 ++ (b ++ 32 ∷ []) → t3 ≡ t2 ++ (c ++ 32 ∷ []) → t4 ≡ t3 ++ (d ++ 32 ∷ [])
    → t4 ≡ t0 ++ ((a ++ 32 ∷ (b ++ 32 ∷ (c ++ 32 ∷ d))) ++ 32 ∷ [])
four t0 t1 t2 t3 t4 a b c d e1 e2 e3 e4 = e4 ∙ rw (e3, e2, e1) (simp append_assoc)

-- five cells as a line
pub five : (t0 t1 t2 t3 t4 t5 a b c d e : List ℕ) → t1 ≡ t0 ++ (a ++ 32 ∷ [])
    → t2 ≡ t1 ++ (b ++ 32 ∷ []) → t3 ≡ t2 ++ (c ++ 32 ∷ []) → t4 ≡ t3 ++ (d ++ 32 ∷ [])
    → t5 ≡ t4 ++ (e ++ 10 ∷ [])
    → t5 ≡ t0 ++ (join_with_byte 32 (a ∷ b ∷ c ∷ d ∷ e ∷ []) ++ 10 ∷ [])
five t0 t1 t2 t3 t4 t5 a b c d e e1 e2 e3 e4 e5 = e5 ∙ rw (e4, e3, e2, e1) (simp append_assoc)

-- a line whose cells were added one by one, the last without a space behind it
line : (t0 t1 t2 t3 t4 t5 t6 a p f g h : List ℕ) → t1 ≡ t0 ++ (a ++ 32 ∷ [])
    → t2 ≡ t1 ++ (p ++ 32 ∷ []) → t3 ≡ t2 ++ (f ++ 32 ∷ []) → t4 ≡ t3 ++ (g ++ 32 ∷ [])
    → t5 ≡ t4 ++ h → t6 ≡ t5 ++ 10 ∷ []
    → t6 ≡ t0 ++ (a ++ 32 ∷ (p ++ 32 ∷ (f ++ 32 ∷ (g ++ 32 ∷ (h ++ 10 ∷ [])))))
line t0 t1 t2 t3 t4 t5 t6 a p f g h e1 e2 e3 e4 e5 e6 =
    e6 ∙ rw (e5, e4, e3, e2, e1) (simp append_assoc)

-- what stands behind four cells stands behind the last of them
behind_four : (b c d e rest : List ℕ) → (b ++ 32 ∷ (c ++ 32 ∷ (d ++ 32 ∷ e))) ++ rest
    ≡ b ++ 32 ∷ (c ++ 32 ∷ (d ++ 32 ∷ (e ++ rest)))
behind_four b c d e rest = simp append_assoc

-- what stands behind eight cells stands behind the last of them
behind_eight : (a b c d e f g h rest : List ℕ)
    → (a ++ 32 ∷ (b ++ 32 ∷ (c ++ 32 ∷ (d ++ 32 ∷ (e ++ 32 ∷ (f ++ 32 ∷ (g ++ 32 ∷ h))))))) ++ rest
    ≡ a ++ 32 ∷ (b ++ 32 ∷ (c ++ 32 ∷ (d ++ 32 ∷ (e ++ 32 ∷ (f ++ 32 ∷ (g ++ 32 ∷ (h ++ rest)))))))
behind_eight a b c d e f g h rest = simp append_assoc

-- eight cells as a line, the second to the fifth added as one text
pub eight : (t0 t1 t2 t3 t4 t5 t6 a b c d e f g h : List ℕ) → t1 ≡ t0 ++ (a ++ 32 ∷ [])
    → t2 ≡ t1 ++ ((b ++ 32 ∷ (c ++ 32 ∷ (d ++ 32 ∷ e))) ++ 32 ∷ [])
    → t3 ≡ t2 ++ (f ++ 32 ∷ []) → t4 ≡ t3 ++ (g ++ 32 ∷ []) → t5 ≡ t4 ++ h
    → t6 ≡ t5 ++ 10 ∷ []
    → t6 ≡ t0 ++ (join_with_byte 32 (a ∷ b ∷ c ∷ d ∷ e ∷ f ∷ g ∷ h ∷ []) ++ 10 ∷ [])
eight t0 t1 t2 t3 t4 t5 t6 a b c d e f g h e1 e2 e3 e4 e5 e6 =
    let rest : List ℕ = 32 ∷ (f ++ 32 ∷ (g ++ 32 ∷ (h ++ 10 ∷ []))) in
    line t0 t1 t2 t3 t4 t5 t6 a (b ++ 32 ∷ (c ++ 32 ∷ (d ++ 32 ∷ e))) f g h e1 e2 e3 e4 e5 e6
    ∙ ap (λ (l : List ℕ). t0 ++ (a ++ 32 ∷ l)) (behind_four b c d e rest)
    ∙ ap (λ (l : List ℕ). t0 ++ l) (sym (behind_eight a b c d e f g h (10 ∷ [])))
