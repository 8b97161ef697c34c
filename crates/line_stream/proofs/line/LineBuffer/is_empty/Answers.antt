use Rattle.std.proofs.Common.{◌≡◌, [], ◌∷◌, arith, length, List, ℕ, ap, refl}
use Rattle.std.proofs.lemmas.Bool.{eq-eqb, eqb-true}
use Rattle.line_stream.proofs.line.LineBuffer.is_empty.Goals as goal

none : (xs : List ℕ) → length xs ≡ 0 → xs ≡ []
none [] e = refl
none (x ∷ xs) e = absurd (omega arith)

pub returns-then-not-self : goal.returns-then-not-self
returns-then-not-self c =
    let bytes = c.self.inside.bytes in
    let counted = bytes.ok.0 in
    rw (← c.self.view_is, c.if-not-self.true, c.is_empty.ensures) (
      λ is. let zero = eqb-true _ _ is in rw (none bytes.items (omega arith)) refl,
      λ is.
          let empty : bytes.items ≡ [] = cc in
          let zero = ap length empty in
          eq-eqb _ _ (omega arith),
    )
