use Rattle.std.proofs.Common.{ap, ◌≡◌, ◌∙◌, ◌∷◌, [], sym, ◌++◌, List, ℕ, string_bytes, rules}
use Rattle.std.proofs.Common.{append_assoc}
use Rattle.std.proofs.lemmas.List.{append-nil}
use Rattle.std.specs.Prelude.{replicate}
use Rattle.ring_tables.proofs.Padding.{one_more}
use Rattle.ring_tables.proofs.cells.push_spaces.Goals as goal

pub loop-space-init : goal.loop-space-init
loop-space-init c = sym (append-nil (string_bytes c.args.into.now))

pub loop-space-preserved : goal.loop-space-preserved
loop-space-preserved c =
    let pushed : string_bytes c.push_str-in-loop-space.new.self
    ≡ string_bytes c.loop-space.into ++ 32 ∷ [] = search rules in
    let before = string_bytes c.args.into.now in
    let so_far = replicate c.loop-space._space 32 in
    pushed ∙ ap (λ (l : List ℕ). l ++ 32 ∷ []) c.loop-space.invariant ∙
    append_assoc before so_far (32 ∷ []) ∙
    ap (λ (l : List ℕ). before ++ l) (sym (one_more c.loop-space._space 32))
