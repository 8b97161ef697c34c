use Rattle.std.proofs.Common.{◌∙◌, ◌++◌, ◌∷◌, [], ap, cond, get_or, sym}
use Rattle.std.proofs.lemmas.List.{append-nil}
use Rattle.ring_place.proofs.Placing.Homes.{none_numbered, numbered_step}
use Rattle.ring_place.proofs.homes.add_numbered.Goals as goal
use Rattle.ring_place.proofs.homes.add_numbered.Goals.{then-is_number+in_ok-push, else-is_number}

pub loop-index-preserved : goal.loop-index-preserved
loop-index-preserved c =
    let before = c.loop-index.list.items in
    let i = c.loop-index.index in
    let p = get_or c.args.partitions.now i 0 in
    let step = numbered_step c.args.list.now.items before c.args.partitions.now c.args.numbers.now
    c.args.number i c.is_number.result c.loop-index-test.true c.requires.as_many c.is_number.ensures
    c.loop-index.invariant in
    elim c.if-is_number.branch [
      | then-is_number+in_ok-push w ↦ rw (w.list-is) (w.in_ok-push.ensures.items
          ∙ ap (λ b. before ++ cond b (p ∷ []) []) (sym w.if-is_number.true) ∙ step)
      | else-is_number w ↦ rw (w.list-is) (sym (append-nil before)
          ∙ ap (λ b. before ++ cond b (p ∷ []) []) (sym w.if-is_number.false) ∙ step)
    ]

pub returns-then-not-found-number : goal.returns-then-not-found-number
returns-then-not-found-number c =
    let before = c.args.list.now.items in
    let none = none_numbered c.args.partitions.now c.args.numbers.now c.args.number
    (c.requires.found c.args.number c.requires.number (c.if-not-found-number.true)) in
    sym (ap (λ xs. before ++ xs) none ∙ append-nil before)
